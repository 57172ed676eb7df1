-- What is held after a call is what looking back over the longer list of calls leaves.
use Rattle.std.specs.FinMap as map
use Rattle.std.proofs.Common.{◌≡◌, ℕ, zero, suc, Bool, true, false, cond, List, [], ◌∷◌, Option, Some, None, is_some, refl, sym, ap, ◌∙◌, arith}
use Rattle.std.specs.declared.cmp.Ordering.{Ordering}
use Rattle.std.specs.declared.cmp.Ordering.TheVariants.{Less, Equal, Greater}
use Rattle.std.specs.Ordering.{eq_by_cmp, is_eq}
use Rattle.std.specs.Option.{option_map, option_and_then}
use Rattle.mctp_packet.specs.Packets.{Packet}
use Rattle.mctp_assembly.specs.Keys.{key_cmp, key_of}
use Rattle.mctp_assembly.specs.Opened.{Opened}
use Rattle.mctp_assembly.specs.Rows.{next_within}
use Rattle.mctp_assembly.specs.Steps.{OpenMessages, answer_to, carried_on, stays_open, answer_within, after_within}
use Rattle.mctp_assembly.specs.Histories.{Call, feed, since, opened, left_open_within, IsLeftWithin}
use Rattle.mctp_assembly.specs.Laws.{FeedLooksBack, ForgetLooksBack, NewLooksBack, HeldWhereBegun}
use Rattle.mctp_assembly.specs.declared.key.Key.{Key}
use Rattle.mctp_assembly.proofs.KeyOrder.{keys_total, keys_exact}
use Rattle.mctp_assembly.proofs.RowsByStep.{row_in, rows_by_step, row_headed}
use Rattle.mctp_assembly.proofs.StepsLookBack.{answer_looks_back, leaves_row}

tied : (r : Ordering) → is_eq r ≡ true → r ≡ Equal
tied Less h = cc
tied Equal h = refl
tied Greater h = cc

same_key : (k q : Key) → eq_by_cmp key_cmp k q ≡ true → k ≡ q
same_key k q h = keys_exact k q (tied (key_cmp k q) h)

held_after : (stays : Bool) (held : OpenMessages) (k q : Key) (v : Opened)
    → map.get (cond stays (map.insert held k v) (map.remove held k)) q ≡ cond (eq_by_cmp key_cmp q k) (cond stays (Some v) None) (map.get held q)
held_after true held k q v = map.get-insert keys_total held k v q
held_after false held k q v = map.get-remove keys_total held k q

module _ (n : ℕ) (held : OpenMessages) (calls : List Call) (p : Packet) (left : IsLeftWithin (suc n) held calls) where
  here : (k : Key) (b : Bool) → eq_by_cmp key_cmp k (key_of p) ≡ b
      → cond b (cond (stays_open (answer_within (suc n) held p)) (Some (carried_on (map.get held (key_of p)) p)) None) (map.get held k) ≡ left_open_within (suc n) (cond b (p ∷ since k calls) (since k calls))
  here k false h = left k
  here k true h =
      ap (λ o. cond (stays_open (answer_to (suc n) o p)) (Some (carried_on o p)) None) (left (key_of p))
      ∙ leaves_row n (since (key_of p) calls) p
      ∙ ap (λ q. left_open_within (suc n) (p ∷ since q calls)) (sym (same_key k (key_of p) h))

  fed : (answer_within (suc n) held p ≡ next_within (suc n) (since (key_of p) calls) p) × IsLeftWithin (suc n) (after_within (suc n) held p) (feed p ∷ calls)
  fed = (
    ap (λ o. answer_to (suc n) o p) (left (key_of p)) ∙ answer_looks_back n (since (key_of p) calls) p,
    λ k. held_after (stays_open (answer_within (suc n) held p)) held (key_of p) k (carried_on (map.get held (key_of p)) p) ∙ here k (eq_by_cmp key_cmp k (key_of p)) refl,
  )

pub feed_looks_back : FeedLooksBack
feed_looks_back zero held calls p some left = absurd (omega arith)
feed_looks_back (suc n) held calls p some left = fed n held calls p left

nothing_left : (limit : ℕ) → left_open_within limit [] ≡ None
nothing_left zero = refl
nothing_left (suc n) = ap (option_and_then opened) (rows_by_step (suc n) [])

pub forget_looks_back : ForgetLooksBack
forget_looks_back limit held calls key left =
    let here : (k : Key) (b : Bool) → cond b None (map.get held k) ≡ left_open_within limit (cond b [] (since k calls)) =
    λ k b. elim b as (λ b. cond b None (map.get held k) ≡ left_open_within limit (cond b [] (since k calls))) [ true ↦ sym (nothing_left limit) | false ↦ left k ] in
    λ k. map.get-remove keys_total held key k ∙ here k (eq_by_cmp key_cmp k key)

pub new_looks_back : NewLooksBack
new_looks_back limit = λ k. map.get-empty key_cmp k ∙ sym (nothing_left limit)

open_headed : (q : Packet) (o : Option (List Packet)) → is_some (option_and_then opened (option_map (λ qs. q ∷ qs) o)) ≡ is_some (option_map (λ qs. q ∷ qs) o)
open_headed q None = refl
open_headed q (Some rest) = refl

open_row : (n : ℕ) (ps : List Packet) → is_some (option_and_then opened (row_in n ps)) ≡ is_some (row_in n ps)
open_row zero ps = refl
open_row (suc n) [] = refl
open_row (suc n) (q ∷ qs) =
    let headed = row_headed (suc n) q qs in
    ap (λ r. is_some (option_and_then opened r)) headed.1 ∙ open_headed q headed.0 ∙ ap (λ r. is_some r) (sym headed.1)

pub held_where_begun : HeldWhereBegun
held_where_begun limit held calls key left =
    let ps = since key calls in
    ap (λ o. is_some o) (left key) ∙ ap (λ r. is_some (option_and_then opened r)) (rows_by_step limit ps) ∙ open_row limit ps ∙ ap (λ r. is_some r) (sym (rows_by_step limit ps))
