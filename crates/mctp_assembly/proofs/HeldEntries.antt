-- What is held, by the open messages in their list, and what a packet leaves held.
use Rattle.std.specs.FinMap as map
use Rattle.std.proofs.Common.{suc, ℕ, ◌*◌, ◌≤◌, ◌==◌, [], ◌∷◌, length, IfSome, subst, arith, ◌≡◌, Bool, true, false, cond, Option, Some, None, Result, Ok, Err, IfOk, OnOk, refl, sym, ap, ◌∙◌}
use Rattle.std.specs.List.{All}
use Rattle.std.proofs.Math.Nat.{mul-le-mul}
use Rattle.std.proofs.lemmas.Option.{IfSome_then}
use Rattle.mctp_packet.specs.Packets.{Packet}
use Rattle.mctp_packet.specs.declared.TheConstants.{MAX_PACKETS, BASELINE_UNIT, MAX_MESSAGE_BYTES}
use Rattle.mctp_assembly.specs.Keys.{IsKey, key_of}
use Rattle.mctp_assembly.specs.NumberLists.{Changes, at}
use Rattle.mctp_assembly.specs.Numbered.{Numbered, IsEntry, held_in, number_of}
use Rattle.mctp_assembly.specs.Opened.{Opened, IsOpened}
use Rattle.mctp_assembly.specs.Steps.{OpenMessages, answer_to, carried_on, stays_open, left_by, unless_whole, after_without_ending}
use Rattle.mctp_assembly.specs.declared.key.Key.{Key}
use Rattle.mctp_assembly.specs.declared.fed.Fed.{Fed}
use Rattle.mctp_assembly.specs.declared.fed.Fed.TheVariants.{Whole, Partial, Dropped}
use Rattle.mctp_assembly.proofs.KeyNumbers.{get_held, got, inserted_held, removed_held, unchanged_held, is_key}

-- what stands under a key's number is what is held at the packet's key
pub held_at : (l : Numbered) (held : OpenMessages) (k q : Key) (n : ℕ) → held_in l ≡ held → IsKey k → n ≡ number_of k → k ≡ q → at l n ≡ map.get held q
held_at l held k q n made valid number same =
    ap (at l) number ∙ sym (get_held l k valid) ∙ ap (λ m. map.get m k) made ∙ ap (map.get held) same

-- what is held after a packet that gave this, where a whole message is left
abbrev held_after : OpenMessages → Packet → Fed → OpenMessages
held_after held p fed =
    unless_whole fed held (cond (stays_open fed) (map.insert held (key_of p) (carried_on (map.get held (key_of p)) p)) (map.remove held (key_of p)))

left_at : (l new : Numbered) (k : Key) (p : Packet) (fed : Fed) → IsKey k → Changes l new (number_of k) (left_by fed (at l (number_of k)) p)
    → at l (number_of k) ≡ map.get (held_in l) k → k ≡ key_of p → held_in new ≡ held_after (held_in l) p fed
left_at l new k p (Whole body) valid change here same = unchanged_held l new (number_of k) change
left_at l new k p Partial valid change here same =
    inserted_held l new k (carried_on (at l (number_of k)) p) valid change ∙ ap (λ o. map.insert (held_in l) k (carried_on o p)) here
    ∙ ap (λ q. map.insert (held_in l) q (carried_on (map.get (held_in l) q) p)) same
left_at l new k p (Dropped reason) valid change here same = removed_held l new k valid change ∙ ap (map.remove (held_in l)) same

-- a list that has, under the number of the packet's key, what the packet leaves there
pub left_in : (l new : Numbered) (held : OpenMessages) (k : Key) (n : ℕ) (p : Packet) → held_in l ≡ held → IsKey k → n ≡ number_of k → k ≡ key_of p
    → Changes l new n (left_by (answer_to MAX_PACKETS (at l n) p) (at l n) p) → held_in new ≡ after_without_ending held p
left_in l new held k n p made valid number same change =
    let under : Changes l new (number_of k) (left_by (answer_to MAX_PACKETS (at l (number_of k)) p) (at l (number_of k)) p)
    = subst (λ n. Changes l new n (left_by (answer_to MAX_PACKETS (at l n) p) (at l n) p)) number change in
    let gives = ap (λ o. answer_to MAX_PACKETS o p) (held_at l held k (key_of p) (number_of k) made valid refl same) in
    left_at l new k p (answer_to MAX_PACKETS (at l (number_of k)) p) valid under (sym (get_held l k valid)) same
    ∙ ap (λ held. held_after held p (answer_to MAX_PACKETS (at l (number_of k)) p)) made ∙ ap (held_after held p) gives

fits : (o : Opened) → IsOpened o → length o.bytes ≤ MAX_MESSAGE_BYTES
fits o h =
    let product : o.count * o.unit ≤ MAX_PACKETS * BASELINE_UNIT = mul-le-mul h.few h.baseline in
    omega (arith, h.full)

-- what stands under a number is begun and not ended
one_of : (b : Bool) (o : Opened) (x : Option Opened) → IsOpened o → IfSome x IsOpened → IfSome (cond b (Some o) x) IsOpened
one_of true o x one other = one
one_of false o x one other = other

opened_at : (l : Numbered) → All IsEntry l → (n : ℕ) → IfSome (at l n) IsOpened
opened_at [] each n = tt
opened_at ((m, o) ∷ rest) each n =
    one_of (m == n) o (at rest n) (each 0 (m, o) (omega arith)).opened (opened_at rest (λ i d in_range. each (suc i) d (omega arith)) n)

if_key : (b : Bool) (x : Option Opened) → IfSome x IsOpened → IfSome (cond b x None) IsOpened
if_key true x h = h
if_key false x h = tt

-- what is open on each key fits in a message
pub small_held : (l : Numbered) (held : OpenMessages) → held_in l ≡ held → All IsEntry l → (key : Key) → IfSome (map.get held key) (λ o. length o.bytes ≤ MAX_MESSAGE_BYTES)
small_held l held made each key =
    IfSome_then (map.get held key)
    (subst (λ o. IfSome o IsOpened) (sym (got l key) ∙ ap (λ m. map.get m key) made) (if_key (is_key key) (at l (number_of key)) (opened_at l each (number_of key))))
    fits

-- what holds of a result where one fact does, holds where an equal one does
pub gives_by : {T E A : Type 0} (r : Result T E) (f : T → A) (a b : A) → IfOk r (λ x. f x ≡ a) → a ≡ b → IfOk r (λ x. f x ≡ b)
gives_by (Ok x) f a b h same = h ∙ same
gives_by (Err e) f a b h same = tt

pub ok_by : {T E P Q : Type 0} (r : Result T E) → OnOk r P → (P → Q) → OnOk r Q
ok_by (Ok x) h then = then h
ok_by (Err e) h then = tt
