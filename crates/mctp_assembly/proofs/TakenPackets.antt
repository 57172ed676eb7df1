-- What a packet that was taken at a place leaves among the open messages.
use Rattle.std.proofs.Common.{◌≡◌, ◌≢◌, ℕ, Bool, true, false, cond, ◌==◌, eqb-true, [], ◌∷◌, ◌++◌, Some, None, Option, refl, sym, ◌∙◌, ap, subst}
use Rattle.std.specs.Prelude.{slice_set, slice_index_or, List}
use Rattle.std.specs.List.{All, swap_remove}
use Rattle.std.proofs.lemmas.List.{set-get_or}
use Rattle.mctp_packet.specs.Packets.{Packet}
use Rattle.mctp_packet.specs.declared.TheConstants.{MAX_PACKETS}
use Rattle.mctp_packet.specs.declared.reason.Reason.{Reason}
use Rattle.mctp_assembly.specs.Fed.{fed_with}
use Rattle.mctp_assembly.specs.NumberLists.{Changes, Differ, IsAt, at}
use Rattle.mctp_assembly.specs.Numbered.{Numbered, AreOpen, IsEntry, none_open}
use Rattle.mctp_assembly.specs.Opened.{Opened, IsOpened}
use Rattle.mctp_assembly.specs.Steps.{answer_alone, answer_to, begun_by, carried_on, left_by}
use Rattle.mctp_assembly.specs.declared.fed.Assembled.{Assembled}
use Rattle.mctp_assembly.specs.declared.fed.Assembled.TheVariants.{Whole, Partial, Dropped}
use Rattle.mctp_assembly.proofs.PacketEnds.{none_partial}
use Rattle.mctp_assembly.proofs.DifferingPlaces.{read_at, written_at, taken_out, appended, none_of}
use Rattle.mctp_assembly.proofs.NumberPlaces.{change_of, unchanged}
use Rattle.mctp_assembly.proofs.OpenPlaces.{open_written, open_left}

-- what a packet leaves under a number, by what it gives where this is open there
abbrev Leaves : Numbered → Numbered → ℕ → Packet → Type 0
Leaves old new k p = Changes old new k (left_by (answer_to MAX_PACKETS (at old k) p) (at old k) p)

kept : (given : Assembled) (body : List ℕ) (o v : Opened) (p : Packet) → (given ≡ Partial → v ≡ carried_on (Some o) p) → (given ≢ Partial → v ≡ o)
    → ((reason : Reason) → given ≡ Dropped reason → ⊥) → Some v ≡ left_by (fed_with body given) (Some o) p
kept Whole body o v p partial other stays = ap Some (other (λ same. cc))
kept Partial body o v p partial other stays = ap Some (partial refl)
kept (Dropped reason) body o v p partial other stays = absurd (stays reason refl)

not_begun : (given : Assembled) (body : List ℕ) (p : Packet) → (given ≡ Partial → ⊥) → None ≡ left_by (fed_with body given) None p
not_begun Whole body p other = refl
not_begun Partial body p other = absurd (other refl)
not_begun (Dropped reason) body p other = refl

left_kept : (given : Assembled) (body : List ℕ) (o : Option Opened) (p : Packet) → p.end ≡ true → fed_with body given ≡ answer_to MAX_PACKETS o p
    → ((reason : Reason) → given ≡ Dropped reason → ⊥) → o ≡ left_by (answer_to MAX_PACKETS o p) o p
left_kept Whole body o p ended fed stays = ap (λ f. left_by f o p) fed
left_kept Partial body o p ended fed stays = absurd (none_partial o p ended fed)
left_kept (Dropped reason) body o p ended fed stays = absurd (stays reason refl)

same_at : {X : Type 0} (b : Bool) (here there : X) → (b ≡ true → there ≡ here) → there ≡ cond b here there
same_at true here there same = same refl
same_at false here there same = refl

-- ---- at the place of the number
module _ (l m : Numbered) (same : l ≡ m) (differ : Differ none_open l) (k place : ℕ) (found : IsAt none_open m k place)
    (d : ℕ × Opened) (read : d ≡ slice_index_or l place d) (w : ℕ × Opened) (number : w.0 ≡ d.0) where
  is : IsAt none_open l k place
  is = subst (λ (list : Numbered). IsAt none_open list k place) (sym same) found

  here : Some d.1 ≡ at m k
  here = sym (read_at none_open l differ k place is d read) ∙ ap (λ (list : Numbered). at list k) same

  pub open_taken : All IsEntry l → IsOpened w.1 → AreOpen (slice_set l place w)
  open_taken each opened = open_written l differ k place is d w read number each opened

  -- an entry that is as it was leaves the list as it was
  as_it_was : w ≡ d → slice_set l place w ≡ l
  as_it_was entry = ap (slice_set l place) entry ∙ subst (λ (e : ℕ × Opened). slice_set l place e ≡ l) (sym read) (set-get_or l place d)

  pub open_dropped : (new : Numbered) → new ≡ swap_remove (slice_set l place w) place (0, none_open) → w ≡ d → All IsEntry l → AreOpen new
  open_dropped new removed entry each =
      subst AreOpen (sym (removed ∙ ap (λ (list : Numbered). swap_remove list place (0, none_open)) (as_it_was entry))) (open_left l differ k place is each)

  module _ (p : Packet) (given : Assembled) (body : List ℕ) (fed : fed_with body given ≡ answer_to MAX_PACKETS (Some d.1) p) where
    pub fed_here : fed_with body given ≡ answer_to MAX_PACKETS (at m k) p
    fed_here = fed ∙ ap (λ o. answer_to MAX_PACKETS o p) here

    left_here : left_by (fed_with body given) (Some d.1) p ≡ left_by (answer_to MAX_PACKETS (at m k) p) (at m k) p
    left_here = ap (λ f. left_by f (Some d.1) p) fed_here ∙ ap (λ o. left_by (answer_to MAX_PACKETS (at m k) p) o p) here

    pub taken_here : (given ≡ Partial → w.1 ≡ carried_on (Some d.1) p) → (given ≢ Partial → w ≡ d) → ((reason : Reason) → given ≡ Dropped reason → ⊥)
        → Leaves m (slice_set l place w) k p
    taken_here partial other stays =
        let opened = kept given body d.1 w.1 p partial (λ is. ap (λ (e : ℕ × Opened). e.1) (other is)) stays in
        change_of none_open l m _ k (Some w.1) _ same (opened ∙ left_here)
        (subst (λ n. Changes l (slice_set l place (n, w.1)) k (Some w.1)) (sym number) (written_at none_open l differ k place is d w.1 read))

    pub kept_here : p.end ≡ true → ((reason : Reason) → given ≡ Dropped reason → ⊥) → Leaves m m k p
    kept_here ended stays = subst (λ o. Changes m m k o) (left_kept given body (at m k) p ended fed_here stays) (λ q. same_at (k == q) (at m k) (at m q) (λ same. ap (at m) (sym (eqb-true k q same))))

    pub ended_here : (new : Numbered) (reason : Reason) → new ≡ swap_remove l place (0, none_open) → given ≡ Dropped reason → Leaves m new k p
    ended_here new reason removed dropped =
        change_of none_open l m new k None _ same (ap (λ g. left_by (fed_with body g) (Some d.1) p) (sym dropped) ∙ left_here)
        (subst (λ (new : Numbered). Changes l new k None) (sym removed) (taken_out none_open l differ k place is))

    pub dropped_here : (new : Numbered) (reason : Reason) → new ≡ swap_remove (slice_set l place w) place (0, none_open) → w ≡ d → given ≡ Dropped reason → Leaves m new k p
    dropped_here new reason removed entry dropped =
        ended_here new reason (removed ∙ ap (λ (list : Numbered). swap_remove list place (0, none_open)) (as_it_was entry)) dropped

-- ---- where nothing is open under the number
module _ (m : Numbered) (k : ℕ) (nothing : at m k ≡ None) (p : Packet) (given : Assembled) (body : List ℕ) (fed : fed_with body given ≡ answer_alone p) where
  none : None ≡ at m k
  none = sym nothing

  pub fed_alone : fed_with body given ≡ answer_to MAX_PACKETS (at m k) p
  fed_alone = fed ∙ ap (λ o. answer_to MAX_PACKETS o p) none

  left_alone : left_by (fed_with body given) None p ≡ left_by (answer_to MAX_PACKETS (at m k) p) (at m k) p
  left_alone = ap (λ f. left_by f None p) fed_alone ∙ ap (λ o. left_by (answer_to MAX_PACKETS (at m k) p) o p) none

  -- behind the others
  pub begun_here : (l new : Numbered) (begun : ℕ × Opened) → l ≡ m → new ≡ l ++ begun ∷ [] → begun ≡ (k, begun_by p) → given ≡ Partial → Leaves m new k p
  begun_here l new begun same pushed entry partial =
      let opened = ap (λ g. left_by (fed_with body g) None p) (sym partial) ∙ left_alone in
      let made : new ≡ m ++ (k, begun_by p) ∷ [] = pushed ∙ ap (λ e. l ++ e ∷ []) entry ∙ ap (λ (list : Numbered). list ++ (k, begun_by p) ∷ []) same in
      change_of none_open m m new k (Some (begun_by p)) _ refl opened
      (subst (λ (new : Numbered). Changes m new k (Some (begun_by p))) (sym made) (appended none_open m k (begun_by p) (none_of none_open m k nothing)))

  pub unchanged_at_end : p.end ≡ true → Leaves m m k p
  unchanged_at_end ended = change_of none_open m m m k None _ refl (not_begun given body p (λ partial. none_partial None p ended (ap (fed_with body) (sym partial) ∙ fed)) ∙ left_alone) (unchanged none_open m k (sym none))

  pub unchanged_here : (given ≡ Partial → ⊥) → Leaves m m k p
  unchanged_here other = change_of none_open m m m k None _ refl (not_begun given body p other ∙ left_alone) (unchanged none_open m k (sym none))
