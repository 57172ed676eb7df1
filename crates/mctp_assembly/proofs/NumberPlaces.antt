-- What a search finds among numbers that rise or differ, and what a change at that place leaves.
use Rattle.std.proofs.Common.{◌≡◌, ℕ, ◌+◌, ◌-◌, ◌<◌, ◌≤◌, Some, None, Option, Bool, true, false, cond, ◌==◌, eqb-true, refl, sym, ◌∙◌, ap, subst, arith}
use Rattle.std.specs.Prelude.{slice_set, slice_index_or}
use Rattle.std.specs.List.{insert, remove}
use Rattle.std.proofs.lemmas.List.Edits.{length-insert, get_or-insert_below, get_or-insert_at, get_or-insert_above, length-remove, get_or-remove_below, get_or-remove_above}
use Rattle.std.proofs.lemmas.Grind.{common_steps}
use Rattle.mctp_assembly.specs.NumberLists.{NumberList, Differ, Rises, number_in, at, IsAt, IsGapFor, Changes}
use Rattle.mctp_assembly.proofs.NumberLookups.{absent, inserted}
use Rattle.mctp_assembly.proofs.DifferingPlaces as differing

module _ {X : Type 0} (past : X) where
  module _ (l : NumberList X) (rises : Rises past l) (k place : ℕ) (is : IsAt past l k place) where
    differ : Differ past l
    differ = differing.differ_as_they_rise past l rises

    pub open_at : (d : ℕ × X) → at l k ≡ Some (slice_index_or l place d).1
    open_at = differing.open_at past l differ k place is

    pub rises_changed : (v : X) → Rises past (slice_set l place (k, v))
    rises_changed v i j lt in_range = grind (arith, common_steps, rises i j, rises i place, rises place j, is.in_range, is.has)

    pub removed_at : Changes l (remove l place) k None
    removed_at = differing.removed_at past l differ k place is

    pub rises_removed : Rises past (remove l place)
    rises_removed i j lt in_range =
        let new = remove l place in
        let number = λ (x : ℕ × X). x.0 in
        let length_new = length-remove l place is.in_range in
        let below : (i : ℕ) → i < place → number_in past new i ≡ number_in past l i = λ i lower. ap number (get_or-remove_below l place (0, past) i lower is.in_range) in
        let above : (i : ℕ) → place ≤ i → number_in past new i ≡ number_in past l (i + 1) = λ i upper. ap number (get_or-remove_above l place (0, past) i upper is.in_range) in
        grind (arith, below i, above i, below j, above j, rises i j, rises i (j + 1), rises (i + 1) (j + 1))

    -- what was read at the place
    pub here : (d : ℕ × X) → d ≡ slice_index_or l place d → d.0 ≡ k
    here = differing.here past l differ k place is

    pub read_at : (d : ℕ × X) → d ≡ slice_index_or l place d → at l k ≡ Some d.1
    read_at = differing.read_at past l differ k place is

    -- and what is written there with its number
    pub written_at : (d : ℕ × X) (v : X) → d ≡ slice_index_or l place d → Changes l (slice_set l place (d.0, v)) k (Some v)
    written_at = differing.written_at past l differ k place is

  module _ (l : NumberList X) (k place : ℕ) (gap : IsGapFor past l k place) where
    pub none_in_gap : at l k ≡ None
    none_in_gap = absent past l k (λ j lt same. grind (arith, gap.smaller j, gap.greater j))

    pub inserted_at : (v : X) → Changes l (insert l place (k, v)) k (Some v)
    inserted_at v = inserted past l k v place (λ j lt same. omega (arith, gap.smaller j lt))

    pub rises_inserted : (v : X) → Rises past l → Rises past (insert l place (k, v))
    rises_inserted v rises i j lt in_range =
        let new = insert l place (k, v) in
        let number = λ (x : ℕ × X). x.0 in
        let length_new = length-insert l place (k, v) gap.in_range in
        let below : (i : ℕ) → i < place → number_in past new i ≡ number_in past l i = λ i lower. ap number (get_or-insert_below l place (k, v) (0, past) i lower gap.in_range) in
        let here : (i : ℕ) → i ≡ place → number_in past new i ≡ k = λ i here. rw here (ap number (get_or-insert_at l place (k, v) (0, past) gap.in_range)) in
        let above : (i : ℕ) → place < i → number_in past new i ≡ number_in past l (i - 1) = λ i upper. subst (λ q. number_in past new q ≡ number_in past l (i - 1)) {x = i - 1 + 1} (omega arith) (ap number (get_or-insert_above l place (k, v) (0, past) (i - 1) (omega arith) gap.in_range)) in
        grind (arith, below i, here i, above i, below j, here j, above j, rises i j, rises i (j - 1), rises (i - 1) (j - 1), gap.smaller i, gap.greater (j - 1))

  -- a change is one of an equal list
  pub change_of : (l m new : NumberList X) (n : ℕ) (o p : Option X) → l ≡ m → o ≡ p → Changes l new n o → Changes m new n p
  change_of l m new n o p same is h = subst (λ (m : NumberList X). Changes m new n p) same (subst (λ (p : Option X). Changes l new n p) is h)

  -- to leave a list as it is where the number has nothing is to leave nothing there
  none_if : (b : Bool) (o : Option X) → (b ≡ true → o ≡ None) → o ≡ cond b None o
  none_if true o h = h refl
  none_if false o h = refl

  pub unchanged : (l : NumberList X) (n : ℕ) → at l n ≡ None → Changes l l n None
  unchanged l n none q = none_if (n == q) (at l q) (λ same. sym (ap (at l) (eqb-true n q same)) ∙ none)
