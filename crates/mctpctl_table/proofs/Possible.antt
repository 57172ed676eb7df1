-- The possible states, one after the other.
use Rattle.std.proofs.Common.{◌≡◌, ℕ, suc, ◌-◌, ◌+◌, ◌≤◌, ◌<◌, List, [], ◌∷◌, ◌++◌, ◌∙◌, append_assoc, append-nil, sym, arith, if◌then◌else◌}
use Rattle.pldm_pdr.specs.StateSets.{has_state}
use Rattle.mctpctl_table.specs.States.{possible_from}

-- one more is looked at
pub one_more : (count state : ℕ) (bits old new whole : List ℕ)
    → state < count → new ≡ old ++ (if has_state bits state then state ∷ [] else [])
    → old ++ possible_from (count - state) state bits ≡ whole
    → new ++ possible_from (count - (state + 1)) (state + 1) bits ≡ whole
unfolding possible_from
one_more count state bits old new whole lt is_new before =
    let left : count - state ≡ suc (count - (state + 1)) = omega arith in
    rw is_new (append_assoc old (if has_state bits state then state ∷ [] else []) (possible_from (count - (state + 1)) (state + 1) bits) ∙ (rw left at before))

-- none is left
pub all_seen : (count state : ℕ) (bits found whole : List ℕ)
    → count ≤ state → found ++ possible_from (count - state) state bits ≡ whole → found ≡ whole
unfolding possible_from
all_seen count state bits found whole le before =
    let left : count - state ≡ 0 = omega arith in
    sym (append-nil found) ∙ (rw left at before)
