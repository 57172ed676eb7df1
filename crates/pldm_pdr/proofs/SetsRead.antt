-- Reading sets one after the other, as a loop does.
use Rattle.std.proofs.Common.{◌≡◌, ℕ, suc, ◌-◌, ◌+◌, ◌≤◌, ◌<◌, List, [], ◌∷◌, ◌++◌, Ok, Err, refl, sym, ap, ◌∙◌, append_assoc, arith}
use Rattle.std.proofs.lemmas.List.{append-nil}
use Rattle.pldm_pdr.specs.declared.fault.RecordFault.{RecordFault}
use Rattle.pldm_pdr.specs.declared.possible_states.PossibleStates.{PossibleStates}
use Rattle.pldm_pdr.specs.Fields.{and_then, Field}
use Rattle.pldm_pdr.specs.StateSets.{possible_states_at, sets_at}

-- what was read before, and what is still read
pub with_front : List PossibleStates → Field (List PossibleStates) → Field (List PossibleStates)
with_front front (Ok x) = Ok (front ++ x.0, x.1)
with_front front (Err fault) = Err fault

pub no_front : (read : Field (List PossibleStates)) → with_front [] read ≡ read
unfolding with_front
no_front (Ok x) = refl
no_front (Err fault) = refl

one_more : (front : List PossibleStates) (n : PossibleStates) (read : Field (List PossibleStates))
    → with_front front (and_then read (λ x. Ok (n ∷ x.0, x.1))) ≡ with_front (front ++ n ∷ []) read
unfolding and_then with_front
one_more front n (Ok x) = ap (λ (sets : List PossibleStates). Ok (sets, x.1)) (simp append_assoc)
one_more front n (Err fault) = refl

pub next_set : (front : List PossibleStates) (count i : ℕ) (bytes : List ℕ) (n : PossibleStates) (after : List ℕ) (total : Field (List PossibleStates)) → i < count → possible_states_at bytes ≡ Ok (n, after)
    → with_front front (sets_at (count - i) bytes) ≡ total → with_front (front ++ n ∷ []) (sets_at (count - (i + 1)) after) ≡ total
unfolding sets_at and_then
next_set front count i bytes n after total lt h so_far =
    let k : count - i ≡ suc (count - (i + 1)) = omega arith in
    let one : with_front front (sets_at (count - i) bytes) ≡ with_front (front ++ n ∷ []) (sets_at (count - (i + 1)) after) = rw (k, h) (one_more front n (sets_at (count - (i + 1)) after)) in
    sym one ∙ so_far

pub no_set : (fault : RecordFault) (front : List PossibleStates) (count i : ℕ) (bytes : List ℕ) (total : Field (List PossibleStates)) → i < count → possible_states_at bytes ≡ Err fault
    → with_front front (sets_at (count - i) bytes) ≡ total → total ≡ Err fault
unfolding sets_at and_then with_front
no_set fault front count i bytes total lt h so_far =
    let k : count - i ≡ suc (count - (i + 1)) = omega arith in
    let one : with_front front (sets_at (count - i) bytes) ≡ Err fault = rw (k, h) refl in
    sym so_far ∙ one

pub all_sets : (front : List PossibleStates) (count i : ℕ) (bytes : List ℕ) (total : Field (List PossibleStates)) → count ≤ i
    → with_front front (sets_at (count - i) bytes) ≡ total → total ≡ Ok (front, bytes)
unfolding sets_at with_front
all_sets front count i bytes total le so_far =
    let k : count - i ≡ 0 = omega arith in
    let one : with_front front (sets_at (count - i) bytes) ≡ Ok (front, bytes) = rw k (ap (λ (sets : List PossibleStates). Ok (sets, bytes)) (append-nil front)) in
    sym so_far ∙ one
