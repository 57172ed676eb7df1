-- What is remembered, and listed, once a tick has come to the slot of one request more.
use Rattle.std.proofs.Common.{◌≡◌, ◌⊎◌, ℕ, ◌+◌, ◌%◌, ◌<◌, ◌≤◌, Bool, true, false, cond, List, [], ◌∷◌, ◌++◌, length, Option, Some, sym, ap, ◌∙◌, inl, inr, arith, eq-eqb, length-append}
use Rattle.std.specs.Prelude.{◌==◌, option_map, slice_get, slice_set, slice_index_or}
use Rattle.std.proofs.lemmas.Bool.{cases_eq, cond-true, cond-false, ne_eqb}
use Rattle.std.proofs.lemmas.Option.{slice_get_within, get_or_from_slice_get}
use Rattle.pldm_requester.specs.Courses.{Course}
use Rattle.pldm_requester.specs.Steps.{Memo, is_recent, passes}
use Rattle.pldm_requester.specs.Slots.{remembered_in, AreSlots}
use Rattle.pldm_requester.proofs.SlotLists.{remembered_parts, remembered_in-set, remembered_there}

-- what is read in the slot of a request is what is remembered of it
module _ (count n : ℕ) (slots : List Memo) (seen memo : Memo) (are : AreSlots count slots) (below : n < count) (near : count ≤ n + 32) (at : memo ≡ slice_index_or slots (n % 32) seen) where
  found : (m : Memo) × (remembered_in count slots n ≡ Some m)
  found = remembered_there count slots n are below near

  parts : (is_recent count n ≡ true) × (slice_get slots (n % 32) ≡ Some found.0)
  parts = remembered_parts count slots n found.0 found.1

  is_read : remembered_in count slots n ≡ Some memo
  is_read = found.1 ∙ ap Some (sym (get_or_from_slice_get slots (n % 32) found.0 seen parts.1) ∙ sym at)

  set_slot : (new : Memo) (k : ℕ) → remembered_in count (slice_set slots (n % 32) new) k ≡ cond (k == n) (Some new) (remembered_in count slots k)
  set_slot new k = remembered_in-set count n k slots new parts.0 (slice_get_within slots (n % 32) found.0 parts.1)

  -- it was that before the first slot was written
  module _ (initial : List Memo) (left : (k : ℕ) → n ≤ k → remembered_in count slots k ≡ remembered_in count initial k) where
    pub is_first : remembered_in count initial n ≡ Some memo
    is_first = sym (left n (omega arith)) ∙ is_read

    pub changed_more : (change : Memo → Memo) (new : Memo) → new ≡ change memo → ((k : ℕ) → k < n → remembered_in count slots k ≡ option_map change (remembered_in count initial k))
        → (k : ℕ) → k < n + 1 → remembered_in count (slice_set slots (n % 32) new) k ≡ option_map change (remembered_in count initial k)
    changed_more change new is before k l = set_slot new k ∙ go (cases_eq k n)
      where
        go : (k ≡ n) ⊎ (k ≡ n → ⊥) → cond (k == n) (Some new) (remembered_in count slots k) ≡ option_map change (remembered_in count initial k)
        go (inl same) =
            cond-true (k == n) _ _ (eq-eqb k n same) ∙ ap Some is ∙ ap (option_map change) (sym is_first) ∙ ap (λ i. option_map change (remembered_in count initial i)) (sym same)
        go (inr other) = cond-false (k == n) _ _ (ne_eqb k n other) ∙ before k (omega arith)

    pub left_more : (new : Memo) (k : ℕ) → n + 1 ≤ k → remembered_in count (slice_set slots (n % 32) new) k ≡ remembered_in count initial k
    left_more new k l =
        let other : k ≡ n → ⊥ = λ e. omega arith in
        set_slot new k ∙ cond-false (k == n) _ _ (ne_eqb k n other) ∙ left k (omega arith)

pub passes_at : (test : Course → Bool) (o : Option Memo) (memo : Memo) → o ≡ Some memo → test memo.course ≡ passes test o
passes_at test o memo e = ap (passes test) (sym e)

pub few_more : (listed new : List ℕ) (n : ℕ) (due : Bool) → new ≡ listed ++ cond due (n ∷ []) [] → length new ≤ length listed + 1
few_more listed new n true e = omega (arith, ap length e, length-append listed (n ∷ []))
few_more listed new n false e = omega (arith, ap length e, length-append listed [])
