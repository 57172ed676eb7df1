-- What is found under a number in a list, and what a change of the list does to it.
use Rattle.std.proofs.Common.{◌≡◌, ℕ, zero, suc, ◌<◌, ◌≢◌, [], ◌∷◌, length, Some, None, refl, arith, ap}
use Rattle.std.specs.Prelude.{slice_set, slice_index_or}
use Rattle.std.specs.List.{insert, remove}
use Rattle.std.proofs.lemmas.Bool.Decides.{nat_tests}
use Rattle.mctp_assembly.specs.NumberLists.{NumberList, number_in, at, IsAt, Changes}

module _ {X : Type 0} (past : X) where
  abbrev pub NoneBefore : NumberList X → ℕ → ℕ → Type 0
  NoneBefore l k i = (j : ℕ) → j < i → number_in past l j ≢ k

  none_before_tail : (x : ℕ × X) (l : NumberList X) (k i : ℕ) → NoneBefore (x ∷ l) k (suc i) → NoneBefore l k i
  none_before_tail x l k i none j lt = none (suc j) (omega arith)

  is_at_tail : (x : ℕ × X) (l : NumberList X) (k i : ℕ) → IsAt past (x ∷ l) k (suc i) → IsAt past l k i
  is_at_tail x l k i is = record { in_range = omega (arith, is.in_range); has = is.has }

  -- a number that does not stand in the list has nothing
  pub absent : (l : NumberList X) (k : ℕ) → NoneBefore l k (length l) → at l k ≡ None
  absent [] k none = refl
  absent (x ∷ l) k none = grind (arith, nat_tests, none 0 (omega arith), absent l k (none_before_tail x l k _ none))

  -- the first place of the number has what is open under it
  pub present : (l : NumberList X) (k i : ℕ) (d : ℕ × X) → IsAt past l k i → NoneBefore l k i → at l k ≡ Some (slice_index_or l i d).1
  present [] k i d is none = absurd (omega (arith, is.in_range))
  present (x ∷ l) k zero d is none = grind (arith, nat_tests, is.has)
  present (x ∷ l) k (suc i) d is none = grind (arith, nat_tests, none 0 (omega arith), present l k i d (is_at_tail x l k i is) (none_before_tail x l k i none))

  -- to write over that place is to change that number alone
  pub changed : (l : NumberList X) (k : ℕ) (v : X) (i : ℕ) → IsAt past l k i → NoneBefore l k i → Changes l (slice_set l i (k, v)) k (Some v)
  changed [] k v i is none q = absurd (omega (arith, is.in_range))
  changed (x ∷ l) k v zero is none q = grind (arith, nat_tests, is.has)
  changed (x ∷ l) k v (suc i) is none q = grind (arith, nat_tests, none 0 (omega arith), changed l k v i (is_at_tail x l k i is) (none_before_tail x l k i none) q)

  -- so is to put it before any place of the number
  pub inserted : (l : NumberList X) (k : ℕ) (v : X) (i : ℕ) → NoneBefore l k i → Changes l (insert l i (k, v)) k (Some v)
  inserted l k v zero none q = refl
  inserted [] k v (suc i) none q = refl
  inserted (x ∷ l) k v (suc i) none q = grind (arith, nat_tests, none 0 (omega arith), inserted l k v i (none_before_tail x l k i none) q)

  -- to take the one place of the number away is to leave nothing there
  pub taken_away : (l : NumberList X) (k i : ℕ) → IsAt past l k i → NoneBefore l k i → ((j : ℕ) → i < j → j < length l → number_in past l j ≢ k) → Changes l (remove l i) k None
  taken_away [] k i is none after q = absurd (omega (arith, is.in_range))
  taken_away (x ∷ l) k zero is none after q =
      grind (arith, nat_tests, is.has, absent l k (λ j lt same. after (suc j) (omega arith) (omega arith) same), λ (same : k ≡ q). ap (at l) same)
  taken_away (x ∷ l) k (suc i) is none after q =
      grind (arith, nat_tests, none 0 (omega arith), taken_away l k i (is_at_tail x l k i is) (none_before_tail x l k i none) (λ j lt in_range. after (suc j) (omega arith) (omega arith)) q)
