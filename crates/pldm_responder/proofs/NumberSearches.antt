-- What a binary search finds among numbers that rise.
use Rattle.std.proofs.Common.{◌≡◌, ℕ, ◌≤◌, length, Result, Ok, Err, IfOk, IfErr, sym, ap, arith}
use Rattle.std.specs.List.Sorted.{IsSearchInRange, IsBinarySearchResult, IsNonDecreasingBy}
use Rattle.std.specs.Ordering.{nat_cmp, ordering_index}
use Rattle.std.proofs.lemmas.Cmp.{ranked}
use Rattle.std.proofs.lemmas.List.Sorted.{IsNonDecreasingBy-from_default}
use Rattle.std.proofs.lemmas.Bool.Decides.{nat_tests}
use Rattle.mctp_assembly.specs.NumberLists.{NumberList, Rises, number_in, IsAt, IsGapFor}

module _ {X : Type 0} (past : X) (l : NumberList X) (rises : Rises past l) (k : ℕ) where
  -- the comparisons with k rise along the list, as a binary search asks
  comparisons_rise : IsNonDecreasingBy (λ (pair : ℕ × X). ordering_index (nat_cmp pair.0 k)) l
  comparisons_rise = IsNonDecreasingBy-from_default (λ pair. ordering_index (nat_cmp pair.0 k)) l (0, past) (λ i j le in_range.
      let numbers_rise : number_in past l i ≤ number_in past l j = grind (arith, rises i j, λ (same : i ≡ j). ap (number_in past l) same) in
      grind (arith, nat_tests))

  -- it ends at the number, or at the gap for it
  searched : (r : Result ℕ ℕ) → IsSearchInRange r (length l) → IsBinarySearchResult (λ (pair : ℕ × X). nat_cmp pair.0 k) l r → record { found : IfOk r (IsAt past l k); absent : IfErr r (IsGapFor past l k) }
  searched (Ok place) in_range equal = record { found = record { in_range = in_range; has = ranked _ k _ (sym (equal (0, past))) }; absent = tt }
  searched (Err place) in_range parted = record {
    found = tt;
    absent = record {
      in_range = in_range;
      smaller = λ j lt. ranked _ k _ (sym ((parted comparisons_rise).0 j (0, past) (omega arith) lt));
      greater = λ j le lt. ranked _ k _ (sym ((parted comparisons_rise).1 j (0, past) le lt));
    };
  }

  pub found_by : (r : Result ℕ ℕ) → IsSearchInRange r (length l) → IsBinarySearchResult (λ (pair : ℕ × X). nat_cmp pair.0 k) l r → IfOk r (IsAt past l k)
  found_by r in_range search = (searched r in_range search).found

  pub absent_by : (r : Result ℕ ℕ) → IsSearchInRange r (length l) → IsBinarySearchResult (λ (pair : ℕ × X). nat_cmp pair.0 k) l r → IfErr r (IsGapFor past l k)
  absent_by r in_range search = (searched r in_range search).absent
