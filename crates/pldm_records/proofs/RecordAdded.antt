-- A repository with one more record.
use Rattle.std.proofs.Common.{◌≡◌, ◌≢◌, ℕ, ◌+◌, ◌<◌, ◌≤◌, ◌==◌, max, Bool, true, false, cond, List, [], ◌∷◌, ◌++◌, length, Some, None, refl, sym, ◌∙◌, ⊎_elim, subst, arith}
use Rattle.std.proofs.lemmas.Bool.{cases_eq, eq-eqb}
use Rattle.std.proofs.lemmas.Bool.Decides.{nat_tests}
use Rattle.std.proofs.lemmas.Grind.{common_steps}
use Rattle.std.proofs.lemmas.List.{length_push}
use Rattle.std.proofs.lemmas.List.Folds.{position_or_len_push}
use Rattle.std.proofs.lemmas.List.Sums.{prefix_len-le-length, sum_by_push}
use Rattle.std.specs.BTreeMap.{is_at}
use Rattle.std.specs.List.{position}
use Rattle.std.specs.Ordering.{nat_cmp}
use Rattle.pldm_records.specs.ById.{ById, with_id}
use Rattle.pldm_records.specs.Records.{handle_of, largest_record_size, position_of}
use Rattle.pldm_records.specs.Repositories.{IsIndexed}
use Rattle.pldm_records.specs.declared.limits.TheConstants.{MAX_RECORDS}
use Rattle.pldm_records.specs.declared.limits.TheConstants.{MAX_RECORD_BYTES}

-- one more that does not pass changes no position
position_same : {X : Type 0} (p : X → Bool) (xs : List X) (y : X) → p y ≡ false → position p (xs ++ y ∷ []) ≡ position p xs
position_same p xs y fails = grind (arith, common_steps, position_or_len_push p xs y, length_push xs y, prefix_len-le-length)

-- one more that passes is the first to pass where none did
position_new : {X : Type 0} (p : X → Bool) (xs : List X) (y : X) → p y ≡ true → position p xs ≡ None → position p (xs ++ y ∷ []) ≡ Some (length xs)
position_new p xs y passes none = grind (arith, common_steps, position_or_len_push p xs y, length_push xs y, prefix_len-le-length)

largest_record_push : (records : List (List ℕ)) (pdr : List ℕ) → largest_record_size (records ++ pdr ∷ []) ≡ max (largest_record_size records) (length pdr)
largest_record_push [] pdr = omega arith
largest_record_push (first ∷ rest) pdr = omega (arith, largest_record_push rest pdr)

at_equal : (k q : ℕ) → k ≡ q → is_at (nat_cmp k) q ≡ true
at_equal k q same = grind (arith, nat_tests)

at_other : (k q : ℕ) → k ≢ q → is_at (nat_cmp k) q ≡ false
at_other k q apart = grind (arith, nat_tests)

by_handle_push : (records : List (List ℕ)) (pdr : List ℕ) (positions added : ById ℕ) → ((handle : ℕ) → with_id handle positions ≡ position_of handle records) → ((handle : ℕ) → with_id handle added ≡ cond (is_at (nat_cmp (handle_of pdr)) handle) (Some (length records)) (with_id handle positions)) → position_of (handle_of pdr) records ≡ None → (handle : ℕ) → with_id handle added ≡ position_of handle (records ++ pdr ∷ [])
by_handle_push records pdr positions added before inserted fresh handle =
    let test : List ℕ → Bool = λ other. handle_of other == handle in
    ⊎_elim
    (λ (same : handle_of pdr ≡ handle).
    let none : position_of handle records ≡ None = subst (λ (h : ℕ). position_of h records ≡ None) same fresh in
    let here = rw at_equal at (inserted handle) in
    here ∙ sym (position_new test records pdr (eq-eqb _ _ same) none))
    (λ (apart : handle_of pdr ≢ handle).
    let there = rw at_other at (inserted handle) in
    let fails : test pdr ≡ false = grind (arith, nat_tests) in
    there ∙ before handle ∙ sym (position_same test records pdr fails))
    (cases_eq (handle_of pdr) handle)

pub indexed_push : (records : List (List ℕ)) (pdr : List ℕ) (positions added : ById ℕ) (size largest : ℕ) → IsIndexed records positions size largest → length records < MAX_RECORDS → length pdr ≤ MAX_RECORD_BYTES → ((handle : ℕ) → with_id handle added ≡ cond (is_at (nat_cmp (handle_of pdr)) handle) (Some (length records)) (with_id handle positions)) → position_of (handle_of pdr) records ≡ None → IsIndexed (records ++ pdr ∷ []) added (size + length pdr) (max largest (length pdr))
indexed_push records pdr positions added size largest kept room small inserted fresh = record {
  by_handle = by_handle_push records pdr positions added kept.by_handle inserted fresh;
  size_is = omega (arith, kept.size_is, sum_by_push length records pdr);
  largest_is = rw (kept.largest_is, largest_record_push records pdr) refl;
  count = omega (arith, length_push records pdr);
  small = omega (arith, kept.small, length_push records pdr);
}
