-- A record that a repository takes has a handle that none before it has.
use Rattle.std.proofs.Common.{◌≡◌, ℕ, ◌<◌, ◌≤◌, ◌++◌, ◌∷◌, [], List, true, not, cond, nat_lt, ◌==◌, if◌then◌else◌, length, get_or, Option, Some, None, is_some, Ok, Err, refl, subst, arith, inl, inr, eq-eqb}
use Rattle.std.specs.List.{position_or_len}
use Rattle.std.proofs.lemmas.Bool.{cases_lt, cond_below, false≢true}
use Rattle.std.proofs.lemmas.List.Quantifiers.{all_pairs_push}
use Rattle.std.proofs.lemmas.List.Sums.{prefix_len_passes}
use Rattle.pldm_records.specs.Records.{handle_of, position_of}
use Rattle.pldm_device.specs.RecordEntries.{with_record}
use Rattle.pldm_device.specs.RecordLaws.{HandlesDiffer, HaveOtherHandles}
use Rattle.pldm_device.specs.declared.description_fault.FileFault.TheVariants.{Duplicate}

no_position : (a b : ℕ) → cond (nat_lt a b) (Some a) None ≡ None → b ≤ a
no_position a b e =
    elim (cases_lt a b) [ inl less ↦ absurd (let same = cond_below a b (Some a) None less in cc) | inr more ↦ more ]

-- where no record has the handle, each has another
none_has : (records : List (List ℕ)) (handle : ℕ) → position_of handle records ≡ None → (k : ℕ) (d : List ℕ) → k < length records → handle_of (get_or records k d) ≡ handle → ⊥
none_has records handle none k d within same =
    let past : length records ≤ position_or_len (λ pdr. handle_of pdr == handle) records = no_position (position_or_len (λ pdr. handle_of pdr == handle) records) (length records) none in
    let fails : not (handle_of (get_or records k d) == handle) ≡ true = prefix_len_passes (λ pdr. not (handle_of pdr == handle)) records k d (omega arith) in
    let passes : (handle_of (get_or records k d) == handle) ≡ true = eq-eqb _ _ same in
    false≢true (rw passes at fails)

-- a record that is no duplicate is the last one, and none has its handle
fresh : (found : Option ℕ) (before : List (List ℕ)) (pdr : List ℕ) (after : List (List ℕ)) → (if is_some found then Err Duplicate else Ok (before ++ pdr ∷ [])) ≡ Ok after → (found ≡ None) × (before ++ pdr ∷ [] ≡ after)
fresh None before pdr after e = (refl, (cc))
fresh (Some place) before pdr after e = absurd (cc)

pub added_last : (before : List (List ℕ)) (pdr : List ℕ) (after : List (List ℕ)) → with_record before pdr ≡ Ok after → before ++ pdr ∷ [] ≡ after
added_last before pdr after e = (fresh (position_of (handle_of pdr) before) before pdr after e).1

-- so handles that differ still do
pub still_differ : (before : List (List ℕ)) (pdr : List ℕ) (after : List (List ℕ)) → with_record before pdr ≡ Ok after → HandlesDiffer before → HandlesDiffer after
still_differ before pdr after e differ =
    let new = fresh (position_of (handle_of pdr) before) before pdr after e in
    subst (λ (x : List (List ℕ)). HandlesDiffer x) new.1 (all_pairs_push HaveOtherHandles before pdr differ (none_has before (handle_of pdr) new.0))
