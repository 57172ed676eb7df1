-- The largest handle of records, found from the first record on.
use Rattle.std.proofs.Common.{◌≡◌, ℕ, zero, suc, ◌+◌, max, List, [], ◌∷◌, drop, Some, None, slice_get, refl, ap, arith, add-one}
use Rattle.pldm_records.specs.Records.{handle_of}
use Rattle.pldm_device.specs.MadeRecords.{largest_handle}

-- the record at a place is the first of those from there on
from_place : (records : List (List ℕ)) (i : ℕ) (pdr : List ℕ) → slice_get records i ≡ Some pdr → drop i records ≡ pdr ∷ drop (suc i) records
from_place [] i pdr e = cc
from_place (first ∷ records) zero pdr e = ap (λ (x : List ℕ). x ∷ records) (let same : first ≡ pdr = cc in same)
from_place (first ∷ records) (suc i) pdr e = from_place records i pdr e

pub one_more : (records : List (List ℕ)) (i largest : ℕ) (pdr : List ℕ) → slice_get records i ≡ Some pdr → max (max (handle_of pdr) largest) (largest_handle (drop (i + 1) records)) ≡ max largest (largest_handle (drop i records))
one_more records i largest pdr e =
    let handles : largest_handle (drop i records) ≡ max (handle_of pdr) (largest_handle (drop (i + 1) records)) = rw add-one (ap largest_handle (from_place records i pdr e)) in
    omega (arith, handles)

pub none_left : (records : List (List ℕ)) (i : ℕ) → slice_get records i ≡ None → largest_handle (drop i records) ≡ 0
none_left [] zero e = refl
none_left [] (suc i) e = refl
none_left (first ∷ records) zero e = cc
none_left (first ∷ records) (suc i) e = none_left records i e
