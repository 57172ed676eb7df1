-- The records that are left to look for a locator.
use Rattle.std.proofs.Common.{◌≡◌, ℕ, ◌+◌, ◌≤◌, ◌<◌, List, ◌∷◌, length, drop, get_or, Option, None, Some, refl, sym}
use Rattle.std.proofs.lemmas.List.{drop_more}
use Rattle.std.proofs.Math.ListN.{drop_of_length-le}
use Rattle.pldm_discovery.specs.Termini.{asked_handle, handle_by}

-- the record at a place gives a handle
pub handle_found : (own : Option ℕ) (records : List (List ℕ)) (i : ℕ) (pdr : List ℕ) (handle : ℕ)
    → i < length records → pdr ≡ get_or records i pdr → handle_by own pdr ≡ Some handle
    → Some handle ≡ asked_handle own (drop i records)
handle_found own records i pdr handle lt is given =
    let left : drop i records ≡ get_or records i pdr ∷ drop (i + 1) records = drop_more records i pdr lt in
    rw (left, sym is, given) refl

-- it gives none
pub handle_not_found : (own : Option ℕ) (records : List (List ℕ)) (i : ℕ) (pdr : List ℕ)
    → i < length records → pdr ≡ get_or records i pdr → handle_by own pdr ≡ None
    → asked_handle own (drop (i + 1) records) ≡ asked_handle own (drop i records)
handle_not_found own records i pdr lt is given =
    let left : drop i records ≡ get_or records i pdr ∷ drop (i + 1) records = drop_more records i pdr lt in
    rw (left, sym is, given) refl

-- no record is left
pub no_handle : (own : Option ℕ) (records : List (List ℕ)) (i : ℕ) → length records ≤ i
    → None ≡ asked_handle own (drop i records)
no_handle own records i le = rw (drop_of_length-le records le) refl
