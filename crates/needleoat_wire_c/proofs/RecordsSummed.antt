-- The summary of an array of records.
use Rattle.std.proofs.Common.{◌≡◌, ℕ, ◌<◌, ◌≤◌, ◌==◌, true, false, List, ◌∷◌, length, Some, None, refl, sym, ap, ◌∙◌, ◌&&◌, leb}
use Rattle.std.proofs.lemmas.Bool.{and_from, and_left, and_right, cond-false, cond-true, eq-eqb, le-leb, lt-leb, ne_eqb}
use Rattle.pldm_records.specs.Records.{handle_of, largest_record_size, repository_size}
use Rattle.needleoat_wire_c.specs.RecordArrays.{has_handle, have_own_handles}
use Rattle.needleoat_wire_c.specs.declared.record_array.Summary.{Summary}
use Rattle.needleoat_wire_c.specs.RecordWalks.{are_records, left_in, records_in, summary, summary_in}

pub own_more : (pdr : List ℕ) (records : List (List ℕ)) → has_handle (handle_of pdr) records ≡ false → have_own_handles (pdr ∷ records) ≡ have_own_handles records
own_more pdr records other = rw other refl

own_twice : (pdr : List ℕ) (records : List (List ℕ)) → has_handle (handle_of pdr) records ≡ true → have_own_handles (pdr ∷ records) ≡ false
own_twice pdr records same = rw same refl

pub no_summary : (bytes : List ℕ) → are_records bytes ≡ false → None ≡ summary_in bytes
no_summary bytes none = sym (cond-false (are_records bytes) (Some (summary (records_in bytes))) None none)

pub too_many : (bytes : List ℕ) → 1000 < length (records_in bytes) → None ≡ summary_in bytes
too_many bytes many =
    no_summary bytes (and_right (length (left_in bytes) == 0 && have_own_handles (records_in bytes)) (leb (length (records_in bytes)) 1000) (lt-leb _ _ many))

pub same_handle : (bytes : List ℕ) (pdr : List ℕ) (front records : List (List ℕ)) → front ≡ pdr ∷ records → has_handle (handle_of pdr) records ≡ true → have_own_handles front ≡ have_own_handles (records_in bytes) → None ≡ summary_in bytes
same_handle bytes pdr front records is same before =
    let no : have_own_handles (records_in bytes) ≡ false = sym before ∙ ap have_own_handles is ∙ own_twice pdr records same in
    no_summary bytes (and_left (length (left_in bytes) == 0 && have_own_handles (records_in bytes)) (leb (length (records_in bytes)) 1000) (and_right (length (left_in bytes) == 0) (have_own_handles (records_in bytes)) no))

pub left_over : (bytes rest : List ℕ) → (length rest ≡ 0 → ⊥) → rest ≡ left_in bytes → None ≡ summary_in bytes
left_over bytes rest some is =
    let no : (length (left_in bytes) == 0) ≡ false = ne_eqb (length (left_in bytes)) 0 (λ (e : length (left_in bytes) ≡ 0). some (ap length is ∙ e)) in
    no_summary bytes (and_left (length (left_in bytes) == 0 && have_own_handles (records_in bytes)) (leb (length (records_in bytes)) 1000) (and_left (length (left_in bytes) == 0) (have_own_handles (records_in bytes)) no))

pub summed : (bytes : List ℕ) → length (left_in bytes) ≡ 0 → have_own_handles (records_in bytes) ≡ true → length (records_in bytes) ≤ 1000 → Some (summary (records_in bytes)) ≡ summary_in bytes
summed bytes none own few =
    sym (cond-true (are_records bytes) (Some (summary (records_in bytes))) None (and_from (length (left_in bytes) == 0 && have_own_handles (records_in bytes)) (leb (length (records_in bytes)) 1000) (and_from (length (left_in bytes) == 0) (have_own_handles (records_in bytes)) (eq-eqb _ _ none) own) (le-leb _ _ few)))

pub same_summary : (s : Summary) (records : List (List ℕ)) → s.count ≡ length records → s.size ≡ repository_size records → s.largest ≡ largest_record_size records → Some s ≡ Some (summary records)
same_summary s records count size largest = rw (← count, ← size, ← largest) refl
