-- The header of a record that is written states its handle and its length.
use Rattle.std.proofs.Common.{◌≡◌, ℕ, ◌+◌, ◌≤◌, ◌==◌, leb, not, true, List, [], length, refl, sym, ◌∙◌, arith}
use Rattle.std.proofs.lemmas.Bool.{and_from, eq-eqb, le-leb, ne_eqb, not_from_false}
use Rattle.byteorder.specs.Numbers.{little_number-reads_back}
use Rattle.pldm_pdr.specs.Records.{IsRecord, PlatformRecord, bytes_of, data_bytes}
use Rattle.pldm_records.specs.Records.{data_length_of, handle_of, header_version_of, is_record}
use Rattle.needleoat_wire_c.proofs.laws.written_records_are_held.Goals as goal

held : (r : PlatformRecord) → IsRecord r → (r.handle ≡ 0 → ⊥) → length (bytes_of r) ≤ 305 → is_record (bytes_of r) ≡ true
held r is some fit =
    let pdr : List ℕ = bytes_of r in
    let handle : handle_of (bytes_of r) ≡ r.handle = little_number-reads_back 4 r.handle [] is.0 in
    let count : data_length_of (bytes_of r) ≡ length (data_bytes r.contents) =
    little_number-reads_back 2 (length (data_bytes r.contents)) [] (omega arith) in
    and_from _ (length (bytes_of r) == 10 + data_length_of (bytes_of r))
    (and_from _ (header_version_of (bytes_of r) == 1)
    (and_from _ (not (handle_of (bytes_of r) == 0))
    (and_from (leb 10 (length (bytes_of r))) (leb (length (bytes_of r)) 65545) (le-leb _ _ (omega arith)) (le-leb _ _ (omega arith)))
    (not_from_false (handle_of (bytes_of r) == 0) (ne_eqb _ 0 (λ e. some (sym handle ∙ e)))))
    refl)
    (eq-eqb _ _ (omega (arith, count)))

pub returns : goal.returns
returns c = λ r is some. held r is some (c.records_fit.ensures r is)
