-- Each test of the code is one of a record's.
use Rattle.std.proofs.Common.{◌≡◌, ◌+◌, ◌<◌, ℕ, List, take, drop, arith, sym, ap, ◌∙◌, slice_index}
use Rattle.pldm_records.specs.Records.{data_length_of, handle_of}
use Rattle.needleoat_wire_c.specs.RecordWalks.{first_bytes, first_size}
use Rattle.needleoat_wire_c.proofs.RecordsWalked.{cut_short, no_handle, no_header, no_version, one_first}
use Rattle.needleoat_wire_c.proofs.record_array.first_record.Goals as goal
use Rattle.needleoat_wire_c.proofs.record_array.first_record.Goals.{then-handle_of-eq-NO_RECORD-via-then-handle_of-eq-NO_RECORD, then-handle_of-eq-NO_RECORD-via-else-handle_of-eq-NO_RECORD+then-pdr-ne-HEADER_VERSION}

pub returns-then-bytes-lt-RECORD_HEADER-clause-first :
    goal.returns-then-bytes-lt-RECORD_HEADER-clause-first
returns-then-bytes-lt-RECORD_HEADER-clause-first c =
    no_header c.args.bytes.now c.if-bytes-lt-RECORD_HEADER.true

pub returns-then-bytes-size-clause-first : goal.returns-then-bytes-size-clause-first
returns-then-bytes-size-clause-first c =
    let size : 10 + c.from-size.result ≡ first_size c.args.bytes.now = ap (λ (n : ℕ). 10 + n) (c.from-size.ensures ∙ c.data_length_of.ensures) in
    cut_short c.args.bytes.now (rw size at c.if-bytes-size.true)

pub returns-then-handle_of-eq-NO_RECORD-clause-first :
    goal.returns-then-handle_of-eq-NO_RECORD-clause-first
returns-then-handle_of-eq-NO_RECORD-clause-first c =
    let size : 10 + c.from-size.result ≡ first_size c.args.bytes.now = ap (λ (n : ℕ). 10 + n) (c.from-size.ensures ∙ c.data_length_of.ensures) in
    let pdr : c.split_at.result.0.now ≡ first_bytes c.args.bytes.now = c.split_at.ensures.front ∙ ap (λ (n : ℕ). take n c.args.bytes.now) size in
    elim c.then-handle_of-eq-NO_RECORD.branch [
      | then-handle_of-eq-NO_RECORD-via-then-handle_of-eq-NO_RECORD w ↦
          no_handle c.args.bytes.now (ap handle_of (sym pdr) ∙ sym c.handle_of.ensures ∙ w.if-handle_of-eq-NO_RECORD.true)
      | then-handle_of-eq-NO_RECORD-via-else-handle_of-eq-NO_RECORD+then-pdr-ne-HEADER_VERSION w ↦
          no_version c.args.bytes.now (λ same. w.if-pdr-ne-HEADER_VERSION.true (ap (λ (xs : List ℕ). slice_index xs 4) pdr ∙ same))
    ]

pub returns-clause-first : goal.returns-clause-first
returns-clause-first c =
    let size : 10 + c.from-size.result ≡ first_size c.args.bytes.now = ap (λ (n : ℕ). 10 + n) (c.from-size.ensures ∙ c.data_length_of.ensures) in
    let pdr : c.split_at.result.0.now ≡ first_bytes c.args.bytes.now = c.split_at.ensures.front ∙ ap (λ (n : ℕ). take n c.args.bytes.now) size in
    let after : c.split_at.result.1.now ≡ drop (first_size c.args.bytes.now) c.args.bytes.now = c.split_at.ensures.back ∙ ap (λ (n : ℕ). drop n c.args.bytes.now) size in
    let small : data_length_of c.args.bytes.now < 65536 = omega (arith, c.data_length_of.ensures, c.data_length_of.type_inv) in
    let handle : handle_of (first_bytes c.args.bytes.now) ≡ 0 → ⊥ = λ none. c.if-handle_of-eq-NO_RECORD.false (c.handle_of.ensures ∙ ap handle_of pdr ∙ none) in
    rw (pdr, after) (one_first c.args.bytes.now small (rw size at c.if-bytes-size.false) handle (ap (λ (xs : List ℕ). slice_index xs 4) (sym pdr) ∙ c.if-pdr-ne-HEADER_VERSION.false))
