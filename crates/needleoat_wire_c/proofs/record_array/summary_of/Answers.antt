-- The sums after each record, and at the end.
use Rattle.std.proofs.Common.{◌≡◌, ℕ, List, arith, sym, ap, ◌∙◌, length}
use Rattle.std.proofs.lemmas.Bool.{eqb-true, eqb-false}
use Rattle.std.proofs.lemmas.List.Sums.{sum_by-cons}
use Rattle.pldm_records.specs.Records.{largest_record_size, repository_size}
use Rattle.needleoat_wire_c.specs.RecordArrays.{has_handle, have_own_handles}
use Rattle.needleoat_wire_c.specs.RecordWalks.{records_in}
use Rattle.needleoat_wire_c.proofs.RecordsSummed.{left_over, own_more, same_handle, same_summary, summed, too_many}
use Rattle.needleoat_wire_c.proofs.RecordsWalked.{left_end, left_more, records_end, records_more}
use Rattle.needleoat_wire_c.proofs.record_array.summary_of.Goals as goal
use Rattle.needleoat_wire_c.proofs.record_array.summary_of.Goals.{then-count-eq-MAX_RECORDS-via-then-count-eq-MAX_RECORDS, then-count-eq-MAX_RECORDS-via-else-count-eq-MAX_RECORDS+then-has_handle}

pub returns-then-count-eq-MAX_RECORDS : goal.returns-then-count-eq-MAX_RECORDS
returns-then-count-eq-MAX_RECORDS c =
    let more = records_more c.records.rest.now c.in-Some.pdr.now c.in-Some.after.now (sym c.in-Some.ensures.first) in
    elim c.then-count-eq-MAX_RECORDS.branch [
      | then-count-eq-MAX_RECORDS-via-then-count-eq-MAX_RECORDS w ↦
          too_many c.args.bytes.now (omega (arith, rw more at c.records.invariant.count))
      | then-count-eq-MAX_RECORDS-via-else-count-eq-MAX_RECORDS+then-has_handle w ↦
          same_handle c.args.bytes.now c.in-Some.pdr.now _ _ more (ap (λ (handle : ℕ). has_handle handle (records_in c.in-Some.after.now)) (sym w.handle_of.ensures) ∙ sym w.has_handle.ensures ∙ w.if-has_handle.true) c.records.invariant.own_handles
    ]

pub records-preserved : goal.records-preserved
records-preserved c =
    let more = records_more c.records.rest.now c.in-Some.pdr.now c.in-Some.after.now (sym c.in-Some.ensures.first) in
    let left = left_more c.records.rest.now c.in-Some.pdr.now c.in-Some.after.now (sym c.in-Some.ensures.first) in
    let other = ap (λ (handle : ℕ). has_handle handle (records_in c.in-Some.after.now)) (sym c.handle_of.ensures) ∙ sym c.has_handle.ensures ∙ c.if-has_handle.false in
    record {
      count = omega (arith, rw more at c.records.invariant.count);
      size = omega (arith, rw more at c.records.invariant.size, sum_by-cons {X = List ℕ} length c.in-Some.pdr.now (records_in c.in-Some.after.now));
      largest = omega (arith, rw more at c.records.invariant.largest, c.max-largest.ensures);
      own_handles = sym (own_more c.in-Some.pdr.now (records_in c.in-Some.after.now) other) ∙ ap have_own_handles (sym more) ∙ c.records.invariant.own_handles;
      left = sym left ∙ c.records.invariant.left;
      few = omega (arith, c.records.invariant.few);
      small = omega (arith, c.records.invariant.small, c.in-Some.ensures.most);
    }

pub returns-then-not-is_empty : goal.returns-then-not-is_empty
returns-then-not-is_empty c =
    let left = left_end c.records.rest.now (sym c.in_default.ensures.first) in
    left_over c.args.bytes.now c.records.rest.now (eqb-false _ _ (sym c.is_empty.ensures ∙ c.if-not-is_empty.true)) (sym left ∙ c.records.invariant.left)

pub returns : goal.returns
returns c =
    let left = left_end c.records.rest.now (sym c.in_default.ensures.first) in
    let none = records_end c.records.rest.now (sym c.in_default.ensures.first) in
    let empty : length c.records.rest.now ≡ 0 = eqb-true _ _ (sym c.is_empty.ensures ∙ c.if-not-is_empty.false) in
    let count : c.records.count ≡ length (records_in c.args.bytes.now) = omega (arith, rw none at c.records.invariant.count) in
    let size : c.records.size ≡ repository_size (records_in c.args.bytes.now) = omega (arith, rw none at c.records.invariant.size) in
    let largest : c.records.largest ≡ largest_record_size (records_in c.args.bytes.now) = omega (arith, rw none at c.records.invariant.largest) in
    same_summary (record { count = c.records.count; size = c.records.size; largest = c.records.largest }) (records_in c.args.bytes.now) count size largest
    ∙ summed c.args.bytes.now (ap length (sym c.records.invariant.left ∙ left) ∙ empty) (sym c.records.invariant.own_handles ∙ ap have_own_handles none) (omega (arith, c.records.invariant.few))
