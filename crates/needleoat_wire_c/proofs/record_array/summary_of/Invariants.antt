-- What was summed up and what the rest has is what all records have.
use Rattle.std.proofs.Common.{◌≡◌, ◌+◌, ◌*◌, ◌≤◌, max, length}
use Rattle.pldm_records.specs.Records.{largest_record_size, repository_size}
use Rattle.needleoat_wire_c.specs.RecordArrays.{have_own_handles}
use Rattle.needleoat_wire_c.specs.RecordWalks.{left_in, records_in}
use Rattle.needleoat_wire_c.proofs.record_array.summary_of.Given as goal

abbrev pub invariant-records : goal.invariant-records
invariant-records l = record {
  count : l.count + length (records_in l.rest) ≡ length (records_in l.bytes);
  size : l.size + repository_size (records_in l.rest) ≡ repository_size (records_in l.bytes);
  largest : max l.largest (largest_record_size (records_in l.rest)) ≡ largest_record_size (records_in l.bytes);
  own_handles : have_own_handles (records_in l.rest) ≡ have_own_handles (records_in l.bytes);
  left : left_in l.rest ≡ left_in l.bytes;
  few : l.count ≤ 1000;
  small : l.size ≤ l.count * 65545;
}

abbrev pub decreases-records : goal.decreases-records
decreases-records l = length l.rest
