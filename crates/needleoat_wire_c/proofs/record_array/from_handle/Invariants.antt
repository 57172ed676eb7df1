-- The record is searched among the rest as among all.
use Rattle.std.proofs.Common.{◌≡◌, length}
use Rattle.needleoat_wire_c.specs.RecordWalks.{from_handle, records_in}
use Rattle.needleoat_wire_c.proofs.record_array.from_handle.Given as goal

abbrev pub invariant-records : goal.invariant-records
invariant-records l = from_handle l.handle (records_in l.rest) ≡ from_handle l.handle (records_in l.bytes)

abbrev pub decreases-records : goal.decreases-records
decreases-records l = length l.rest
