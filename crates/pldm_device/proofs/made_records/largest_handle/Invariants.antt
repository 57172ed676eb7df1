-- The larger one of the largest so far and that of the rest is the largest of all.
use Rattle.std.proofs.Common.{◌≡◌, ◌-◌, max, drop, length}
use Rattle.pldm_device.specs.MadeRecords.{largest_handle}
use Rattle.pldm_device.proofs.made_records.largest_handle.Given as goal

abbrev pub invariant-loop-record : goal.invariant-loop-record
invariant-loop-record l = max l.largest (largest_handle (drop l.position l.records)) ≡ largest_handle l.records

abbrev pub decreases-loop-record : goal.decreases-loop-record
decreases-loop-record l = length l.records - l.position
