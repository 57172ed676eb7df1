-- The sets so far are those of the fields so far.
use Rattle.std.proofs.Common.{◌≡◌, map, take}
use Rattle.arrayvec.specs.ArrayVec.{array_vec_len}
use Rattle.pldm_device.specs.SensorRecords.{possible}
use Rattle.pldm_device.proofs.effecter_records.sets_allowed.Given as goal

abbrev pub invariant-loop-states : goal.invariant-loop-states
invariant-loop-states l = record {
  sets : l.sets.items ≡ map (possible l.state_set) (take l.states-index l.allowed);
  count : array_vec_len l.sets ≡ l.states-index;
}
