-- The sets so far are those of the fields so far.
use Rattle.std.proofs.Common.{◌≡◌, map, take}
use Rattle.arrayvec.specs.ArrayVec.{array_vec_len}
use Rattle.pldm_device.specs.SensorRecords.{possible, states_of_field}
use Rattle.pldm_device.proofs.sensor_records.sets_of_fields.Given as goal

abbrev pub invariant-loop-field : goal.invariant-loop-field
invariant-loop-field l = record {
  sets : l.sets.items ≡ map (λ field. possible l.state_set (states_of_field field)) (take l.field-index l.fields);
  count : array_vec_len l.sets ≡ l.field-index;
}
