-- The fields so far and those of the rest are the fields of all.
use Rattle.std.proofs.Common.{◌≡◌, ◌++◌, length}
use Rattle.pldm_wire.specs.States.{sensor_states_in}
use Rattle.pldm_wire.proofs.state_fields.StateFields+SensorStateField.read.Given as goal

abbrev pub invariant-loop-rest : goal.invariant-loop-rest
invariant-loop-rest l = l.fields.items ++ sensor_states_in l.rest ≡ sensor_states_in l.bytes

abbrev pub decreases-loop-rest : goal.decreases-loop-rest
decreases-loop-rest l = length l.rest
