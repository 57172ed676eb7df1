-- The fields so far stand after what was there.
use Rattle.std.proofs.Common.{◌≡◌, ◌+◌, ◌*◌, ◌++◌, take}
use Rattle.std.specs.List.{flat_map}
use Rattle.arrayvec.specs.ArrayVec.{array_vec_len}
use Rattle.pldm_wire.specs.States.{set_bytes}
use Rattle.pldm_wire.proofs.effecters.push_set_state_effecter_states.Given as goal

abbrev pub invariant-loop-field : goal.invariant-loop-field
invariant-loop-field l =
    (l.body.items ≡ l.initial.body.items ++ flat_map set_bytes (take l.field-index l.fields))
    × (array_vec_len l.body ≡ array_vec_len l.initial.body + 2 * l.field-index)
