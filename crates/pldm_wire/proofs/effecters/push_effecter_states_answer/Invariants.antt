-- The fields so far stand after what was there.
use Rattle.std.proofs.Common.{◌≡◌, ◌+◌, ◌*◌, ◌++◌, take}
use Rattle.std.specs.List.{flat_map}
use Rattle.arrayvec.specs.ArrayVec.{array_vec_len}
use Rattle.pldm_wire.specs.States.{effecter_bytes}
use Rattle.pldm_wire.proofs.effecters.push_effecter_states_answer.Given as goal

abbrev pub invariant-loop-field : goal.invariant-loop-field
invariant-loop-field l =
    (l.body.items ≡ l.initial.body.items ++ flat_map effecter_bytes (take l.field-index l.fields))
    × (array_vec_len l.body ≡ array_vec_len l.initial.body + 3 * l.field-index)
