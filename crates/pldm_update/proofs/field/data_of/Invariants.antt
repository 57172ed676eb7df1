-- The fields so far stand in the data.
use Rattle.std.proofs.Common.{◌≡◌, take}
use Rattle.std.specs.List.{flat_map}
use Rattle.pldm_update.specs.FieldWriting.{written_bytes}
use Rattle.pldm_update.proofs.field.data_of.Given as goal

abbrev pub invariant-loop-field : goal.invariant-loop-field
invariant-loop-field l = l.data.items ≡ flat_map written_bytes (take l.field-index l.fields)
