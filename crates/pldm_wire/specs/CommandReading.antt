-- The command that a request's data is, or the completion code of its refusal: first the PLDM type, then the command,
-- then what the command's row says of its data.
use Rattle.std.specs.Prelude.{ℕ, ◌==◌, nat_lt, List, [], ◌∷◌, length, Result, Ok, Err, if◌then◌else◌}
use Rattle.pldm_wire.specs.CommandTable.{Data, Row, base_rows, platform_rows}
use Rattle.pldm_wire.specs.FieldReading.{FieldFault, WrongLength, WrongValue, map_ok, values_at}
use Rattle.pldm_wire.specs.Kinds.{TypeAndCommand}
use Rattle.pldm_wire.specs.declared.assigned.TheConstants.{BASE, PLATFORM, ERROR_INVALID_PLDM_TYPE}
use Rattle.pldm_wire.specs.declared.assigned.TheConstants.{ERROR_INVALID_DATA, ERROR_INVALID_LENGTH}
use Rattle.pldm_wire.specs.declared.assigned.TheConstants.{ERROR_UNSUPPORTED_PLDM_CMD}
use Rattle.pldm_wire.specs.declared.command.Command.{Command}

-- what bytes make, or the first fault
abbrev pub data_in : {A : Type 0} → Data A → List ℕ → Result A FieldFault
data_in d bytes = if nat_lt (length bytes) d.least then Err WrongLength else map_ok d.make (values_at d.layout 0 bytes)

-- the same with these for a wrong length and for a wrong value
abbrev pub told_as : {A F : Type 0} → F → F → Result A FieldFault → Result A F
told_as length value (Ok read) = Ok read
told_as length value (Err WrongLength) = Err length
told_as length value (Err WrongValue) = Err value

abbrev pub request_in : Row → List ℕ → Result Command ℕ
request_in row bytes = told_as ERROR_INVALID_LENGTH ERROR_INVALID_DATA (data_in row.request bytes)

-- by the row with this command's number
abbrev pub request_by : List Row → ℕ → List ℕ → Result Command ℕ
request_by [] command bytes = Err ERROR_UNSUPPORTED_PLDM_CMD
request_by (row ∷ rows) command bytes =
    if command == row.kind.command then request_in row bytes else request_by rows command bytes

-- what reading gives
unfoldable pub command_of : TypeAndCommand → List ℕ → Result Command ℕ
command_of kind bytes =
    if kind.pldm_type == BASE then request_by base_rows kind.command bytes
    else if kind.pldm_type == PLATFORM then request_by platform_rows kind.command bytes
    else Err ERROR_INVALID_PLDM_TYPE
