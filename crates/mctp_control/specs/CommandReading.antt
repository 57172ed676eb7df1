-- The command that a request's data is, as a function by place, or the completion code of its refusal: first the
-- command, then its length.
use Rattle.std.specs.Prelude.{ℕ, ◌==◌, List, length, slice_index, Result, Ok, Err, if◌then◌else◌}
use Rattle.mctp_control.specs.Codes.{invalid_length, unsupported_command}
use Rattle.mctp_control.specs.Commands.{operation_of}
use Rattle.mctp_control.specs.declared.assigned.TheConstants.{SET_ENDPOINT_ID, GET_ENDPOINT_ID, GET_ENDPOINT_UUID}
use Rattle.mctp_control.specs.declared.assigned.TheConstants.{GET_VERSION_SUPPORT, GET_MESSAGE_TYPE_SUPPORT}
use Rattle.mctp_control.specs.declared.command.Command.{Command}
use Rattle.mctp_control.specs.declared.command.Command.TheVariants.{SetEndpointId, GetEndpointId, GetEndpointUuid}
use Rattle.mctp_control.specs.declared.command.Command.TheVariants.{GetVersionSupport, GetMessageTypeSupport}

-- a command of so many bytes
abbrev pub of_length : ℕ → Command → List ℕ → Result Command ℕ
of_length n command bytes = if length bytes == n then Ok command else Err invalid_length

-- what reading gives
unfoldable pub command_of : ℕ → List ℕ → Result Command ℕ
command_of number bytes =
    if number == SET_ENDPOINT_ID
    then of_length 2 (SetEndpointId (operation_of (slice_index bytes 0)) (slice_index bytes 1)) bytes
    else if number == GET_ENDPOINT_ID then of_length 0 GetEndpointId bytes
    else if number == GET_ENDPOINT_UUID then of_length 0 GetEndpointUuid bytes
    else if number == GET_VERSION_SUPPORT then of_length 1 (GetVersionSupport (slice_index bytes 0)) bytes
    else if number == GET_MESSAGE_TYPE_SUPPORT then of_length 0 GetMessageTypeSupport bytes
    else Err unsupported_command
