-- The commands, one row each: its number, and the bytes of its data (DSP0236, the tables of the commands).
use Rattle.std.specs.Prelude.{◌≡◌, ℕ, ◌+◌, ◌*◌, ◌<◌, ◌%◌, ◌==◌, List, [], ◌∷◌, if◌then◌else◌}
use Rattle.mctp_control.specs.declared.assigned.TheConstants.{SET_ENDPOINT_ID, GET_ENDPOINT_ID, GET_ENDPOINT_UUID}
use Rattle.mctp_control.specs.declared.assigned.TheConstants.{GET_VERSION_SUPPORT, GET_MESSAGE_TYPE_SUPPORT}
use Rattle.mctp_control.specs.declared.command.Command.{Command}
use Rattle.mctp_control.specs.declared.command.Command.TheVariants.{SetEndpointId, GetEndpointId, GetEndpointUuid}
use Rattle.mctp_control.specs.declared.command.Command.TheVariants.{GetVersionSupport, GetMessageTypeSupport}
use Rattle.mctp_control.specs.declared.command.EidOperation.{EidOperation}
use Rattle.mctp_control.specs.declared.command.EidOperation.TheVariants.{Set, Force, Reset, SetDiscovered}

abbrev pub operation_code : EidOperation → ℕ
operation_code Set = 0
operation_code Force = 1
operation_code Reset = 2
operation_code SetDiscovered = 3

-- the operation of the two lowest bits
abbrev pub operation_of : ℕ → EidOperation
operation_of byte =
    if byte % 4 == 0 then Set else if byte % 4 == 1 then Force else if byte % 4 == 2 then Reset else SetDiscovered

abbrev pub number_of : Command → ℕ
number_of (SetEndpointId operation eid) = SET_ENDPOINT_ID
number_of GetEndpointId = GET_ENDPOINT_ID
number_of GetEndpointUuid = GET_ENDPOINT_UUID
number_of (GetVersionSupport message_type) = GET_VERSION_SUPPORT
number_of GetMessageTypeSupport = GET_MESSAGE_TYPE_SUPPORT

-- the command's fields stand in these bytes; reserved bits may be any
abbrev pub HasFields : Command → List ℕ → Type 0
HasFields (SetEndpointId operation eid) bytes =
    (reserved : ℕ) × (reserved < 64) × (bytes ≡ (4 * reserved + operation_code operation) ∷ eid ∷ [])
HasFields GetEndpointId bytes = bytes ≡ []
HasFields GetEndpointUuid bytes = bytes ≡ []
HasFields (GetVersionSupport message_type) bytes = bytes ≡ message_type ∷ []
HasFields GetMessageTypeSupport bytes = bytes ≡ []

-- these bytes are the data of the command, which has this number
pub record CommandFields (command : Command) (number : ℕ) (bytes : List ℕ) : Type 0 where
  pub number_is : number ≡ number_of command
  pub fields : HasFields command bytes

-- the data that a command is written with: reserved bits are 0
abbrev pub command_data : Command → List ℕ
command_data (SetEndpointId operation eid) = operation_code operation ∷ eid ∷ []
command_data (GetVersionSupport message_type) = message_type ∷ []
command_data _ = []
