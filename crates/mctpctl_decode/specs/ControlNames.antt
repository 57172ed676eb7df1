-- The names of commands, fields and completion codes of control messages, in the words of DSP0236.
use Rattle.std.specs.Prelude.{ℕ, ◌==◌, nat_lt, List, ◌++◌, codes, Option, Some, None, if◌then◌else◌}
use Rattle.mctp_control.specs.declared.answer.Assignment.{Assignment}
use Rattle.mctp_control.specs.declared.answer.Assignment.TheVariants.{Accepted, Rejected}
use Rattle.mctp_control.specs.declared.answer.EidKind.{EidKind}
use Rattle.mctp_control.specs.declared.answer.EidKind.TheVariants.{Dynamic, Static, StaticNow, StaticNotNow}
use Rattle.mctp_control.specs.declared.answer.EndpointKind.{EndpointKind}
use Rattle.mctp_control.specs.declared.answer.EndpointKind.TheVariants.{Simple, BusOwner}
use Rattle.mctp_control.specs.declared.assigned.TheConstants.{SET_ENDPOINT_ID, GET_ENDPOINT_ID, GET_ENDPOINT_UUID}
use Rattle.mctp_control.specs.declared.assigned.TheConstants.{GET_VERSION_SUPPORT, GET_MESSAGE_TYPE_SUPPORT}
use Rattle.mctp_control.specs.declared.command.EidOperation.{EidOperation}
use Rattle.mctp_control.specs.declared.command.EidOperation.TheVariants.{Set, Force, Reset, SetDiscovered}
use Rattle.mctpctl_texts.specs.ShownLines.{byte_text}
use Rattle.mctpctl_decode.specs.SharedCodes.{shared_code_name}

-- the command of a number, of those that a simple endpoint has (DSP0236, "MCTP control command summary")
abbrev pub command_name : ℕ → Option (List ℕ)
command_name number =
    if number == SET_ENDPOINT_ID then Some (codes "SetEndpointID")
    else if number == GET_ENDPOINT_ID then Some (codes "GetEndpointID")
    else if number == GET_ENDPOINT_UUID then Some (codes "GetEndpointUUID")
    else if number == GET_VERSION_SUPPORT then Some (codes "GetMCTPVersionSupport")
    else if number == GET_MESSAGE_TYPE_SUPPORT then Some (codes "GetMessageTypeSupport")
    else None

-- a command by its name, else by its number in hex
abbrev pub command_word : Option (List ℕ) → ℕ → List ℕ
command_word (Some name) number = name
command_word None number = codes "control/" ++ byte_text number

-- the generic codes (DSP0236, "MCTP control message completion codes")
abbrev pub general_code_name : ℕ → Option (List ℕ)
general_code_name code =
    if code == 5 then Some (codes "ERROR_UNSUPPORTED_CMD") else shared_code_name code

-- the codes of a command's own begin at 128; of the five commands, Get MCTP Version Support has one
abbrev pub version_code_name : ℕ → Option (List ℕ)
version_code_name code = if code == 128 then Some (codes "MESSAGE_TYPE_NOT_SUPPORTED") else None

abbrev pub own_code_name : ℕ → ℕ → Option (List ℕ)
own_code_name number code = if number == GET_VERSION_SUPPORT then version_code_name code else None

-- the name of a completion code of the command of a number
unfoldable pub code_name : ℕ → ℕ → Option (List ℕ)
code_name number code = if nat_lt code 128 then general_code_name code else own_code_name number code

-- what is to become of the endpoint ID (DSP0236, "Set Endpoint ID", operation)
abbrev pub operation_name : EidOperation → List ℕ
operation_name Set = codes "set"
operation_name Force = codes "force"
operation_name Reset = codes "reset"
operation_name SetDiscovered = codes "setDiscoveredFlag"

-- what has become of it (DSP0236, "Set Endpoint ID", EID assignment status)
abbrev pub assignment_name : Assignment → List ℕ
assignment_name Accepted = codes "accepted"
assignment_name Rejected = codes "rejected"

-- what an endpoint is (DSP0236, "Get Endpoint ID", endpoint type)
abbrev pub endpoint_name : EndpointKind → List ℕ
endpoint_name Simple = codes "simple"
endpoint_name BusOwner = codes "busOwnerOrBridge"

-- where its endpoint ID is from, and whether the present one is the static one (DSP0236, "Get Endpoint ID", endpoint ID
-- type)
abbrev pub eid_kind_name : EidKind → List ℕ
eid_kind_name Dynamic = codes "dynamic"
eid_kind_name Static = codes "static"
eid_kind_name StaticNow = codes "staticSame"
eid_kind_name StaticNotNow = codes "staticOther"
