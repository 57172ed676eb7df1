-- What a simple endpoint answers to a command, and which endpoint ID that assigns, by its settings (DSP0236, "MCTP
-- control protocol").
use Rattle.std.specs.Prelude.{ℕ, ◌==◌, ◌&&◌, ◌||◌, Bool, [], ◌∷◌, Option, None, Some, unwrap_or, Result, Ok, Err, if◌then◌else◌}
use Rattle.mctp_packet.specs.declared.TheConstants.{NULL_EID}
use Rattle.mctp_packet.specs.Refusals.{is_eid}
use Rattle.mctp_control.specs.Codes.{invalid_data, message_type_not_supported}
use Rattle.mctp_control.specs.declared.answer.Answer.{Answer}
use Rattle.mctp_control.specs.declared.answer.Answer.TheVariants.{Refused, EndpointIdSet, EndpointId, EndpointUuid}
use Rattle.mctp_control.specs.declared.answer.Answer.TheVariants.{VersionSupport, MessageTypeSupport}
use Rattle.mctp_control.specs.declared.answer.Assignment.TheVariants.{Accepted, Rejected}
use Rattle.mctp_control.specs.declared.answer.EidKind.{EidKind}
use Rattle.mctp_control.specs.declared.answer.EidKind.TheVariants.{Dynamic, Static}
use Rattle.mctp_control.specs.declared.answer.EndpointKind.TheVariants.{Simple}
use Rattle.mctp_control.specs.declared.assigned.TheConstants.{BASE_SPECIFICATION, CONTROL, PLDM}
use Rattle.mctp_control.specs.declared.command.Command.{Command}
use Rattle.mctp_control.specs.declared.command.Command.TheVariants.{SetEndpointId, GetEndpointId, GetEndpointUuid}
use Rattle.mctp_control.specs.declared.command.Command.TheVariants.{GetVersionSupport, GetMessageTypeSupport}
use Rattle.mctp_control.specs.declared.command.EidOperation.{EidOperation}
use Rattle.mctp_control.specs.declared.command.EidOperation.TheVariants.{Set, Force, Reset, SetDiscovered}
use Rattle.mctp_control.specs.declared.control_responder.ControlResponder.{ControlResponder}

-- its endpoint ID, the null one where none was assigned yet
abbrev pub own_eid : ControlResponder → ℕ
own_eid e = unwrap_or e.eid NULL_EID

-- an endpoint ID is taken where it is its own, or where it takes any
abbrev pub takes : ControlResponder → ℕ → Bool
takes e wanted = (wanted == own_eid e) || e.takes_eid

-- the endpoint ID with which Set Endpoint ID is accepted, if it is. Force is accepted where Set is. Reset goes back to
-- the static endpoint ID. It has no flag of discovery.
abbrev pub accepted_eid : ControlResponder → EidOperation → ℕ → Option ℕ
accepted_eid e Set wanted = if is_eid wanted && takes e wanted then Some wanted else None
accepted_eid e Force wanted = if is_eid wanted && takes e wanted then Some wanted else None
accepted_eid e Reset wanted = e.static_eid
accepted_eid e SetDiscovered wanted = None

-- what it answers where it accepts none: an endpoint ID that could be assigned is rejected, with its own
abbrev pub unaccepted_answer : ControlResponder → EidOperation → ℕ → Answer
unaccepted_answer e Set wanted =
    if is_eid wanted then EndpointIdSet Rejected (own_eid e) else Refused invalid_data
unaccepted_answer e Force wanted =
    if is_eid wanted then EndpointIdSet Rejected (own_eid e) else Refused invalid_data
unaccepted_answer e Reset wanted = Refused invalid_data
unaccepted_answer e SetDiscovered wanted = Refused invalid_data

-- accepted with an endpoint ID, or what is answered where it accepts none
abbrev pub answer_with : Option ℕ → Answer → Answer
answer_with (Some eid) unaccepted = EndpointIdSet Accepted eid
answer_with None unaccepted = unaccepted

abbrev pub set_answer : ControlResponder → EidOperation → ℕ → Answer
set_answer e operation wanted = answer_with (accepted_eid e operation wanted) (unaccepted_answer e operation wanted)

-- it was set up with a static endpoint ID, or it is given one
abbrev pub eid_kind : Option ℕ → EidKind
eid_kind (Some eid) = Static
eid_kind None = Dynamic

abbrev pub version_answer : ControlResponder → ℕ → Answer
version_answer e message_type =
    if message_type == BASE_SPECIFICATION then VersionSupport e.base_version
    else if message_type == CONTROL then VersionSupport e.control_version
    else if message_type == PLDM then VersionSupport e.pldm_version
    else Refused message_type_not_supported

-- what it answers to a command
abbrev pub answer_to : ControlResponder → Command → Answer
answer_to e (SetEndpointId operation eid) = set_answer e operation eid
answer_to e GetEndpointId = EndpointId (own_eid e) Simple (eid_kind e.static_eid) 0
answer_to e GetEndpointUuid = EndpointUuid e.uuid
answer_to e (GetVersionSupport message_type) = version_answer e message_type
answer_to e GetMessageTypeSupport = MessageTypeSupport (CONTROL ∷ PLDM ∷ [])

-- the endpoint ID that a command assigns, where that is accepted
abbrev pub accepted_by : ControlResponder → Command → Option ℕ
accepted_by e (SetEndpointId operation eid) = accepted_eid e operation eid
accepted_by e _ = None

-- of a request: what was read, or why it is refused
abbrev pub answer_of_read : ControlResponder → Result Command ℕ → Answer
answer_of_read e (Ok command) = answer_to e command
answer_of_read e (Err code) = Refused code

abbrev pub accepted_of_read : ControlResponder → Result Command ℕ → Option ℕ
accepted_of_read e (Ok command) = accepted_by e command
accepted_of_read e (Err code) = None
