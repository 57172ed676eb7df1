-- The calls of an endpoint behind a handle: what they report to C, and what is behind the handle then.
use Rattle.std.specs.FinMap as map
use Rattle.std.specs.Prelude.{◌≡◌, ◌≤◌, ℕ, ◌==◌, nat_le, nat_lt, ◌&&◌, Bool, true, false, MatchBool, List, [], ◌∷◌, length, take, slice_get}
use Rattle.std.specs.Prelude.{slice_index_or, Option, Some, None, IsSome, option_and_then, Result, Ok, Err, ◌⊎◌}
use Rattle.std.specs.Prelude.{if◌then◌else◌}
use Rattle.mctp_packet.specs.Reasons.{number_of}
use Rattle.mctp_packet.specs.Refusals.{is_eid}
use Rattle.mctp_packet.specs.declared.TheConstants.{MAX_MOMENT, NULL_EID}
use Rattle.mctp_packet.specs.declared.reason.Reason.{Reason}
use Rattle.pldm_wire.specs.Commands.{kind_of}
use Rattle.pldm_wire.specs.HandingOn.{hands_on}
use Rattle.pldm_wire.specs.Kinds.{TypeAndCommand}
use Rattle.pldm_wire.specs.Requests.{Request}
use Rattle.pldm_wire.specs.declared.answer.Answer.{Answer}
use Rattle.pldm_wire.specs.declared.assigned.TheConstants.{INSTANCE_IDS}
use Rattle.pldm_wire.specs.declared.command.Command.{Command}
use Rattle.pldm_wire.specs.declared.pass_through.PassThrough.{PassThrough}
use Rattle.pldm_wire.specs.declared.limits.TheConstants.{MAX_RESPONSE_DATA}
use Rattle.pldm_responder.specs.Asked.{Given}
use Rattle.pldm_responder.specs.Asked as given
use Rattle.pldm_responder.specs.Looking.{end_after, ended_by}
use Rattle.pldm_responder.specs.OpenOrder.{ended_held}
use Rattle.pldm_responder.specs.Answering.{answering}
use Rattle.pldm_responder.specs.Ends.{eid_or_null, has_row}
use Rattle.pldm_responder.specs.ResponderStates.{ResponderState, IsHeld, held_at_first}
use Rattle.pldm_responder.specs.Needs.{NeedsMemory}
use Rattle.pldm_responder.specs.OutsideAnswers.{outcome_of_answer}
use Rattle.pldm_responder.specs.Rooms.{AreRowsAfter}
use Rattle.pldm_responder.specs.Slots.{source_count}
use Rattle.pldm_responder.specs.Steps.{received_arrival, restarted_held}
use Rattle.pldm_responder.specs.declared.responder_settings.ResponderSettings.{ResponderSettings}
use Rattle.pldm_responder.specs.declared.outcome.Outcome.{Outcome}
use Rattle.pldm_responder.specs.declared.outcome.MessageOutcome.{MessageOutcome}
use Rattle.pldm_responder.specs.declared.outcome.Outcome.TheVariants.{Dropped, Partial, Answered}
use Rattle.pldm_endpoint.specs.Giving.{busy_with, response_of}
use Rattle.pldm_endpoint.specs.Receiving.{HasForgotten, HasSameSettings, IsAsBefore, IsCommanded}
use Rattle.pldm_endpoint.specs.Refusing.{refused_by}
use Rattle.pldm_endpoint.specs.RequestKeys.{pending_at, request_key}
use Rattle.pldm_endpoint.specs.TwoSteps.{EndpointView, answered_held, count_after, held_after, held_in, pending_after, received_step, request_at}
use Rattle.pldm_endpoint.specs.declared.pending_commands.PendingCommand.{PendingCommand}
use Rattle.pldm_endpoint.specs.declared.step.CommandHandle.{CommandHandle}
use Rattle.pldm_endpoint.specs.declared.step.MessageStep.{MessageStep}
use Rattle.pldm_endpoint.specs.declared.step.MessageStep.TheVariants as message_step
use Rattle.pldm_endpoint.specs.declared.step.ReceiveRefusal.{ReceiveRefusal}
use Rattle.pldm_endpoint.specs.declared.step.ReceiveRefusal.TheVariants.{Performing, BeingPerformed, Full, Sources, OpenMessages, Memory}
use Rattle.pldm_endpoint.specs.declared.step.Step.{Step}
use Rattle.pldm_endpoint.specs.declared.step.Step.TheVariants.{Perform, Respond, Done}
use Rattle.bus_endpoint.specs.Coming.{IsInStep, control_after, control_answer, dropped_for, eid_after}
use Rattle.needleoat_forms.specs.Answers.{answer_in}
use Rattle.needleoat_forms.specs.Commands.{command_in}
use Rattle.needleoat_forms.specs.Written.{HasFront}
use Rattle.needleoat_forms.specs.declared.answer.AnswerFields.{AnswerFields}
use Rattle.needleoat_forms.specs.declared.command.CommandFields.{CommandFields}
use Rattle.needleoat_c.specs.EndpointHandles.{Inside}
use Rattle.needleoat_c.specs.Settings.{IsSetup, control_in, first_eid, handed_in, keeping_in}
use Rattle.needleoat_c.specs.declared.kinds.TheConstants.{STEP_ANSWERED, STEP_CONTROL, STEP_DROPPED, STEP_PARTIAL, STEP_PERFORM, STEP_REFUSED, STEP_RESPOND}
use Rattle.needleoat_c.specs.declared.refusals.TheConstants.{ALREADY_THERE, BAD_MOMENT, BEING_PERFORMED, NOTHING_THERE, NOT_ITS_ANSWER, NOT_PENDING}
use Rattle.needleoat_c.specs.declared.refusals.TheConstants.{NO_MEMORY, OUT_OF_RANGE, OUT_OF_TURN, TOO_MANY_COMMANDS}
use Rattle.needleoat_c.specs.declared.refusals.TheConstants.{TOO_MANY_OPEN_MESSAGES, TOO_MANY_SOURCES}
use Rattle.needleoat_c.specs.declared.reports.HandleFields.{HandleFields}
use Rattle.needleoat_c.specs.declared.reports.RequestFields.{RequestFields}
use Rattle.needleoat_c.specs.declared.reports.StepReport.{StepReport}
use Rattle.needleoat_c.specs.declared.settings.EndpointSettings.{EndpointSettings}
use Rattle.needleoat_c.specs.declared.endpoint_handle.EndpointForC.{EndpointForC}

-- a handle says truly whether there is something behind it
abbrev pub SaysWhether : Bool → Option Inside → Type 0
SaysWhether true held = IsSome held
SaysWhether false held = held ≡ None

-- what C keeps: a handle of zeros keeps it, and so does each call
abbrev pub IsUpheld : EndpointForC → Type 0
IsUpheld endpoint = SaysWhether endpoint.is_live endpoint.handle.held

-- what is behind the handle is what this change makes of what was
abbrev pub IsLeft : (Inside → Inside → Type 0) → Option Inside → Option Inside → Type 0
IsLeft change (Some old) (Some new) = change old new
IsLeft change None None = Unit {0}
IsLeft change old new = ⊥

-- the handle of a command, as C has it
abbrev pub fields_of : CommandHandle → HandleFields
fields_of handle = record { number = handle.number; source = handle.source; instance_id = handle.id }

abbrev pub handle_in : HandleFields → CommandHandle
handle_in fields = record { source = fields.source; id = fields.instance_id; number = fields.number }

-- of no command
abbrev pub no_handle : HandleFields
no_handle = record { number = 0; source = 0; instance_id = 0 }

-- the command that is pending under a handle; one with a source that is no endpoint ID has none
abbrev pub pending_under : HandleFields → Inside → Option PendingCommand
pending_under fields inside = if is_eid fields.source then pending_at inside.endpoint.pending (handle_in fields) else None

-- that of the endpoint behind a handle
abbrev pub pending : HandleFields → Option Inside → Option PendingCommand
pending fields held = option_and_then (λ (inside : Inside). pending_under fields inside) held

-- the endpoint ID of the endpoint behind a handle, the null one where there is none
abbrev pub eid_of : Option Inside → ℕ
eid_of None = NULL_EID
eid_of (Some inside) = inside.endpoint.end.own

-- a moment that may come next
abbrev pub is_next : ℕ → Inside → Bool
is_next now inside = nat_le now MAX_MOMENT && nat_le (held_in inside.endpoint).last now

-- why a call at a moment is refused, whatever it is: 0 where it is not
abbrev pub refusal_at : ℕ → Option Inside → ℕ
refusal_at now None = NOTHING_THERE
refusal_at now (Some inside) = if is_next now inside then 0 else BAD_MOMENT

-- ---- making ----

-- what it holds: at the first start that of a new one, whose last moment is this one; else that of one which restarts
-- at this moment
abbrev pub started : ℕ → PassThrough → ResponderSettings → Bool → ℕ → ResponderState (Unit {0})
started own handed k true now = record (held_at_first own (busy_with handed k.busy) k.window k.keep tt) { last = now }
started own handed k false now = restarted_held (held_at_first own (busy_with handed k.busy) k.window k.keep tt) now

-- an endpoint was made with these settings at a moment: no command is pending, no message has begun, and no source has
-- room for answers
pub record IsStarted (s : EndpointSettings) (now : ℕ) (new : EndpointView) : Type 0 where
  pub held :
      IsHeld (held_in new) (started (eid_or_null (first_eid s)) (handed_in s) (keeping_in s) s.first_start now)
  pub handed_on : new.handed_on ≡ handed_in s
  pub sources : new.end.bounds.sources ≡ s.sources
  pub open_messages : new.end.bounds.open_messages ≡ s.open_messages
  pub ends_oldest : new.end.ends_oldest ≡ true
  pub max_pending : new.max_pending ≡ s.pending_commands
  pub idle : new.pending ≡ map.empty
  pub count : new.count ≡ 0
  pub begun : new.end.begun ≡ []
  pub no_rows : source_count new.end.rows ≡ 0

-- with what answers its control messages
pub record IsMade (s : EndpointSettings) (now : ℕ) (new : Inside) : Type 0 where
  pub endpoint : IsStarted s now new.endpoint
  pub control : new.control ≡ control_in s

-- it is behind the handle
abbrev pub IsNew : EndpointSettings → ℕ → Option Inside → Type 0
IsNew s now None = ⊥
IsNew s now (Some new) = IsMade s now new

-- 0, or why none is made: one is there; the settings are none; the moment is past the last one; or no memory was left
pub record ReportsMaking (s : EndpointSettings) (now : ℕ) (is_live : Bool) (result : ℕ) : Type 0 where
  pub already : is_live ≡ true → result ≡ ALREADY_THERE
  pub out_of_range : is_live ≡ false → (IsSetup s → ⊥) → result ≡ OUT_OF_RANGE
  pub bad_moment : is_live ≡ false → IsSetup s → (now ≤ MAX_MOMENT → ⊥) → result ≡ BAD_MOMENT
  pub made : is_live ≡ false → IsSetup s → now ≤ MAX_MOMENT → (result ≡ 0) ⊎ (result ≡ NO_MEMORY)

-- ---- restarting ----

pub record IsRestarted (now : ℕ) (old new : Inside) : Type 0 where
  pub held : IsHeld (held_in new.endpoint) (restarted_held (held_in old.endpoint) now)
  pub forgotten : HasForgotten new.endpoint old.endpoint
  pub control : new.control ≡ old.control

abbrev pub IsLeftByRestart : ℕ → ℕ → Inside → Inside → Type 0
IsLeftByRestart now refusal old new = MatchBool (refusal == 0) (IsRestarted now old new) (new ≡ old)

-- ---- reports ----

abbrev pub HasNumbers : ℕ → ℕ → Bool → Bool → ℕ → HandleFields → StepReport → Type 0
HasNumbers kind reason fresh changed count fields r =
    (r.kind ≡ kind) × (r.reason ≡ reason) × (r.fresh ≡ fresh) × (r.changed ≡ changed) × (r.count ≡ count)
    × (r.handle ≡ fields)

abbrev pub IsRefused : ℕ → StepReport → Type 0
IsRefused number r = HasNumbers STEP_REFUSED number false false 0 no_handle r

-- a packet is in front of its room, and this is its length
abbrev pub IsInFront : Option (List ℕ) → ℕ → List ℕ → Type 0
IsInFront None count room = count ≡ 0
IsInFront (Some packet) count room = (count ≡ length packet) × (take count room ≡ packet)

abbrev pub IsPacket : ℕ → List (List ℕ) → List ℕ → List (List ℕ) → Type 0
IsPacket place packets lengths rooms =
    IsInFront (slice_get packets place) (slice_index_or lengths place 0) (slice_index_or rooms place [])

-- each packet is in front of its room
abbrev pub ArePackets : List (List ℕ) → List ℕ → List (List ℕ) → Type 0
ArePackets packets lengths rooms =
    IsPacket 0 packets lengths rooms
    × IsPacket 1 packets lengths rooms
    × IsPacket 2 packets lengths rooms
    × IsPacket 3 packets lengths rooms
    × IsPacket 4 packets lengths rooms

-- the numbers of an outcome, and its packets
abbrev pub ReportsOutcome : Outcome → StepReport → List (List ℕ) → Type 0
ReportsOutcome (Dropped reason) r rooms = HasNumbers STEP_DROPPED (number_of reason) false false 0 no_handle r
ReportsOutcome Partial r rooms = HasNumbers STEP_PARTIAL 0 false false 0 no_handle r
ReportsOutcome (Answered fresh changed packets) r rooms =
    HasNumbers STEP_ANSWERED 0 fresh changed (length packets) no_handle r × ArePackets packets r.lengths rooms

abbrev pub ReportsStep : Step → StepReport → List (List ℕ) → Type 0
ReportsStep (Perform handle) r rooms = HasNumbers STEP_PERFORM 0 false false 0 (fields_of handle) r
ReportsStep (Respond handle) r rooms = HasNumbers STEP_RESPOND 0 false false 0 (fields_of handle) r
ReportsStep (Done outcome) r rooms = ReportsOutcome outcome r rooms

-- a packet that answers a control message is in the first room
abbrev pub ReportsControl : List ℕ → StepReport → List (List ℕ) → Type 0
ReportsControl reply r rooms =
    HasNumbers STEP_CONTROL 0 false false 1 no_handle r × ArePackets (reply ∷ []) r.lengths rooms

-- it asks for a command to be performed
abbrev pub IsPerform : MessageStep → Type 0
IsPerform (message_step.Perform handle) = Unit {0}
IsPerform (message_step.Respond handle) = ⊥
IsPerform (message_step.Done taken) = ⊥

-- ---- packets that come ----

-- a refusal's number
abbrev pub number_of_refusal : ReceiveRefusal → ℕ
number_of_refusal Performing = OUT_OF_TURN
number_of_refusal BeingPerformed = BEING_PERFORMED
number_of_refusal Full = TOO_MANY_COMMANDS
number_of_refusal Sources = TOO_MANY_SOURCES
number_of_refusal OpenMessages = TOO_MANY_OPEN_MESSAGES
number_of_refusal (Memory memory) = NO_MEMORY

-- what becomes of it at the endpoint, and if it is dropped there, for which reason
abbrev pub step_of : ℕ → List ℕ → Inside → Step
step_of now bytes inside =
    received_step inside.endpoint.handed_on (held_in inside.endpoint) now bytes inside.endpoint.count

abbrev pub dropped_of : ℕ → List ℕ → Inside → Option Reason
dropped_of now bytes inside = dropped_for (step_of now bytes inside)

-- the packet that answers it as a control message
abbrev pub reply_of : ℕ → List ℕ → Inside → Option (List ℕ)
reply_of now bytes inside = control_answer inside.control now (dropped_of now bytes inside) bytes

-- it is answered as a control message, or it is what the endpoint makes of it
abbrev pub ReportsCome : Step → Option (List ℕ) → StepReport → List (List ℕ) → Type 0
ReportsCome step None r rooms = ReportsStep step r rooms
ReportsCome step (Some reply) r rooms = ReportsControl reply r rooms

-- what becomes of it; it is refused for want of memory only where it may want some
abbrev pub ReportsTaken : ℕ → List ℕ → StepReport → List (List ℕ) → Inside → Type 0
ReportsTaken now bytes r rooms inside =
    ReportsCome (step_of now bytes inside) (reply_of now bytes inside) r rooms
    ⊎ (IsRefused NO_MEMORY r
    × (NeedsMemory (held_in inside.endpoint) true now bytes ⊎ IsCommanded inside.endpoint now bytes))

-- it is refused where the endpoint refuses it whatever memory there is, with the number of its reason
abbrev pub ReportsAllowed :
    Option ReceiveRefusal → ℕ → List ℕ → StepReport → List (List ℕ) → Inside → Type 0
ReportsAllowed None now bytes r rooms inside = ReportsTaken now bytes r rooms inside
ReportsAllowed (Some refusal) now bytes r rooms inside = IsRefused (number_of_refusal refusal) r

abbrev pub ReportsPacketIn : ℕ → List ℕ → StepReport → List (List ℕ) → Inside → Type 0
ReportsPacketIn now bytes r rooms inside =
    MatchBool (is_next now inside) (ReportsAllowed (refused_by inside.endpoint now bytes) now bytes r rooms inside)
    (IsRefused BAD_MOMENT r)

abbrev pub ReportsPacket : ℕ → List ℕ → StepReport → List (List ℕ) → Option Inside → Type 0
ReportsPacket now bytes r rooms None = IsRefused NOTHING_THERE r
ReportsPacket now bytes r rooms (Some inside) = ReportsPacketIn now bytes r rooms inside

-- what an endpoint holds that received a packet, in which order its open messages began, what is pending there, and
-- which sources have room for answers; where the packet begins a message for which there was no room, the oldest that
-- was open has ended
pub record IsTaken (now : ℕ) (bytes : List ℕ) (old new : EndpointView) : Type 0 where
  pub held : IsHeld (held_in new) (ended_held (ended_by old.end bytes) (held_after old.handed_on (held_in old) now bytes))
  pub begun : new.end.begun ≡ (end_after old.end now bytes).begun
  pub pending : new.pending ≡ pending_after old.handed_on (held_in old) now bytes old.pending old.count
  pub count : new.count ≡ count_after old.handed_on (held_in old) now bytes old.count
  pub room : AreRowsAfter (held_in old) old.end.rows (received_arrival (held_in old) now bytes) new.end.rows
  pub settings : HasSameSettings new old

-- where the endpoint dropped it, what answers control messages may have another endpoint ID, and the endpoint has that
-- from then on
pub record IsReceived (now : ℕ) (bytes : List ℕ) (old new : Inside) : Type 0 where
  pub endpoint : EndpointView
  pub taken : IsTaken now bytes old.endpoint endpoint
  pub control : new.control ≡ control_after old.control now (dropped_of now bytes old) bytes
  pub in_step : IsInStep endpoint now (eid_after old.control now (dropped_of now bytes old) bytes) new.endpoint

-- a packet that was refused changes nothing
pub record IsUnchanged (new old : Inside) : Type 0 where
  pub endpoint : IsAsBefore new.endpoint old.endpoint
  pub control : new.control ≡ old.control

abbrev pub IsLeftByPacket : ℕ → List ℕ → ℕ → Inside → Inside → Type 0
IsLeftByPacket now bytes kind old new =
    MatchBool (kind == STEP_REFUSED) (IsUnchanged new old) (IsReceived now bytes old new)

-- the fields are those of the command that is pending
abbrev pub AreOf : Option PendingCommand → CommandFields → Type 0
AreOf None fields = ⊥
AreOf (Some a) fields = (fields.instance_id ≡ 0) × IsSome a.command × (command_in fields ≡ a.command)

-- where a command is to be performed, its fields are there; else they are as before
abbrev pub HasCommand : ℕ → Option PendingCommand → CommandFields → CommandFields → Type 0
HasCommand kind pending old new = MatchBool (kind == STEP_PERFORM) (AreOf pending new) (new ≡ old)

-- ---- answers of the device ----

-- the answer that these fields are to a command of this kind, or why they are none: a number is out of its range, else
-- the PLDM type or the command is another
abbrev pub given_in : TypeAndCommand → AnswerFields → Option Answer → Result Answer ℕ
given_in kind fields None = Err OUT_OF_RANGE
given_in kind fields (Some answer) =
    if fields.pldm_type == kind.pldm_type && fields.command == kind.command then Ok answer else Err NOT_ITS_ANSWER

abbrev pub given_to : Command → AnswerFields → Result Answer ℕ
given_to command fields =
    if nat_lt fields.instance_id INSTANCE_IDS then given_in (kind_of command) fields (answer_in fields)
    else Err OUT_OF_RANGE

-- the same, of the command that is pending, if one is: a request that was handed on as bytes has none
abbrev pub given_for_command : Option Command → AnswerFields → Result Answer ℕ
given_for_command None fields = Err NOT_ITS_ANSWER
given_for_command (Some command) fields = given_to command fields

abbrev pub given_for : Option PendingCommand → AnswerFields → Result Answer ℕ
given_for None fields = Err NOT_PENDING
given_for (Some a) fields = given_for_command a.command fields

-- why there is no command to be answered
abbrev pub unanswered : Option PendingCommand → ℕ
unanswered None = NOT_PENDING
unanswered (Some a) = NOT_ITS_ANSWER

abbrev pub answered_by : Result Answer ℕ → Result Given ℕ
answered_by (Ok answer) = Ok (given.Answered answer)
answered_by (Err number) = Err number

-- what comes of it, with the packets of `reply`
abbrev pub with_packets : List ℕ → Result MessageOutcome ℕ → Result Outcome ℕ
with_packets reply (Ok taken) = Ok (answering reply taken)
with_packets reply (Err number) = Err number

-- what comes of what is given for a request: it goes to the request's source, on the tag of that one's packets
abbrev pub outcome_for : PassThrough → ℕ → ℕ → PendingCommand → Result Given ℕ → Result Outcome ℕ
outcome_for handed own source a (Ok given) = Ok (outcome_of_answer (hands_on handed) own source a.tag a.request given)
outcome_for handed own source a (Err number) = Err number

-- the same, of what is pending, if something is
abbrev pub outcome_at : PassThrough → ℕ → ℕ → Option PendingCommand → Result Given ℕ → Result Outcome ℕ
outcome_at handed own source None given = Err NOT_PENDING
outcome_at handed own source (Some a) given = outcome_for handed own source a given

-- the same, of what is pending under a handle
abbrev pub outcome_under : HandleFields → Inside → Result Given ℕ → Result Outcome ℕ
outcome_under handle inside given =
    outcome_at inside.endpoint.handed_on inside.endpoint.end.own handle.source (pending_under handle inside) given

-- what comes of an answer
abbrev pub answer_outcome : HandleFields → AnswerFields → Inside → Result Outcome ℕ
answer_outcome handle fields inside =
    outcome_under handle inside (answered_by (given_for (pending_under handle inside) fields))

-- the report of what came of what was given, or of why it was refused
abbrev pub ReportsGiven : Result Outcome ℕ → StepReport → List (List ℕ) → Type 0
ReportsGiven (Ok outcome) r rooms = ReportsOutcome outcome r rooms
ReportsGiven (Err number) r rooms = IsRefused number r

abbrev pub ReportsAnswer : HandleFields → AnswerFields → StepReport → List (List ℕ) → Option Inside → Type 0
ReportsAnswer handle fields r rooms None = IsRefused NOTHING_THERE r
ReportsAnswer handle fields r rooms (Some inside) = ReportsGiven (answer_outcome handle fields inside) r rooms

-- it is kept for that request, from its moment on, which is no longer pending
pub record IsAnswered (handle : CommandHandle) (given : Given) (old new : EndpointView) : Type 0 where
  pub held :
      IsHeld (held_in new) (answered_held old.handed_on (held_in old) handle given (pending_at old.pending handle))
  pub begun : new.end.begun ≡ old.end.begun
  pub pending : new.pending ≡ map.remove old.pending (request_key handle.source handle.id)
  pub count : new.count ≡ old.count
  pub room : (source : ℕ) → has_row new.end.rows source ≡ has_row old.end.rows source
  pub sources : source_count new.end.rows ≡ source_count old.end.rows
  pub settings : HasSameSettings new old

-- an answer that was refused changes nothing
abbrev pub IsLeftByGiven : Result Given ℕ → CommandHandle → Inside → Inside → Type 0
IsLeftByGiven (Ok given) handle old new =
    IsAnswered handle given old.endpoint new.endpoint × (new.control ≡ old.control)
IsLeftByGiven (Err number) handle old new = new ≡ old

abbrev pub IsLeftByAnswer : HandleFields → AnswerFields → Inside → Inside → Type 0
IsLeftByAnswer handle fields old new =
    IsLeftByGiven (answered_by (given_for (pending_under handle old) fields)) (handle_in handle) old new

-- ---- responses to requests that were handed on as bytes ----

-- the fields are those of this request: its data is in front, and what follows is as it was
pub record AreRequest (request : Request) (old new : RequestFields) : Type 0 where
  pub pldm_type : new.pldm_type ≡ request.kind.pldm_type
  pub command : new.command ≡ request.kind.command
  pub front : HasFront request.rest new.length old.«data» new.«data»

-- where something is pending, the fields are those of its request; else they are as before
abbrev pub HasRequest : Bool → Option PendingCommand → RequestFields → RequestFields → Type 0
HasRequest found None old new = (found ≡ false) × (new ≡ old)
HasRequest found (Some a) old new = (found ≡ true) × AreRequest (request_at a.request) old new

-- the response to a request that was handed on, or why it is none: that of a command is none, and one is too long
abbrev pub response_to_command : Option Command → ℕ → List ℕ → Result Given ℕ
response_to_command (Some command) code bytes = Err NOT_ITS_ANSWER
response_to_command None code bytes =
    if nat_lt MAX_RESPONSE_DATA (length bytes) then Err OUT_OF_RANGE else Ok (response_of code bytes)

abbrev pub response_for : Option PendingCommand → ℕ → List ℕ → Result Given ℕ
response_for None code bytes = Err NOT_PENDING
response_for (Some a) code bytes = response_to_command a.command code bytes

-- what comes of a response
abbrev pub response_outcome : HandleFields → ℕ → List ℕ → Inside → Result Outcome ℕ
response_outcome handle code bytes inside =
    outcome_under handle inside (response_for (pending_under handle inside) code bytes)

abbrev pub ReportsResponse : HandleFields → ℕ → List ℕ → StepReport → List (List ℕ) → Option Inside → Type 0
ReportsResponse handle code bytes r rooms None = IsRefused NOTHING_THERE r
ReportsResponse handle code bytes r rooms (Some inside) = ReportsGiven (response_outcome handle code bytes inside) r rooms

abbrev pub IsLeftByResponse : HandleFields → ℕ → List ℕ → Inside → Inside → Type 0
IsLeftByResponse handle code bytes old new =
    IsLeftByGiven (response_for (pending_under handle old) code bytes) (handle_in handle) old new
