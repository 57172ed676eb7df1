-- Laws of control messages over the definitions alone.
use Rattle.std.specs.Prelude.{◌≡◌, ℕ, ◌+◌, ◌<◌, ◌≤◌, ◌%◌, ◌⊎◌, false, true, List, [], ◌∷◌, ◌++◌, length, slice_index, Ok, None, Some, IfSome}
use Rattle.mctp_packet.specs.Ids.{IsEid}
use Rattle.mctp_packet.specs.Refusals.{refusal}
use Rattle.mctp_packet.specs.declared.TheConstants.{HEADER, VERSION}
use Rattle.mctp_packet.specs.declared.reason.Reason.{Reason}
use Rattle.mctp_packet.specs.declared.reason.Reason.TheVariants.{NotPldm, UnknownDestination}
use Rattle.mctp_control.specs.AnswerReading.{answer_of}
use Rattle.mctp_control.specs.Answers.{AnswerFields, HasData, IsAnswerTo, answer_data, code_of}
use Rattle.mctp_control.specs.CommandReading.{command_of}
use Rattle.mctp_control.specs.Commands.{CommandFields, command_data, number_of}
use Rattle.mctp_control.specs.Dropped.{control_left, control_reply}
use Rattle.mctp_control.specs.Histories.{AreAlike, IsAnsweredAsBefore, TimedPacket, after, assigning, assigns, is_copy}
use Rattle.mctp_control.specs.Messages.{IsRequest, IsResponse, Request, Response}
use Rattle.mctp_control.specs.Packets.{is_whole_request, left_by, reply_to}
use Rattle.mctp_control.specs.Queries.{ControlQuery, IsAnswer}
use Rattle.mctp_control.specs.declared.answer.Answer.{Answer}
use Rattle.mctp_control.specs.declared.assigned.TheConstants.{CONTROL}
use Rattle.mctp_control.specs.declared.command.Command.{Command}
use Rattle.mctp_control.specs.declared.control_responder.ControlResponder.{ControlResponder}
use Rattle.mctp_control.specs.declared.kept_assignments.TheConstants.{KEPT_ASSIGNMENTS}

-- no bytes are two requests
abbrev pub OneRequest : Type 0
OneRequest = (bytes : List ℕ) (r other : Request) → IsRequest bytes r → IsRequest bytes other → r ≡ other

-- no bytes are two responses
abbrev pub OneResponse : Type 0
OneResponse = (bytes : List ℕ) (r other : Response) → IsResponse bytes r → IsResponse bytes other → r ≡ other

-- no bytes are a request and a response
abbrev pub RequestOrResponse : Type 0
RequestOrResponse = (bytes : List ℕ) (r : Request) (other : Response) → IsRequest bytes r → IsResponse bytes other → ⊥

-- no data are two commands of one number
abbrev pub OneCommand : Type 0
OneCommand =
    (command other : Command) (number : ℕ) (bytes : List ℕ)
    → CommandFields command number bytes → CommandFields other number bytes → command ≡ other

-- what a command is written with is read back as it
abbrev pub CommandReadBack : Type 0
CommandReadBack = (command : Command) → command_of (number_of command) (command_data command) ≡ Ok command

-- no code and data are two answers to one command
abbrev pub OneAnswer : Type 0
OneAnswer =
    (answer other : Answer) (number code : ℕ) (bytes : List ℕ)
    → AnswerFields answer number code bytes → AnswerFields other number code bytes → answer ≡ other

-- what an answer is written with is read back as it
abbrev pub AnswerReadBack : Type 0
AnswerReadBack =
    (answer : Answer) (number : ℕ)
    → IsAnswerTo number answer → HasData answer (answer_data answer)
    → answer_of number (code_of answer) (answer_data answer) ≡ Some answer

-- a packet that comes now asks nothing of the responder
abbrev pub AsksNothing : ControlResponder → ℕ → List ℕ → Type 0
AsksNothing e now packet = (reply_to e now packet ≡ None) × (left_by e now packet ≡ e)

-- where a responder of PLDM dropped a packet for this reason, it is answered as if none had stood before the control
-- responder, and leaves that as if none had
abbrev pub IsSeenDropped : ControlResponder → ℕ → List ℕ → Reason → Type 0
IsSeenDropped e now packet reason =
    (control_reply e now reason packet ≡ reply_to e now packet)
    × (control_left e now reason packet ≡ left_by e now packet)

-- so is a packet that the checks of its header drop, at an endpoint ID
abbrev pub HeaderDropsSeen : Type 0
HeaderDropsSeen =
    (e : ControlResponder) (own now : ℕ) (packet : List ℕ) → IsEid own → e.eid ≡ Some own
    → IfSome (refusal (Some own) packet) (IsSeenDropped e now packet)

-- and any packet, where a responder that has no endpoint ID dropped it for its destination
abbrev pub NoIdDropsSeen : Type 0
NoIdDropsSeen =
    (e : ControlResponder) (now : ℕ) (packet : List ℕ) → e.eid ≡ None
    → IsSeenDropped e now packet UnknownDestination

-- and a packet that has a message of another type
abbrev pub OtherTypesSeen : Type 0
OtherTypesSeen = (e : ControlResponder) (now : ℕ) (packet : List ℕ) → IsSeenDropped e now packet NotPldm

-- a packet that is too short, or of another version, asks nothing
abbrev pub ShortUnanswered : Type 0
ShortUnanswered =
    (e : ControlResponder) (now : ℕ) (packet : List ℕ) → length packet < HEADER → AsksNothing e now packet

abbrev pub OtherVersionsUnanswered : Type 0
OtherVersionsUnanswered =
    (e : ControlResponder) (now : ℕ) (packet : List ℕ)
    → (slice_index packet 0 % 16 ≡ VERSION → ⊥) → AsksNothing e now packet

-- nor does a packet of a message of several, or one whose tag is not its source's
abbrev pub PartsUnanswered : Type 0
PartsUnanswered =
    (e : ControlResponder) (now : ℕ) (packet : List ℕ)
    → is_whole_request (slice_index packet 3) ≡ false → AsksNothing e now packet

-- nor does any message whose first byte is not that of control messages
abbrev pub OtherMessagesUnanswered : Type 0
OtherMessagesUnanswered =
    (e : ControlResponder) (now : ℕ) (packet : List ℕ)
    → (slice_index packet HEADER ≡ CONTROL → ⊥) → AsksNothing e now packet

-- a copy of an assignment changes nothing
abbrev pub CopiesChangeNothing : Type 0
CopiesChangeNothing =
    (e : ControlResponder) (p : TimedPacket) → is_copy e p ≡ true → left_by e p.moment p.bytes ≡ e

-- and is answered with the message that answered what it repeats
abbrev pub CopiesAnsweredAlike : Type 0
CopiesAnsweredAlike =
    (e : ControlResponder) (packets : List TimedPacket) (p : TimedPacket)
    → e.kept ≡ [] → is_copy (after e packets) p ≡ true → IsAnsweredAsBefore e packets p

-- between two packets that assign, have one source and the same message there is the keeping time, or as many others
-- that assign as are kept
abbrev pub AssignedApart : Type 0
AssignedApart =
    (e : ControlResponder) (before later : List TimedPacket) (first again : TimedPacket)
    → assigns (after e before) first ≡ true
    → assigns (after e (later ++ first ∷ before)) again ≡ true
    → AreAlike again first
    → (first.moment + e.keep ≤ again.moment)
    ⊎ (KEPT_ASSIGNMENTS ≤ length (assigning (after e (first ∷ before)) later))

-- two queries of one endpoint, that go to one device with one tag, instance ID and command number: their data may
-- differ
pub record AskAlike (q other : ControlQuery) : Type 0 where
  pub own : q.own ≡ other.own
  pub device : q.device ≡ other.device
  pub tag : q.tag ≡ other.tag
  pub id : q.id ≡ other.id
  pub command : number_of q.command ≡ number_of other.command

-- a packet that answers a query answers none that is unlike it
abbrev pub AnswersNoOther : Type 0
AnswersNoOther =
    (q other : ControlQuery) (bytes message again : List ℕ)
    → IsAnswer q bytes message → IsAnswer other bytes again → AskAlike q other

-- and it answers with one message
abbrev pub OneAnswerMessage : Type 0
OneAnswerMessage =
    (q : ControlQuery) (bytes message again : List ℕ)
    → IsAnswer q bytes message → IsAnswer q bytes again → message ≡ again
