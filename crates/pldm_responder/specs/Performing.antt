-- What a platform makes of the messages that reach it, each fresh one performed once, and what each is answered.
use Rattle.std.specs.Prelude.{ℕ, ℤ, List, [], ◌∷◌, Bool, false, ◌&&◌, ◌==◌, Option, Some, None, Result, Ok, Err, if◌then◌else◌}
use Rattle.mctp_packet.specs.declared.reason.Reason.{Reason}
use Rattle.pldm_wire.specs.Answers.{answer_message, code_of}
use Rattle.pldm_wire.specs.Commands.{sets}
use Rattle.pldm_wire.specs.CommandReading.{command_of}
use Rattle.pldm_wire.specs.Kinds.{TypeAndCommand}
use Rattle.pldm_wire.specs.Messages.{response_message}
use Rattle.pldm_wire.specs.Requests.{Request, request_of}
use Rattle.pldm_wire.specs.declared.answer.Answer.{Answer}
use Rattle.pldm_wire.specs.declared.answer.Answer.TheVariants.{Refused}
use Rattle.pldm_wire.specs.declared.assigned.TheConstants.{ERROR_NOT_READY, SUCCESS}
use Rattle.pldm_wire.specs.declared.restart_policy.RestartPolicy.{RestartPolicy}
use Rattle.pldm_wire.specs.declared.command.Command.{Command}
use Rattle.pldm_platform.specs.Changes.{changed_or}
use Rattle.pldm_platform.specs.declared.platform.ReadingFault.{ReadingFault}
use Rattle.pldm_responder.specs.Events.{Message, Event, Came, Set, Restarted, Changed, Place, origin, is_copy_of, is_fresh}
use Rattle.pldm_wire.specs.Headers.{id_at}

-- a response as bytes: its completion code, and the bytes after it
pub record Response : Type 0 where
  pub code : ℕ
  pub rest : List ℕ

-- a platform's answer to a command in a state, the state after it, and the state after a reading is set; and which
-- requests are handed on to it as bytes, what it responds to one, and the state after that
pub record Rules (S : Type 0) : Type 0 where
  pub answer : S → Command → Answer
  pub after : S → Command → S
  pub sensed : S → ℕ → ℤ → Result S ReadingFault
  pub hands_on : TypeAndCommand → Bool
  pub respond : S → Request → Response
  pub after_response : S → Request → S

-- of a platform to which no request is handed on as bytes
abbrev pub rules_of :
    {S : Type 0} → (S → Command → Answer) → (S → Command → S) → (S → ℕ → ℤ → Result S ReadingFault) → Rules S
rules_of answer after sensed = record {
  answer = answer;
  after = after;
  sensed = sensed;
  hands_on = λ kind. false;
  respond = λ state request. record { code = ERROR_NOT_READY; rest = [] };
  after_response = λ state request. state;
}

-- a command that was read is answered by the platform, a refused one with its completion code
abbrev pub answer_to : {S : Type 0} → Rules S → S → Result Command ℕ → Answer
answer_to device state (Ok command) = device.answer state command
answer_to device state (Err code) = Refused code

abbrev pub after_command : {S : Type 0} → Rules S → S → Result Command ℕ → S
after_command device state (Ok command) = device.after state command
after_command device state (Err code) = state

-- a command that sets was answered with code 0
abbrev pub changes_by : {S : Type 0} → Rules S → S → Result Command ℕ → Bool
changes_by device state (Ok command) = sets command && code_of (device.answer state command) == SUCCESS
changes_by device state (Err code) = false

-- the message of a response to a request that was handed on as bytes
abbrev pub response_to : Request → Response → List ℕ
response_to request response = response_message 0 request.id request.kind response.code response.rest

-- the message that answers a request
abbrev pub reply_to : {S : Type 0} → Rules S → S → Result Request Reason → List ℕ
reply_to device state (Ok request) =
    if device.hands_on request.kind then response_to request (device.respond state request)
    else answer_message request.id request.kind (answer_to device state (command_of request.kind request.rest))
reply_to device state (Err reason) = []

-- the state after a request
abbrev pub next_after : {S : Type 0} → Rules S → S → Result Request Reason → S
next_after device state (Ok request) =
    if device.hands_on request.kind then device.after_response state request
    else after_command device state (command_of request.kind request.rest)
next_after device state (Err reason) = state

-- one that is handed on as bytes counts as one that sets something
abbrev pub changes_at : {S : Type 0} → Rules S → S → Result Request Reason → Bool
changes_at device state (Ok request) =
    if device.hands_on request.kind then (device.respond state request).code == SUCCESS
    else changes_by device state (command_of request.kind request.rest)
changes_at device state (Err reason) = false

-- the commands that a request has performed: its own where it is read, none where it is refused
abbrev pub commands_in : Result Command ℕ → List Command
commands_in (Ok command) = command ∷ []
commands_in (Err code) = []

abbrev pub commands_at : Result Request Reason → List Command
commands_at (Ok request) = commands_in (command_of request.kind request.rest)
commands_at (Err reason) = []

-- what a request asks of a device: to perform a command, or to respond to a request that is handed on to it as bytes
pub data Task : Type 0 where
  Perform : Command → Task
  Respond : Request → Task

abbrev pub tasks_in : Result Command ℕ → List Task
tasks_in (Ok command) = Perform command ∷ []
tasks_in (Err code) = []

-- what a request asks where those that pass this test are handed on as bytes: nothing where it is refused
abbrev pub tasks_at : (TypeAndCommand → Bool) → Result Request Reason → List Task
tasks_at hands_on (Ok request) =
    if hands_on request.kind then Respond request ∷ [] else tasks_in (command_of request.kind request.rest)
tasks_at hands_on (Err reason) = []

-- the message that answers one while the responder is busy
abbrev pub busy_reply_to : Result Request Reason → List ℕ
busy_reply_to (Ok request) = answer_message request.id request.kind (Refused ERROR_NOT_READY)
busy_reply_to (Err reason) = []

-- the same, of a message's bytes
abbrev pub reply : {S : Type 0} → Rules S → S → List ℕ → List ℕ
reply device state bytes = reply_to device state (request_of bytes)

abbrev pub next : {S : Type 0} → Rules S → S → List ℕ → S
next device state bytes = next_after device state (request_of bytes)

abbrev pub changes : {S : Type 0} → Rules S → S → List ℕ → Bool
changes device state bytes = changes_at device state (request_of bytes)

abbrev pub commands_of : List ℕ → List Command
commands_of bytes = commands_at (request_of bytes)

abbrev pub tasks_of : (TypeAndCommand → Bool) → List ℕ → List Task
tasks_of hands_on bytes = tasks_at hands_on (request_of bytes)

abbrev pub busy_reply : List ℕ → List ℕ
busy_reply bytes = busy_reply_to (request_of bytes)

module _ {S : Type 0} (device : Rules S) (busy : RestartPolicy) (window keep : ℕ) (start : S) where
  -- the platform's state: each fresh message is performed once, each reading set, and each change from outside put, in
  -- order
  abbrev pub performed : List (Event S) → S
  performed [] = start
  performed (Came m ∷ events) =
      if is_fresh busy window keep events m then next device (performed events) m.bytes else performed events
  performed (Set id value ∷ events) = changed_or (performed events) (device.sensed (performed events) id value)
  performed (Restarted _ ∷ events) = performed events
  performed (Changed state ∷ events) = state

  -- the reply of the message at a place, where it is performed there
  abbrev pub reply_at : Place S → List ℕ
  reply_at place = reply device (performed place.before) place.message.bytes

  abbrev pub answered_by : List (Event S) → Message → Option (Place S) → List ℕ
  answered_by events m None = reply device (performed events) m.bytes
  answered_by events m (Some place) =
      if is_copy_of keep m (Some place) then reply_at place else reply device (performed events) m.bytes

  -- what a message is answered while the responder serves: its own reply where it is fresh, else its origin's
  abbrev pub answered : List (Event S) → Message → List ℕ
  answered events m = answered_by events m (origin busy window keep events m.source (id_at m.bytes))
