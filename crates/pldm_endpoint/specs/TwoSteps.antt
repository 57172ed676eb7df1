-- What the two steps of an endpoint return and leave. A packet's request is answered at once, or it asks something of
-- the device, which is pending then: to perform its command, or to respond to the request as bytes. What the device
-- gives for it then takes the place of what is kept for the request's source and instance ID.
use Rattle.std.specs.FinMap as map
use Rattle.std.specs.Prelude.{◌≡◌, ℕ, ◌+◌, ◌<◌, ◌≤◌, ◌==◌, List, [], ◌∷◌, length, drop, take, Option, Some, None, IfSome, IsSome, option_map, if◌then◌else◌, refl}
use Rattle.std.specs.List.{All}
use Rattle.std.specs.Coded.{Coded, code_by, coded×, coded_ℕ}
use Rattle.mctp_packet.specs.declared.TheConstants.{NULL_EID}
use Rattle.pldm_wire.specs.Answers.{IsAnswerTo}
use Rattle.pldm_wire.specs.Commands.{kind_of}
use Rattle.pldm_wire.specs.HandingOn.{hands_on}
use Rattle.pldm_wire.specs.Headers.{id_at, kind_at}
use Rattle.pldm_wire.specs.Requests.{Request, request}
use Rattle.pldm_wire.specs.contracts.pass_through.PassThrough as handed_type
use Rattle.pldm_wire.specs.declared.answer.Answer.{Answer}
use Rattle.pldm_wire.specs.declared.answer.Answer.TheVariants.{Refused}
use Rattle.pldm_wire.specs.declared.assigned.TheConstants.{ERROR_NOT_READY, INSTANCE_IDS, REQUEST_HEADER}
use Rattle.pldm_wire.specs.declared.command.Command.{Command}
use Rattle.pldm_wire.specs.declared.pass_through.PassThrough.{PassThrough}
use Rattle.pldm_responder.specs.Arrivals.{Arrival, Drop, Part, Whole, request_packet}
use Rattle.pldm_responder.specs.Asked.{Answered, Given, Responded, gives, listed}
use Rattle.pldm_responder.specs.Ends.{End, coded_end, held_by}
use Rattle.pldm_responder.specs.Events.{Message}
use Rattle.pldm_responder.specs.ResponderStates.{Entry, ResponderState, id_in}
use Rattle.pldm_responder.specs.OutsideAnswers.{message_in, outcome_of_answer}
use Rattle.pldm_responder.specs.Performing.{Perform, Respond, Task, reply, tasks_of}
use Rattle.pldm_responder.specs.Recency.{renewed, replaced}
use Rattle.pldm_responder.specs.Slots.{kept_in}
use Rattle.pldm_responder.specs.Steps.{arrival_asks, arrival_held, open_after, received_arrival, received_outcome, received_tasks}
use Rattle.pldm_responder.specs.declared.outcome.Outcome.{Outcome}
use Rattle.pldm_endpoint.specs.RequestKeys.{PendingCommands, coded_request_key, pending_at, request_key, request_key_of}
use Rattle.pldm_endpoint.specs.contracts.pending_commands.PendingCommand as command_type
use Rattle.pldm_endpoint.specs.declared.pending_commands.PendingCommand.{PendingCommand}
use Rattle.pldm_endpoint.specs.declared.pending_commands.RequestKey.{RequestKey}
use Rattle.pldm_endpoint.specs.declared.step.CommandHandle.{CommandHandle}
use Rattle.pldm_endpoint.specs.declared.step.Step.{Step}
use Rattle.pldm_endpoint.specs.declared.step.Step.TheVariants as step

-- what contracts see of an endpoint: the answering end, which requests are handed on as bytes, what is pending, how
-- much was asked of the device, and how much may be pending at a time
pub record EndpointView : Type 0 where
  pub end : End
  pub handed_on : PassThrough
  pub pending : PendingCommands
  pub count : ℕ
  pub max_pending : ℕ

-- it is stored as its parts
abbrev pub coded_endpoint : Coded EndpointView
coded_endpoint =
    code_by (End × (PassThrough × (PendingCommands × (ℕ × ℕ))))
    (coded× coded_end (coded× handed_type.the_row.coded
    (coded× (map.code coded_request_key command_type.the_row.coded) (coded× coded_ℕ coded_ℕ))))
    (λ e. (e.end, (e.handed_on, (e.pending, (e.count, e.max_pending)))))
    (λ c. record {
      end = c.0;
      handed_on = c.1.0;
      pending = c.1.1.0;
      count = c.1.1.1.0;
      max_pending = c.1.1.1.1;
    })
    (λ _. refl)

-- what it holds: it has no device
abbrev pub held_in : EndpointView → ResponderState (Unit {0})
held_in e = held_by e.end

-- ---- what is asked of the device

-- the request that these bytes are
abbrev pub request_at : List ℕ → Request
request_at bytes = request (id_at bytes) (kind_at bytes) (drop REQUEST_HEADER bytes)

-- of these bytes the command is performed, where there is one, and else they are responded to
abbrev pub task_in : Option Command → List ℕ → Task
task_in None bytes = Respond (request_at bytes)
task_in (Some command) bytes = Perform command

-- what is asked by what is pending
abbrev pub task_for : PendingCommand → Task
task_for a = task_in a.command a.request

-- the command that is asked for
abbrev pub command_in : Task → Option Command
command_in (Perform command) = Some command
command_in (Respond request) = None

-- the request of what is pending is known
pub record IsWithDevice (handed : PassThrough) (count : ℕ) (key : RequestKey) (a : PendingCommand) : Type 0 where
  pub instance : key.id < INSTANCE_IDS
  pub task : tasks_of (hands_on handed) a.request ≡ task_for a ∷ []
  pub id : id_at a.request ≡ key.id
  pub before : a.number < count

-- a kept answer is there, or is to come
abbrev pub IsThereOrPending : PendingCommands → ℕ → Entry → Type 0
IsThereOrPending pending source entry =
    map.get pending (request_key source (id_in entry)) ≡ None → 0 < length entry.answer

-- that is so of all, and they are no more than there may be
pub record ArePending (end : End) (handed : PassThrough) (pending : PendingCommands) (count max_pending : ℕ) : Type 0 where
  pub each : (key : RequestKey) → IfSome (map.get pending key) (IsWithDevice handed count key)
  pub few : map.len pending ≤ max_pending
  pub kept : (source : ℕ) → All (IsThereOrPending pending source) (kept_in end.rows source)

-- while it has no endpoint ID, nothing is pending
abbrev pub NoneWithoutEid : End → PendingCommands → Type 0
NoneWithoutEid end pending = end.own ≡ NULL_EID → pending ≡ map.empty

-- ---- a packet that comes

-- for packets that ask nothing of the device: whatever it would give plays no part
abbrev pub unasked : Given
unasked = Answered (Refused ERROR_NOT_READY)

-- the handle under which something is pending
abbrev pub handle_of : Message → ℕ → CommandHandle
handle_of m number = record { source = m.source; id = id_at m.bytes; number = number }

abbrev pub asking_step : Task → CommandHandle → Step
asking_step (Perform command) handle = step.Perform handle
asking_step (Respond request) handle = step.Respond handle

-- a request asks something of the device, or the bytes are done with as a responder does
abbrev pub step_by : Outcome → ℕ → Option Message → List Task → Step
step_by outcome count None tasks = step.Done outcome
step_by outcome count (Some m) [] = step.Done outcome
step_by outcome count (Some m) (task ∷ tasks) = asking_step task (handle_of m count)

-- what is asked is pending from then on
abbrev pub command_at : Message → ℕ → Task → PendingCommand
command_at m number task = record {
  tag = m.tag;
  moment = m.moment;
  number = number;
  command = command_in task;
  request = m.bytes;
}

abbrev pub pending_by : PendingCommands → ℕ → Option Message → List Task → PendingCommands
pending_by pending count None tasks = pending
pending_by pending count (Some m) [] = pending
pending_by pending count (Some m) (task ∷ tasks) =
    map.insert pending (request_key_of m) (command_at m count task)

-- its place among what is kept for its source is taken, and the answer is to come
abbrev pub waiting : Message → Entry
waiting m = record { moment = m.moment; bytes = m.bytes; answer = [] }

abbrev pub with_waiting : {S : Type 0} → ResponderState S → Message → ResponderState S
with_waiting held m = record held {
  kept = λ source.
      if m.source == source then take held.window (renewed id_in (waiting m) (held.kept source))
      else held.kept source;
}

-- `answered` is what is held where the request was answered at once
abbrev pub kept_by : {S : Type 0} → List Task → Message → (answered held : ResponderState S) → ResponderState S
kept_by [] m answered held = answered
kept_by (task ∷ tasks) m answered held = with_waiting held m

-- the request that bytes complete
abbrev pub request_in : ResponderState (Unit {0}) → ℕ → List ℕ → Option Message
request_in held moment bytes = message_in (received_arrival held moment bytes)

module _ (handed : PassThrough) (held : ResponderState (Unit {0})) where
  -- what an arrival asks of the device
  abbrev pub arrival_tasks : Arrival → List Task
  arrival_tasks a = arrival_asks held (tasks_of (hands_on handed)) a

  -- what is held after an arrival, but for the open messages and the moment
  abbrev pub stepped : Arrival → ResponderState (Unit {0})
  stepped (Drop reason) = held
  stepped Part = held
  stepped (Whole m) = kept_by (arrival_tasks (Whole m)) m (arrival_held (gives (hands_on handed) unasked) held (Whole m)) held

  module _ (moment : ℕ) (bytes : List ℕ) where
    -- what the bytes ask of the device
    abbrev pub asked_now : List Task
    asked_now = received_tasks held (hands_on handed) moment bytes

    abbrev pub received_step : ℕ → Step
    received_step count =
        step_by (received_outcome (gives (hands_on handed) unasked) held moment bytes) count
        (request_in held moment bytes) asked_now

    abbrev pub pending_after : PendingCommands → ℕ → PendingCommands
    pending_after pending count = pending_by pending count (request_in held moment bytes) asked_now

    abbrev pub count_after : ℕ → ℕ
    count_after count = count + length asked_now

    abbrev pub held_after : ResponderState (Unit {0})
    held_after = record (stepped (received_arrival held moment bytes)) {
      open_messages = open_after held.open_messages (request_packet held.own bytes);
      last = moment;
    }

-- what is pending under this handle is what was asked, one thing or nothing
abbrev pub ArePendingAt : PendingCommands → CommandHandle → List Task → Type 0
ArePendingAt pending handle tasks = listed (option_map task_for (pending_at pending handle)) ≡ tasks

-- that is a command, or a request that was handed on as bytes
abbrev pub IsOfCommand : Option PendingCommand → Type 0
IsOfCommand None = ⊥
IsOfCommand (Some a) = IsSome a.command

abbrev pub IsHandedOn : Option PendingCommand → Type 0
IsHandedOn None = ⊥
IsHandedOn (Some a) = a.command ≡ None

-- what the step says is pending
abbrev pub IsAskedBy : Step → PendingCommands → List Task → Type 0
IsAskedBy (step.Done outcome) pending tasks = tasks ≡ []
IsAskedBy (step.Perform handle) pending tasks =
    ArePendingAt pending handle tasks × IsOfCommand (pending_at pending handle)
IsAskedBy (step.Respond handle) pending tasks =
    ArePendingAt pending handle tasks × IsHandedOn (pending_at pending handle)

-- ---- what the device gives

-- it answers this command
abbrev pub AnswersCommand : Option Command → Answer → Type 0
AnswersCommand None given = ⊥
AnswersCommand (Some command) given = IsAnswerTo (kind_of command) given

-- it is for what is pending: an answer to its command, or a response to a request that is handed on as bytes
abbrev pub IsForCommand : Option Command → Given → Type 0
IsForCommand command (Answered given) = AnswersCommand command given
IsForCommand command (Responded given) = command ≡ None

abbrev pub IsItsAnswer : Option PendingCommand → Given → Type 0
IsItsAnswer None given = ⊥
IsItsAnswer (Some a) given = IsForCommand a.command given

module _ (handed : PassThrough) where
  -- it goes to the source of the request, on the tag of that one's packets
  abbrev pub IsAnsweredBy : ℕ → CommandHandle → Given → Option PendingCommand → Outcome → Type 0
  IsAnsweredBy own handle given None outcome = ⊥
  IsAnsweredBy own handle given (Some a) outcome =
      outcome ≡ outcome_of_answer (hands_on handed) own handle.source a.tag a.request given

  -- and is kept for that request, from its moment on, in the place that the request took, if that is kept still
  abbrev pub entry_given : PendingCommand → Given → Entry
  entry_given a given = record {
    moment = a.moment;
    bytes = a.request;
    answer = reply (gives (hands_on handed) given) tt a.request;
  }

  abbrev pub answered_held : {S : Type 0} → ResponderState S → CommandHandle → Given → Option PendingCommand → ResponderState S
  answered_held held handle given None = held
  answered_held held handle given (Some a) = record held {
    kept = λ source.
        if handle.source == source then replaced id_in (entry_given a given) (held.kept source)
        else held.kept source;
  }
