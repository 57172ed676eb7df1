-- What an endpoint returns and holds after any list of calls: what a responder does whose platform gives what the
-- device gave, each to what it was asked. Everything that is asked has a number, that of what was asked before it, and
-- `answers` says what the device gives for it, sooner or later.
use Rattle.std.specs.FinMap as map
use Rattle.std.specs.Prelude.{◌≡◌, ℕ, ◌+◌, List, [], ◌∷◌, Option, Some, None, IfSome, Err}
use Rattle.std.specs.Prelude.{map as list_map}
use Rattle.mctp_assembly.specs.declared.key.Key.{Key}
use Rattle.pldm_wire.specs.HandingOn.{hands_on}
use Rattle.pldm_wire.specs.Headers.{id_at}
use Rattle.pldm_wire.specs.declared.pass_through.PassThrough.{PassThrough}
use Rattle.pldm_platform.specs.declared.platform.ReadingFault.TheVariants.{NoSuchSensor}
use Rattle.pldm_responder.specs.Asked.{Given, answer_in, gives, over, response_in}
use Rattle.pldm_responder.specs.Calls.{Call, Received, Restart, Ended, Assigned, outcome}
use Rattle.pldm_responder.specs.Events.{Message}
use Rattle.pldm_responder.specs.Laws.{IsLeftBy}
use Rattle.pldm_responder.specs.Looking.{ended_by}
use Rattle.pldm_responder.specs.OutsideAnswers.{outcome_of_answer}
use Rattle.pldm_responder.specs.Performing.{Rules, Task}
use Rattle.pldm_responder.specs.ResponderStates.{Entry, ResponderState, IsHeld, id_in}
use Rattle.pldm_responder.specs.Steps.{assigned_held, received_held, received_outcome, restarted_held}
use Rattle.pldm_responder.specs.declared.bounds.Bounds.{Bounds}
use Rattle.pldm_responder.specs.declared.responder_settings.ResponderSettings.{ResponderSettings}
use Rattle.pldm_responder.specs.declared.outcome.Outcome.{Outcome}
use Rattle.pldm_endpoint.specs.Receiving.{HasAnswered, HasForgotten, HasReceived, IsAsBefore, IsNewEndpoint}
use Rattle.pldm_endpoint.specs.RequestKeys.{PendingCommands, pending_at, request_key}
use Rattle.pldm_endpoint.specs.TwoSteps.{EndpointView, IsAnsweredBy, answered_held, asked_now, command_at, entry_given, handle_of, held_after, held_in, request_in}
use Rattle.pldm_endpoint.specs.declared.pending_commands.PendingCommand.{PendingCommand}
use Rattle.pldm_endpoint.specs.declared.step.CommandHandle.{CommandHandle}
use Rattle.pldm_endpoint.specs.declared.step.Step.{Step}
use Rattle.pldm_endpoint.specs.declared.step.Step.TheVariants as step

-- the platform whose state is how much it was asked
abbrev pub in_turn : PassThrough → (ℕ → Given) → Rules ℕ
in_turn handed answers = record {
  answer = λ count command. answer_in (answers count);
  after = λ count command. count + 1;
  sensed = λ count id value. Err NoSuchSensor;
  hands_on = hands_on handed;
  respond = λ count request. response_in (answers count);
  after_response = λ count request. count + 1;
}

-- ---- what calls leave

-- a kept answer once the device has given all: that of a pending request is what it gives for its number
abbrev pub entry_once_given : PassThrough → (ℕ → Given) → Option PendingCommand → Entry → Entry
entry_once_given handed answers None entry = entry
entry_once_given handed answers (Some a) entry = entry_given handed a (answers a.number)

-- what an endpoint holds over that platform once the device has given all that is pending
abbrev pub held_once_given : (ℕ → Given) → EndpointView → ResponderState ℕ
held_once_given answers e = record (over e.count (held_in e)) {
  kept = λ source.
      list_map
      (λ entry. entry_once_given e.handed_on answers (map.get e.pending (request_key source (id_in entry))) entry)
      ((held_in e).kept source);
}

-- each is pending under the instance ID of its request
abbrev pub AreUnderTheirIds : PendingCommands → Type 0
AreUnderTheirIds pending =
    (source id : ℕ) → IfSome (map.get pending (request_key source id)) (λ a. id_at a.request ≡ id)

-- an endpoint is as these calls leave it: once the device has given all that is pending, it holds what they leave of a
-- responder over that platform
pub record IsLeftInTurn (answers : ℕ → Given) (e : EndpointView) (calls : List (Call ℕ)) : Type 0 where
  pub ids : AreUnderTheirIds e.pending
  pub left :
      IsLeftBy (in_turn e.handed_on answers) e.end.own e.end.busy e.end.rows.window e.end.keep 0
      (held_once_given answers e) calls

-- ---- each call

-- a new endpoint
abbrev pub NewInTurn : Type 0
NewInTurn =
    (answers : ℕ → Given) (own : Option ℕ) (keeping : ResponderSettings) (handed : PassThrough) (limits : Bounds) (most : ℕ)
    (new : EndpointView)
    → IsNewEndpoint own keeping handed limits most new → IsLeftInTurn answers new []

-- where an open message ended so that another had room: to its sender it is a lost packet
abbrev pub with_ended : Option Key → List (Call ℕ) → List (Call ℕ)
with_ended None calls = calls
with_ended (Some key) calls = Ended key ∷ calls

-- bytes that were received leave what the longer list leaves, whether they ask something or not
abbrev pub ReceivedInTurn : Type 0
ReceivedInTurn =
    (answers : ℕ → Given) (old new : EndpointView) (calls : List (Call ℕ)) (moment : ℕ) (bytes : List ℕ) (taken : Step)
    → IsLeftInTurn answers old calls → HasReceived old moment bytes new taken
    → IsLeftInTurn answers new (with_ended (ended_by old.end bytes) (Received moment bytes ∷ calls))

-- this comes of a step, now or once the device has given what it asks
abbrev pub ComesOf : (ℕ → Given) → EndpointView → Step → Outcome → Type 0
ComesOf answers e (step.Done done) expected = done ≡ expected
ComesOf answers e (step.Perform handle) expected =
    IsAnsweredBy e.handed_on e.end.own handle (answers handle.number) (pending_at e.pending handle) expected
ComesOf answers e (step.Respond handle) expected =
    IsAnsweredBy e.handed_on e.end.own handle (answers handle.number) (pending_at e.pending handle) expected

-- what comes of bytes that were received is what looking back over all calls says
abbrev pub StepLooksBack : Type 0
StepLooksBack =
    (answers : ℕ → Given) (old new : EndpointView) (calls : List (Call ℕ)) (moment : ℕ) (bytes : List ℕ) (taken : Step)
    → IsLeftInTurn answers old calls → HasReceived old moment bytes new taken
    → ComesOf answers new taken
    (outcome (in_turn old.handed_on answers) old.end.own old.end.busy old.end.rows.window old.end.keep 0 calls moment
    bytes)

-- what the device gives leaves what the calls before leave: it changes no more than that it is there
abbrev pub AnsweredInTurn : Type 0
AnsweredInTurn =
    (answers : ℕ → Given) (old new : EndpointView) (calls : List (Call ℕ)) (handle : CommandHandle) (sent : Outcome)
    → IsLeftInTurn answers old calls → HasAnswered old handle (answers handle.number) new sent
    → IsLeftInTurn answers new calls

-- a restart: what is pending counts as performed, with answers that nobody got
abbrev pub RestartedInTurn : Type 0
RestartedInTurn =
    (answers : ℕ → Given) (old new : EndpointView) (calls : List (Call ℕ)) (moment : ℕ)
    → IsLeftInTurn answers old calls
    → IsHeld (held_in new) (restarted_held (held_in old) moment) → HasForgotten new old
    → IsLeftInTurn answers new (Restart moment ∷ calls)

-- another endpoint ID is assigned: what is pending counts as performed, as at a restart
abbrev pub AssignedInTurn : Type 0
AssignedInTurn =
    (answers : ℕ → Given) (old new : EndpointView) (calls : List (Call ℕ)) (moment eid : ℕ)
    → IsLeftInTurn answers old calls
    → IsHeld (held_in new) (assigned_held (held_in old) moment eid) → HasForgotten new old
    → IsLeftInTurn answers new (Assigned moment old.end.own ∷ calls)

-- a call that was refused is no call
abbrev pub RefusedInTurn : Type 0
RefusedInTurn =
    (answers : ℕ → Given) (old new : EndpointView) (calls : List (Call ℕ))
    → IsLeftInTurn answers old calls → IsAsBefore new old → IsLeftInTurn answers new calls

-- ---- both steps at once

-- the two steps, one right after the other, are what a responder does whose platform gives this
abbrev pub TwoStepsAreOne : Type 0
TwoStepsAreOne =
    (handed : PassThrough) (held : ResponderState (Unit {0})) (moment : ℕ) (bytes : List ℕ) (count : ℕ) (m : Message) (task : Task)
    (given : Given)
    → request_in held moment bytes ≡ Some m → asked_now handed held moment bytes ≡ task ∷ []
    → (outcome_of_answer (hands_on handed) held.own m.source m.tag m.bytes given
    ≡ received_outcome (gives (hands_on handed) given) held moment bytes)
    × IsHeld
    (answered_held handed (held_after handed held moment bytes) (handle_of m count) given (Some (command_at m count task)))
    (received_held (gives (hands_on handed) given) held moment bytes)
