-- What an endpoint makes of the bytes of a packet, and of an answer of its device.
use Rattle.std.specs.FinMap as map
use Rattle.std.specs.Prelude.{◌≡◌, ℕ, ◌+◌, ◌⊎◌, true, false, List, ◌∷◌, [], length, Option, Some, None, Ok, Err}
use Rattle.pldm_wire.specs.CommandReading.{command_of}
use Rattle.pldm_wire.specs.HandingOn.{hands_on}
use Rattle.pldm_wire.specs.Requests.{Request, request_of}
use Rattle.pldm_wire.specs.declared.pass_through.PassThrough.{PassThrough}
use Rattle.pldm_responder.specs.Arrivals.{Whole}
use Rattle.pldm_responder.specs.Ends.{AreSameRows, eid_or_null, has_row}
use Rattle.pldm_responder.specs.Slots.{source_count}
use Rattle.pldm_responder.specs.ResponderStates.{IsHeld, held_at_first}
use Rattle.pldm_responder.specs.Looking.{IsRequestTo, end_after, end_finished, ended_by, message_at}
use Rattle.pldm_responder.specs.Needs.{NeedsMemory}
use Rattle.pldm_responder.specs.OpenOrder.{ended_held}
use Rattle.pldm_responder.specs.Requested.{Requested}
use Rattle.pldm_responder.specs.Rooms.{AreRowsAfter}
use Rattle.pldm_responder.specs.Steps.{message_outcome, performs, received_arrival}
use Rattle.pldm_responder.specs.Asked.{Given, gives}
use Rattle.pldm_responder.specs.Performing.{Task, tasks_of}
use Rattle.pldm_responder.specs.declared.bounds.Bounds.{Bounds}
use Rattle.pldm_responder.specs.declared.responder_settings.ResponderSettings.{ResponderSettings}
use Rattle.pldm_responder.specs.declared.outcome.Outcome.{Outcome}
use Rattle.pldm_endpoint.specs.Giving.{busy_with}
use Rattle.pldm_endpoint.specs.Refusing.{IsOfMemory, refused_by, refused_while}
use Rattle.pldm_endpoint.specs.RequestKeys.{pending_at, request_key, request_key_of}
use Rattle.pldm_endpoint.specs.Stepping.{StepHasReply, stepping}
use Rattle.pldm_endpoint.specs.TwoSteps.{EndpointView, IsAnsweredBy, IsAskedBy, IsItsAnswer, answered_held, arrival_tasks, asked_now, count_after, held_after, held_in, pending_after, pending_by, received_step, step_by, stepped, unasked}
use Rattle.pldm_endpoint.specs.declared.step.CommandHandle.{CommandHandle}
use Rattle.pldm_endpoint.specs.declared.step.MessageStep.{MessageStep}
use Rattle.pldm_endpoint.specs.declared.step.ReceiveRefusal.{ReceiveRefusal}
use Rattle.pldm_endpoint.specs.declared.step.Step.{Step}

-- what no call changes
pub record HasSameSettings (new old : EndpointView) : Type 0 where
  pub handed_on : new.handed_on ≡ old.handed_on
  pub bounds : new.end.bounds ≡ old.end.bounds
  pub ends_oldest : new.end.ends_oldest ≡ old.end.ends_oldest
  pub max_pending : new.max_pending ≡ old.max_pending

-- nothing is pending, no message has begun, and no source has room for answers; the commands of before are counted
-- still
pub record HasForgotten (new old : EndpointView) : Type 0 where
  pub idle : new.pending ≡ map.empty
  pub begun : new.end.begun ≡ []
  pub no_rows : source_count new.end.rows ≡ 0
  pub count : new.count ≡ old.count
  pub settings : HasSameSettings new old

-- an endpoint as it is made: it holds what a new responder holds, and nothing is pending
pub record IsNewEndpoint (own : Option ℕ) (keeping : ResponderSettings) (handed : PassThrough) (limits : Bounds) (most : ℕ)
    (new : EndpointView) : Type 0 where
  pub held :
      IsHeld (held_in new)
      (held_at_first (eid_or_null own) (busy_with handed keeping.busy) keeping.window keeping.keep tt)
  pub handed_on : new.handed_on ≡ handed
  pub bounds : new.end.bounds ≡ limits
  pub ends_oldest : new.end.ends_oldest ≡ true
  pub max_pending : new.max_pending ≡ most
  pub idle : new.pending ≡ map.empty
  pub count : new.count ≡ 0
  pub begun : new.end.begun ≡ []
  pub no_rows : source_count new.end.rows ≡ 0

-- the bytes of a packet were received at a moment
pub record HasReceived (old : EndpointView) (moment : ℕ) (bytes : List ℕ) (new : EndpointView) (step : Step) : Type 0 where
  -- nothing spoke against it
  pub accepted : refused_by old moment bytes ≡ None
  -- what becomes of them: they ask something of the device, or they are done with
  pub step_is : step ≡ received_step old.handed_on (held_in old) moment bytes old.count
  pub command : IsAskedBy step new.pending (asked_now old.handed_on (held_in old) moment bytes)
  -- what is held and pending then; where it begins a message for which there was no room, the oldest has ended
  pub held : IsHeld (held_in new) (ended_held (ended_by old.end bytes) (held_after old.handed_on (held_in old) moment bytes))
  -- the order in which the open messages began: one that begins now is the last of it
  pub begun : new.end.begun ≡ (end_after old.end moment bytes).begun
  pub pending : new.pending ≡ pending_after old.handed_on (held_in old) moment bytes old.pending old.count
  pub count : new.count ≡ count_after old.handed_on (held_in old) moment bytes old.count
  -- the sources with room for answers
  pub room : AreRowsAfter (held_in old) old.end.rows (received_arrival (held_in old) moment bytes) new.end.rows
  pub settings : HasSameSettings new old

-- bytes ask something of the device
abbrev pub IsCommanded : EndpointView → ℕ → List ℕ → Type 0
IsCommanded e moment bytes = (task : Task) × (asked_now e.handed_on (held_in e) moment bytes ≡ task ∷ [])

-- nothing has changed
pub record IsAsBefore (new old : EndpointView) : Type 0 where
  pub held : IsHeld (held_in new) (held_in old)
  pub begun : new.end.begun ≡ old.end.begun
  pub pending : new.pending ≡ old.pending
  pub count : new.count ≡ old.count
  pub room : AreSameRows new.end.rows old.end.rows
  pub settings : HasSameSettings new old

-- the bytes were refused, and nothing has changed
pub record IsRefused (old : EndpointView) (moment : ℕ) (bytes : List ℕ) (new : EndpointView) (refusal : ReceiveRefusal)
    : Type 0 where
  -- for the reason that there is, or for want of memory where there is none
  pub reason : IsOfMemory refusal ⊎ (refused_by old moment bytes ≡ Some refusal)
  pub memory :
      IsOfMemory refusal
      → (refused_by old moment bytes ≡ None)
      × (NeedsMemory (held_in old) true moment bytes ⊎ IsCommanded old moment bytes)
  pub same : IsAsBefore new old

-- ---- a request that a packet completes

-- it came from another endpoint to this one, it is fresh, and nothing is pending for its source and instance ID
pub record IsToBeServed (e : EndpointView) (moment : ℕ) (r : Requested) : Type 0 where
  pub sent : IsRequestTo e.end r
  pub fresh : performs (held_in e) (message_at moment r) ≡ true
  pub free : map.get e.pending (request_key_of (message_at moment r)) ≡ None

-- it is not handed on as bytes, and its command is refused with this code
abbrev pub IsRefusedBy : PassThrough → ℕ → List ℕ → Type 0
IsRefusedBy handed code bytes =
    (request : Request) × (request_of bytes ≡ Ok request) × (hands_on handed request.kind ≡ false)
    × (command_of request.kind request.rest ≡ Err code)

module _ (old : EndpointView) (moment : ℕ) (r : Requested) (new : EndpointView) where
  pub record HasServed (reply : List ℕ) (step : MessageStep) : Type 0 where
    pub accepted :
        refused_while old (message_at moment r) (map.get old.pending (request_key_of (message_at moment r))) ≡ None
    pub step_is :
        stepping reply step
        ≡ step_by (message_outcome (gives (hands_on old.handed_on) unasked) (held_in old) (message_at moment r))
        old.count (Some (message_at moment r)) (arrival_tasks old.handed_on (held_in old) (Whole (message_at moment r)))
    pub some : StepHasReply reply step
    pub command :
        IsAskedBy (stepping reply step) new.pending (arrival_tasks old.handed_on (held_in old) (Whole (message_at moment r)))
    pub held :
        IsHeld (held_in new)
        (record (stepped old.handed_on (held_in old) (Whole (message_at moment r))) {
          open_messages = (end_finished old.end moment r).open_messages;
          last = moment;
        })
    pub begun : new.end.begun ≡ old.end.begun
    pub pending :
        new.pending
        ≡ pending_by old.pending old.count (Some (message_at moment r))
        (arrival_tasks old.handed_on (held_in old) (Whole (message_at moment r)))
    pub count : new.count ≡ old.count + length (arrival_tasks old.handed_on (held_in old) (Whole (message_at moment r)))
    pub room : AreRowsAfter (held_in old) old.end.rows (Whole (message_at moment r)) new.end.rows
    pub settings : HasSameSettings new old

  pub record IsNotServed (refusal : ReceiveRefusal) : Type 0 where
    pub reason :
        IsOfMemory refusal
        ⊎ (refused_while old (message_at moment r) (map.get old.pending (request_key_of (message_at moment r)))
        ≡ Some refusal)
    pub memory :
        IsOfMemory refusal
        → (refused_while old (message_at moment r) (map.get old.pending (request_key_of (message_at moment r))) ≡ None)
        × (performs (held_in old) (message_at moment r) ≡ true)
        × (((held_in old).kept r.source ≡ [])
        ⊎ ((task : Task) × (tasks_of (hands_on old.handed_on) r.bytes ≡ task ∷ [])))
    pub same : IsAsBefore new old

-- ---- the device gave this for what it was asked
pub record HasAnswered
    (old : EndpointView) (handle : CommandHandle) (given : Given) (new : EndpointView) (outcome : Outcome) : Type 0 where
  -- it is for what is pending under this handle, and goes back to the source of its request
  pub its_answer : IsItsAnswer (pending_at old.pending handle) given
  pub outcome_is : IsAnsweredBy old.handed_on old.end.own handle given (pending_at old.pending handle) outcome
  -- it is kept for that request, which is no longer pending
  pub held : IsHeld (held_in new) (answered_held old.handed_on (held_in old) handle given (pending_at old.pending handle))
  -- the open messages began in the same order
  pub begun : new.end.begun ≡ old.end.begun
  pub pending : new.pending ≡ map.remove old.pending (request_key handle.source handle.id)
  pub count : new.count ≡ old.count
  -- the sources with room for answers are the same
  pub room : (source : ℕ) → has_row new.end.rows source ≡ has_row old.end.rows source
  pub sources : source_count new.end.rows ≡ source_count old.end.rows
  pub settings : HasSameSettings new old
