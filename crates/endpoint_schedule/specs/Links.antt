-- Both ends of a link whose device answers in its own time: any requesters of this work, and one endpoint. A requester
-- may begin anew at its endpoint. What a call of the endpoint returns and leaves is what its contract says. What no
-- step delivers is lost, and what is delivered again is a repeat. Steps have the newest first.
use Rattle.std.specs.Prelude.{◌≡◌, ◌≢◌, ℕ, ◌+◌, ◌%◌, ◌<◌, ◌≤◌, ◌==◌, Bool, not, List, [], ◌∷◌, ◌++◌, length, Option, Some, None, option_and_then, slice_get, if◌then◌else◌}
use Rattle.mctp_packet.specs.Ids.{IsEid}
use Rattle.mctp_packet.specs.declared.TheConstants.{BASELINE_UNIT, TAGS}
use Rattle.pldm_endpoint.specs.Histories.{in_turn}
use Rattle.pldm_endpoint.specs.Receiving.{HasAnswered, HasForgotten, HasReceived, IsAsBefore, IsNewEndpoint}
use Rattle.pldm_endpoint.specs.TwoSteps.{EndpointView, held_in, request_in}
use Rattle.pldm_endpoint.specs.declared.step.CommandHandle.{CommandHandle}
use Rattle.pldm_endpoint.specs.declared.step.Step.{Step}
use Rattle.pldm_endpoint.specs.declared.step.Step.TheVariants as taken
use Rattle.pldm_requester.specs.declared.pace.Pace.{Pace}
use Rattle.pldm_responder.specs.Asked.{Given}
use Rattle.pldm_responder.specs.ResponderStates.{IsHeld}
use Rattle.pldm_responder.specs.Steps.{assigned_held, restarted_held}
use Rattle.pldm_responder.specs.declared.bounds.Bounds.{Bounds}
use Rattle.pldm_responder.specs.declared.outcome.Outcome.{Outcome}
use Rattle.pldm_responder.specs.declared.responder_settings.ResponderSettings.{ResponderSettings}
use Rattle.pldm_requester.specs.Asks.{Ask}
use Rattle.pldm_wire.specs.Kinds.{IsKind}
use Rattle.pldm_wire.specs.declared.assigned.TheConstants.{REQUEST_HEADER}
use Rattle.pldm_wire.specs.declared.pass_through.PassThrough.{PassThrough}
use Rattle.pldm_wire.specs.declared.restart_policy.RestartPolicy.TheVariants.{All}
use Rattle.mctp_schedule.specs.Askers.{packet_bytes}
use Rattle.mctp_schedule.specs.Deliveries.{packets_of_outcome}
use Rattle.mctp_schedule.specs.FirstArrivals.{arrives_at}
use Rattle.mctp_schedule.specs.Logs.{Asked, asked_at, endpoint_of}
use Rattle.mctp_schedule.specs.Timely.{ComesInTime}
use Rattle.mctp_schedule.specs.Worlds.{BothEnds, TagIsOwn, World, done, handed, source_of}
use Rattle.mctp_schedule.specs.Actions as actions
use Rattle.schedule_text.specs.declared.step.RequesterLine.{RequesterLine}

-- the endpoint ID that the requesters ask, which the device's end has at first; the keeping time of both ends, the
-- window of the device's end, and which requests it hands on as bytes; the requesters with their pace
pub record LinkSettings : Type 0 where
  pub eid : ℕ
  pub keep : ℕ
  pub window : ℕ
  pub handed_on : PassThrough
  pub requesters : List RequesterLine
  pub pace : Pace

-- both ends with a device that gives this for what it is asked, by number
abbrev pub over_time : LinkSettings → (ℕ → Given) → BothEnds ℕ
over_time settings answers = record {
  device = in_turn settings.handed_on answers;
  start = 0;
  eid = settings.eid;
  keep = settings.keep;
  window = settings.window;
  requesters = settings.requesters;
  pace = settings.pace;
}

-- what is asked is of a PLDM type that there is, and one packet carries it
pub record IsShort (ask : Ask) : Type 0 where
  pub kind : IsKind ask.kind
  pub few : length ask.rest + REQUEST_HEADER ≤ BASELINE_UNIT

-- each at its moment
pub data LinkStep : Type 0 where
  -- a requester is called: to open a request, and at a tick. One that begins anew at its endpoint is another one, and
  -- has 256 more as its number
  Opens : (moment requester : ℕ) → (ask : Ask) → LinkStep
  Ticks : (moment requester : ℕ) → LinkStep
  -- the packet of request k comes to the endpoint, which is `new` then; this is what became of it
  Receives : (moment k : ℕ) → (new : EndpointView) → (step : Step) → LinkStep
  -- any other packet comes, of which no request is whole; this is what became of it
  Passes : (moment : ℕ) → (bytes : List ℕ) → (new : EndpointView) → (step : Step) → LinkStep
  -- a packet comes, and is refused by a bound, since its request is pending, or for want of memory
  Refuses : (moment : ℕ) → (new : EndpointView) → LinkStep
  -- the device gives its answer for what is pending under a handle, and this goes out
  Answers : (moment : ℕ) → (handle : CommandHandle) → (new : EndpointView) → (outcome : Outcome) → LinkStep
  -- packet j of the latest answer that went out to request k comes to its requester, or of the latest 'not ready'
  Delivers : (moment j k : ℕ) → LinkStep
  DeliversNotReady : (moment k : ℕ) → LinkStep
  -- the endpoint restarts, or gets this endpoint ID
  Restarts : (moment : ℕ) → (new : EndpointView) → LinkStep
  Assigns : (moment eid : ℕ) → (new : EndpointView) → LinkStep

-- what there is after some steps: the endpoint; the requesters' calls and what happened on the link, of which a
-- refused packet is no part; the requests that were handed out to the device, the oldest first; the packets of the
-- latest answer that went out to each request, and of the latest 'not ready'
pub record Link : Type 0 where
  pub end : EndpointView
  pub world : World
  pub handed_out : List ℕ
  pub sent : ℕ → Option (List (List ℕ))
  pub not_ready : ℕ → Option (List (List ℕ))

-- another value at a number
abbrev pub put : {A : Type 0} → (ℕ → A) → ℕ → A → ℕ → A
put each number value n = if number == n then value else each n

-- what is handed out has the next number
abbrev pub handed_out_by : List ℕ → ℕ → Step → List ℕ
handed_out_by before k (taken.Done outcome) = before
handed_out_by before k (taken.Perform handle) = before ++ k ∷ []
handed_out_by before k (taken.Respond handle) = before ++ k ∷ []

-- these packets go out to request k, if any do
abbrev pub with_packets : (ℕ → Option (List (List ℕ))) → ℕ → Option (List (List ℕ)) → ℕ → Option (List (List ℕ))
with_packets before k None = before
with_packets before k (Some packets) = put before k (Some packets)

-- what goes out at once, where it counts here
abbrev pub sent_by : Bool → (ℕ → Option (List (List ℕ))) → ℕ → Step → ℕ → Option (List (List ℕ))
sent_by counts before k (taken.Done outcome) =
    if counts then with_packets before k (packets_of_outcome outcome) else before
sent_by counts before k (taken.Perform handle) = before
sent_by counts before k (taken.Respond handle) = before

-- what goes out for the request that was handed out as the one of this number
abbrev pub sent_to : Option ℕ → Outcome → (ℕ → Option (List (List ℕ))) → ℕ → Option (List (List ℕ))
sent_to None outcome before = before
sent_to (Some k) outcome before = with_packets before k (packets_of_outcome outcome)

abbrev pub packet_in : Option (List (List ℕ)) → ℕ → Option (List ℕ)
packet_in packets j = option_and_then (λ ps. slice_get ps j) packets

module _ (settings : LinkSettings) (answers : ℕ → Given) where
  abbrev setting : BothEnds ℕ
  setting = over_time settings answers

  -- while the endpoint is busy after a restart what goes out is 'not ready'
  abbrev pub received : Link → ℕ → ℕ → EndpointView → Step → Link
  received l moment k new step =
      let serves = arrives_at ℕ settings.keep l.world.log moment k in
      record {
        end = new;
        world = done setting l.world moment (actions.Request k);
        handed_out = handed_out_by l.handed_out k step;
        sent = sent_by serves l.sent k step;
        not_ready = sent_by (not serves) l.not_ready k step;
      }

  abbrev pub delivered : Link → ℕ → ℕ → Option (List ℕ) → Link
  delivered l moment k packet =
      record l { world = handed setting l.world moment (source_of (asked_at l.world.log k)) packet }

  abbrev pub after : Link → LinkStep → Link
  after l (Opens moment e ask) = record l { world = done setting l.world moment (actions.Open e ask) }
  after l (Ticks moment e) = record l { world = done setting l.world moment (actions.Tick e) }
  after l (Receives moment k new step) = received l moment k new step
  after l (Passes moment bytes new step) = record l { end = new }
  after l (Refuses moment new) = record l { end = new }
  after l (Answers moment handle new outcome) = record l {
    end = new;
    sent = sent_to (slice_get l.handed_out handle.number) outcome l.sent;
  }
  after l (Delivers moment j k) = delivered l moment k (packet_in (l.sent k) j)
  after l (DeliversNotReady moment k) = delivered l moment k (packet_in (l.not_ready k) 0)
  after l (Restarts moment new) = record l { end = new; world = done setting l.world moment actions.Restart }
  after l (Assigns moment eid new) = record l { end = new; world = done setting l.world moment actions.Restart }

  -- a request is one of one packet; the endpoint did this by the contract of its call, and `answers` says what the
  -- device gives for each number. While the endpoint has another endpoint ID than the requesters ask, no request of
  -- theirs is whole there: its packet passes.
  abbrev pub IsStep : Link → LinkStep → Type 0
  IsStep l (Opens moment e ask) = IsShort ask
  IsStep l (Receives moment k new step) =
      (r : Asked) × (asked_at l.world.log k ≡ Some r) × (l.end.end.own ≡ settings.eid)
      × HasReceived l.end moment (packet_bytes (endpoint_of r.source) settings.eid r.own r.message) new step
  IsStep l (Passes moment bytes new step) =
      HasReceived l.end moment bytes new step × (request_in (held_in l.end) moment bytes ≡ None)
  IsStep l (Refuses moment new) = IsAsBefore new l.end
  IsStep l (Answers moment handle new outcome) = HasAnswered l.end handle (answers handle.number) new outcome
  IsStep l (Restarts moment new) =
      IsHeld (held_in new) (restarted_held (held_in l.end) moment) × HasForgotten new l.end
  IsStep l (Assigns moment eid new) =
      IsEid eid × IsHeld (held_in new) (assigned_held (held_in l.end) moment eid) × HasForgotten new l.end
  IsStep l _ = Unit {0}

  -- request k's tag was not used again, by its requester or by one that began anew at the endpoint
  pub record TagIsFree (l : Link) (k : ℕ) : Type 0 where
    pub own : TagIsOwn setting l.world k
    pub anew :
        (r q : Asked) (i : ℕ) → asked_at l.world.log k ≡ Some r → asked_at l.world.log i ≡ Some q
        → endpoint_of q.source ≡ endpoint_of r.source → r.source < q.source → q.own % TAGS ≢ r.own % TAGS

  -- a request's packet comes less than the lifetime after its opening and within the window, and a packet of an answer
  -- while its tag was not used again
  abbrev pub IsTimelyStep : Link → LinkStep → Type 0
  IsTimelyStep l (Receives moment k new step) =
      (r : Asked) → asked_at l.world.log k ≡ Some r
      → ComesInTime ℕ settings.window settings.keep settings.pace.lifetime l.world.log moment k r
  IsTimelyStep l (Delivers moment j k) =
      (bytes : List ℕ) → packet_in (l.sent k) j ≡ Some bytes → TagIsFree l k
  IsTimelyStep l (DeliversNotReady moment k) =
      (bytes : List ℕ) → packet_in (l.not_ready k) 0 ≡ Some bytes → TagIsFree l k
  IsTimelyStep l _ = Unit {0}

  module _ (first : EndpointView) where
    -- what there is after these steps, where the endpoint was this one at first
    abbrev pub link : List LinkStep → Link
    link [] = record {
      end = first;
      world = record { calls = λ e. []; log = [] };
      handed_out = [];
      sent = λ k. None;
      not_ready = λ k. None;
    }
    link (step ∷ past) = after (link past) step

    abbrev pub IsRun : List LinkStep → Type 0
    IsRun [] = Unit {0}
    IsRun (step ∷ past) = IsStep (link past) step × IsRun past

    abbrev pub AreInTime : List LinkStep → Type 0
    AreInTime [] = Unit {0}
    AreInTime (step ∷ past) = IsTimelyStep (link past) step × AreInTime past

abbrev pub moment_of : LinkStep → ℕ
moment_of (Opens moment e ask) = moment
moment_of (Ticks moment e) = moment
moment_of (Receives moment k new step) = moment
moment_of (Passes moment bytes new step) = moment
moment_of (Refuses moment new) = moment
moment_of (Answers moment handle new outcome) = moment
moment_of (Delivers moment j k) = moment
moment_of (DeliversNotReady moment k) = moment
moment_of (Restarts moment new) = moment
moment_of (Assigns moment eid new) = moment

-- the moment of the newest step, 0 where there is none
abbrev pub now : List LinkStep → ℕ
now [] = 0
now (step ∷ past) = moment_of step

abbrev pub NeverGoesBack : List LinkStep → Type 0
NeverGoesBack [] = Unit {0}
NeverGoesBack (step ∷ past) = (now past ≤ moment_of step) × NeverGoesBack past

-- the endpoint at first: a new one with these settings, which refuses all requests in the busy time
pub record IsFirst
    (settings : LinkSettings) (keeping : ResponderSettings) (limits : Bounds) (most : ℕ) (first : EndpointView)
    : Type 0 where
  pub new : IsNewEndpoint (Some settings.eid) keeping settings.handed_on limits most first
  pub busy : keeping.busy ≡ All
  pub window : keeping.window ≡ settings.window
  pub keep : keeping.keep ≡ settings.keep
