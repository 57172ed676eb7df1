-- An event receiver over a schedule: what it asks by the requests of the requester at its endpoint, and what it takes
-- of their answers.
use Rattle.std.specs.Prelude.{◌≡◌, ℕ, ◌&&◌, ◌==◌, true, List, [], ◌∷◌, Option, Some, None, if◌then◌else◌}
use Rattle.event_queue.specs.Queues.{PlatformEvent}
use Rattle.event_queue.specs.Receivers.{ReceiverView, after_answer, after_giving_up, first_receiver, is_new}
use Rattle.event_queue.specs.Runs.{id_in, taken_after}
use Rattle.event_queue.specs.declared.receiver.EventRequest.{EventRequest}
use Rattle.endpoint_schedule.specs.EventDevices.{EventDevice}
use Rattle.mctp_schedule.specs.Worlds.{BothEnds, World, asked_by, requests_of, timing_of, world}
use Rattle.pldm_requester.specs.Asks.{Ask}
use Rattle.pldm_requester.specs.Calls.{accepts}
use Rattle.pldm_requester.specs.Courses.{Progress, Waiting, Answered, GaveUp}
use Rattle.mctp_schedule.specs.Actions.{Action}
use Rattle.mctp_schedule.specs.Actions.{Open}
use Rattle.mctp_schedule.specs.Actions.{Step}

-- the receiver, its requester's number of its open request, and the events that it took, the oldest first
pub record Following : Type 0 where
  pub receiver : ReceiverView
  pub open_one : Option ℕ
  pub taken : List PlatformEvent

abbrev pub first_following : Following
first_following = record { receiver = first_receiver; open_one = None; taken = [] }

-- a request of this number that asks for an event is the open one
abbrev pub with_open : Following → ℕ → Option EventRequest → Following
with_open f number None = f
with_open f number (Some request) = record f { open_one = Some number }

abbrev pub with_event : Following → Option PlatformEvent → Following
with_event f event = record {
  receiver = after_answer f.receiver (id_in event);
  open_one = None;
  taken = taken_after f.taken (is_new f.receiver (id_in event)) event;
}

module _ {S : Type 0} (setting : BothEnds S) (events : EventDevice S) (e : ℕ) where
  -- it takes what its open request was answered, and gives up what its requester gives up
  abbrev pub gone_on : Following → Progress → Following
  gone_on f Waiting = f
  gone_on f (Answered message) = with_event f (events.brings message)
  gone_on f GaveUp = record f { receiver = after_giving_up f.receiver; open_one = None }

  abbrev pub settled : World → Following → Option ℕ → Following
  settled w f None = f
  settled w f (Some number) = gone_on f ((requests_of setting w e).each number).course.progress

  -- what an accepted open asks of the device's queue
  abbrev pub opens : World → ℕ → ℕ → Ask → Option EventRequest
  opens w moment at ask = events.asks (asked_by setting w moment at ask).message

  abbrev pub with_action : World → Following → ℕ → Action → Following
  with_action w f moment (Open at ask) =
      if at == e && accepts (timing_of setting at).keep setting.pace (requests_of setting w at) moment
      then with_open f (requests_of setting w at).count (opens w moment at ask)
      else f
  with_action w f moment _ = f

  abbrev pub following : List Step → Following
  following [] = first_following
  following (step ∷ past) =
      let f = with_action (world setting past) (following past) step.moment step.action in
      settled (world setting (step ∷ past)) f f.open_one

  -- only this requester asks for events: what the receiver asks next, where it has no request open
  abbrev pub AsksAsReceiver : World → Following → ℕ → Action → Type 0
  AsksAsReceiver w f moment (Open at ask) =
      (request : EventRequest)
      → accepts (timing_of setting at).keep setting.pace (requests_of setting w at) moment ≡ true
      → opens w moment at ask ≡ Some request
      → (at ≡ e) × (f.open_one ≡ None) × (request ≡ f.receiver.request)
  AsksAsReceiver w f moment _ = Unit {0}

  abbrev pub AsksInTurn : List Step → Type 0
  AsksInTurn [] = Unit {0}
  AsksInTurn (step ∷ past) =
      AsksAsReceiver (world setting past) (following past) step.moment step.action × AsksInTurn past
