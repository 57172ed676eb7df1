-- Over a timely schedule each event is taken once, and in order.
use Rattle.std.specs.Prelude.{◌≡◌, ℕ, List, ◌++◌}
use Rattle.event_queue.specs.Laws.{AreTakenUpTo}
use Rattle.event_queue.specs.Queues.{IsNext, PlatformEvent, QueueView, begun}
use Rattle.endpoint_schedule.specs.EventDevices.{EventDevice, KeepsEvents, posted_over}
use Rattle.endpoint_schedule.specs.EventReceiving.{AsksInTurn, following}
use Rattle.mctp_schedule.specs.OncePerformed.{once}
use Rattle.mctp_schedule.specs.RequesterHalf.{IsTimelySchedule}
use Rattle.mctp_schedule.specs.Worlds.{BothEnds, world}
use Rattle.mctp_schedule.specs.Actions.{Step}

-- the queue of the device, which performs each request that arrived once
abbrev pub queue_after : {S : Type 0} → BothEnds S → EventDevice S → List Step → QueueView
queue_after setting events steps =
    events.queue (once setting.device setting.keep setting.start (world setting steps).log)

-- what was posted is what was dropped, and then what is in the queue; what was taken is what was dropped, or that and
-- the queue's head
pub record AreTakenOverSchedule {S : Type 0} (setting : BothEnds S) (events : EventDevice S) (e : ℕ) (steps : List Step)
    : Type 0 where
  pub dropped : List PlatformEvent
  pub posted :
      posted_over setting.device events setting.keep setting.start (world setting steps).log
      ≡ dropped ++ (queue_after setting events steps).events
  pub taken : AreTakenUpTo (following setting events e steps).taken dropped (queue_after setting events steps).events

abbrev pub EventsOverSchedules : {S : Type 0} → BothEnds S → Type 0
EventsOverSchedules {S} setting =
    (events : EventDevice S) (e most first : ℕ) (steps : List Step)
    → KeepsEvents setting.device events → IsNext first → events.queue setting.start ≡ begun most first
    → IsTimelySchedule setting steps → AsksInTurn setting events e steps
    → AreTakenOverSchedule setting events e steps
