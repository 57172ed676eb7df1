-- Each event is taken once, and in order.
use Rattle.std.specs.Prelude.{◌≡◌, ◌⊎◌, ℕ, ◌+◌, ◌*◌, ◌<◌, ◌≤◌, List, [], ◌∷◌, ◌++◌}
use Rattle.pldm_requester.specs.Calls.{Call, last_moment, requests}
use Rattle.pldm_requester.specs.Laws.{IsInOrder}
use Rattle.pldm_requester.specs.declared.pace.Pace.{Pace}
use Rattle.pldm_requester.specs.declared.timing.Timing.{Timing}
use Rattle.pldm_wire.specs.declared.assigned.TheConstants.{INSTANCE_IDS}
use Rattle.event_queue.specs.Queues.{IsNext, PlatformEvent}
use Rattle.event_queue.specs.Runs.{EventStep, EventWorld, IsTimelyRun, event_world}

-- what was taken is what was acknowledged, or that and the head of the queue
abbrev pub AreTakenUpTo : List PlatformEvent → List PlatformEvent → List PlatformEvent → Type 0
AreTakenUpTo taken acknowledged [] = taken ≡ acknowledged
AreTakenUpTo taken acknowledged (event ∷ rest) = (taken ≡ acknowledged) ⊎ (taken ≡ acknowledged ++ event ∷ [])

pub record AreTakenOnce (w : EventWorld) : Type 0 where
  pub posted : w.posted ≡ w.acknowledged ++ w.queue.events
  pub taken : AreTakenUpTo w.taken w.acknowledged w.queue.events

-- from whichever first ID
abbrev pub EventsOnce : Type 0
EventsOnce =
    (most first : ℕ) (steps : List EventStep)
    → IsNext first → IsTimelyRun most first steps → AreTakenOnce (event_world most first steps)

-- a request that comes less than twice the lifetime after it was opened does so while at most 31 were opened after it
abbrev pub ComesBeforeItsIdIsUsed : Type 0
ComesBeforeItsIdIsUsed =
    (own device : ℕ) (timing : Timing) (pace : Pace) (calls : List Call) (number moment : ℕ)
    → IsInOrder own device timing pace calls → last_moment own device timing pace calls ≤ moment
    → number < (requests own device timing pace calls).count
    → moment < ((requests own device timing pace calls).each number).course.opening + 2 * pace.lifetime
    → (requests own device timing pace calls).count ≤ number + INSTANCE_IDS
