-- The premises of the law are met by one run, whose first event has the last ID, and what it gives is computed: a post
-- finds the queue full, and is counted; an
-- acknowledgement is given up and comes late, after the poll that follows it; its event is not taken again, and the
-- second acknowledgement of it drops no other; the device restarts; an answer is lost; old acknowledgements are
-- performed again. The newest step stands first.
use Rattle.std.proofs.Common.{◌≡◌, ℕ, ◌+◌, Bool, true, List, [], ◌∷◌, refl, arith}
use Rattle.std.specs.Prelude.{◌&&◌, nat_le}
use Rattle.std.proofs.lemmas.Bool.{and_parts, leb-true}
use Rattle.event_queue.specs.Laws.{AreTakenOnce}
use Rattle.event_queue.specs.Queues.{IsNext, PlatformEvent}
use Rattle.event_queue.specs.Runs.{EventStep, EventWorld, Posts, Asks, AsksOther, Performs, Takes, GivesUp, Restarts, IsTimelyRun, IsTimelyStep, event_world}
use Rattle.event_queue.proofs.TakenOnce.{events_once}

-- the test of a timely run
abbrev is_timely_step : EventWorld → EventStep → Bool
is_timely_step w (Performs number) = nat_le w.count (number + 32)
is_timely_step w _ = true

abbrev is_timely_run : ℕ → ℕ → List EventStep → Bool
is_timely_run most first [] = true
is_timely_run most first (step ∷ past) = is_timely_step (event_world most first past) step && is_timely_run most first past

step_tested : (most first : ℕ) (w : EventWorld) (step : EventStep) → is_timely_step w step ≡ true → IsTimelyStep most first w step
step_tested most first w (Performs number) e = leb-true w.count (number + 32) e
step_tested most first w (Posts class contents) e = tt
step_tested most first w Asks e = tt
step_tested most first w AsksOther e = tt
step_tested most first w Takes e = tt
step_tested most first w GivesUp e = tt
step_tested most first w Restarts e = tt

run_tested : (most first : ℕ) (steps : List EventStep) → is_timely_run most first steps ≡ true → IsTimelyRun most first steps
run_tested most first [] e = tt
run_tested most first (step ∷ past) e =
    let parts = and_parts (is_timely_step (event_world most first past) step) (is_timely_run most first past) e in
    (step_tested most first (event_world most first past) step parts.0, run_tested most first past parts.1)

-- three events, of which the queue has room for two
abbrev posts : List EventStep
posts = Posts 0 (3 ∷ []) ∷ Posts 0 (2 ∷ []) ∷ Posts 0 (1 ∷ []) ∷ []

-- the first is polled and taken; its acknowledgement, request 1, is given up
abbrev given_up : List EventStep
given_up = GivesUp ∷ Asks ∷ Takes ∷ Performs 0 ∷ Asks ∷ posts

-- request 2 polls it again, then request 1 comes late; request 3 acknowledges it once more
abbrev late : List EventStep
late = Takes ∷ Performs 3 ∷ Asks ∷ Takes ∷ Performs 1 ∷ Performs 2 ∷ Asks ∷ given_up

-- the device restarts; request 4 polls the second event, and request 6 acknowledges it, whose answer is lost; request 1
-- is performed once more
abbrev restarted : List EventStep
restarted =
    GivesUp ∷ Performs 1 ∷ Performs 6 ∷ Asks ∷ Takes ∷ Performs 4 ∷ AsksOther ∷ Asks ∷ Posts 2 (4 ∷ []) ∷ Restarts ∷ late

-- request 6 is performed once more, too, and request 7 polls the third event
abbrev steps : List EventStep
steps = Takes ∷ Performs 7 ∷ Performs 6 ∷ Asks ∷ restarted

abbrev event : ℕ → ℕ → ℕ → PlatformEvent
event id class byte = record { id = id; class = class; contents = byte ∷ [] }

all_taken : (event_world 2 65534 steps).taken ≡ event 65534 0 1 ∷ event 1 0 2 ∷ event 2 2 4 ∷ []
all_taken = refl

dropped : (event_world 2 65534 steps).acknowledged ≡ event 65534 0 1 ∷ event 1 0 2 ∷ []
dropped = refl

left_in_queue : (event_world 2 65534 steps).queue.events ≡ event 2 2 4 ∷ []
left_in_queue = refl

one_refused : (event_world 2 65534 steps).queue.refused ≡ 1
one_refused = refl

is_next : IsNext 65534
is_next = record { some = omega arith; few = omega arith }

is_timely : IsTimelyRun 2 65534 steps
is_timely = run_tested 2 65534 steps refl

taken_once : AreTakenOnce (event_world 2 65534 steps)
taken_once = events_once 2 65534 steps is_next is_timely
