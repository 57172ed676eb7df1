-- When a tick next has something to do, so how long an end may sleep.
use Rattle.std.specs.Prelude.{◌≡◌, ℕ, ◌+◌, ◌<◌, ◌≤◌, Bool, true, false, ◌&&◌, ◌||◌, nat_le, List, [], ◌∷◌, length, Option, Some, None}
use Rattle.mctp_packet.specs.Ids.{IsMoment}
use Rattle.pldm_requester.specs.Calls.{Call, Tick, again_expected, given_up_expected, requests}
use Rattle.pldm_requester.specs.Courses.{Course, is_open, is_over}
use Rattle.pldm_requester.specs.Laws.{IsLeftBy}
use Rattle.pldm_requester.specs.Slots.{remembered_in}
use Rattle.pldm_requester.specs.Steps.{Memo, RequesterState, again_at, given_up_at, passes, ticked_held}
use Rattle.pldm_requester.specs.declared.requester.TheConstants.{MAX_OPEN}
use Rattle.pldm_requester.specs.declared.pace.Pace.{Pace}
use Rattle.pldm_requester.specs.declared.timing.Timing.{Timing}

-- a tick at this moment finds nothing due, and changes no request
pub record IsIdleAt (held : RequesterState) (moment : ℕ) : Type 0 where
  pub again : again_at held moment ≡ []
  pub given_up : given_up_at held moment ≡ []
  pub same : (number : ℕ) → (ticked_held held moment).remembered number ≡ held.remembered number

-- it finds something due
abbrev pub IsDueAt : RequesterState → ℕ → Type 0
IsDueAt held moment = 0 < length (again_at held moment) + length (given_up_at held moment)

-- a tick has something to do from this moment on, and nothing before; or it has nothing to do at any moment
abbrev pub IsDeadline : RequesterState → Option ℕ → Type 0
IsDeadline held None = (moment : ℕ) → IsMoment moment → IsIdleAt held moment
IsDeadline held (Some deadline) =
    ((moment : ℕ) → moment < deadline → IsIdleAt held moment)
    × ((moment : ℕ) → deadline ≤ moment → IsDueAt held moment)

-- a moment that comes before it
abbrev pub IsBefore : ℕ → Option ℕ → Type 0
IsBefore moment None = IsMoment moment
IsBefore moment (Some deadline) = moment < deadline

-- a tick before it may be left out: looking back over all calls it finds nothing due and changes no request, however
-- old, and the deadline stays the same
abbrev pub SleepMissesNothing : Type 0
SleepMissesNothing =
    (own device : ℕ) (timing : Timing) (pace : Pace) (held : RequesterState) (calls : List Call) (deadline : Option ℕ)
    (moment : ℕ)
    → IsLeftBy own device timing pace held calls → IsDeadline held deadline → IsBefore moment deadline
    → (again_expected own device timing pace calls moment ≡ [])
    × (given_up_expected own device timing pace calls moment ≡ [])
    × ((number : ℕ) → (requests own device timing pace (Tick moment ∷ calls)).each number
    ≡ (requests own device timing pace calls).each number)
    × IsDeadline (ticked_held held moment) deadline

-- ---- one request after the other
-- a tick has something to do for this one: it is open, and all its tries have had their time, or its last one has
abbrev pub is_due : Timing → ℕ → Course → Bool
is_due timing moment course =
    is_open course && (is_over timing moment course || nat_le (course.last_sent + timing.timeout) moment)

abbrev pub is_reached : Option ℕ → ℕ → Bool
is_reached None moment = false
is_reached (Some start) moment = nat_le start moment

-- from this moment on a tick has something to do for one of the last requests below a number, and for none before
pub record IsEarliest (timing : Timing) (count : ℕ) (slots : List Memo) (below : ℕ) (earliest : Option ℕ) : Type 0 where
  pub none :
      (moment number : ℕ) → is_reached earliest moment ≡ false → count ≤ number + MAX_OPEN → number < below
      → passes (is_due timing moment) (remembered_in count slots number) ≡ false
  pub one :
      (moment : ℕ) → is_reached earliest moment ≡ true → (number : ℕ) × (count ≤ number + MAX_OPEN) × (number < below)
      × (passes (is_due timing moment) (remembered_in count slots number) ≡ true)
