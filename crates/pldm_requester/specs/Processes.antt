-- Which instance IDs may be used again, over the requesters of several processes that give on what they opened.
use Rattle.std.specs.Prelude.{◌≡◌, ℕ, ◌+◌, ◌*◌, ◌≤◌, List, [], ◌∷◌, ◌++◌, slice_get, if◌then◌else◌, Some}
use Rattle.std.specs.List.{All}
use Rattle.pldm_requester.specs.Calls.{Call, OpenRequest, Tick, Receive}
use Rattle.pldm_requester.specs.Numbering.{id_of}
use Rattle.pldm_requester.specs.Steps.{RequesterState, accepts, opened_with, received_held, ticked_held}
use Rattle.pldm_requester.specs.Resuming.{AreKnown, AreLeft, resumed_held}
use Rattle.pldm_requester.specs.declared.openings.Openings.{Openings}
use Rattle.pldm_requester.specs.declared.pace.Pace.{Pace}
use Rattle.pldm_requester.specs.declared.timing.Timing.{Timing}

-- a request that was opened: its instance ID, and when
pub record Opening : Type 0 where
  pub id : ℕ
  pub moment : ℕ

-- the same instance ID was used long enough before an opening: twice the lifetime, at the default pace twice the keeping
-- time, or longer
abbrev pub IsLongBefore : ℕ → Opening → Opening → Type 0
IsLongBefore lifetime opening earlier =
    earlier.id ≡ opening.id → earlier.moment + 2 * lifetime ≤ opening.moment

-- each of these openings, the newest first, comes long enough after those before it, and after the earlier ones
abbrev pub AreApart : ℕ → List Opening → List Opening → Type 0
AreApart lifetime [] earlier = Unit {0}
AreApart lifetime (opening ∷ openings) earlier =
    All (IsLongBefore lifetime opening) (openings ++ earlier) × AreApart lifetime openings earlier

-- an opening is known: its instance ID has its moment or a later one
abbrev pub Knows : Openings → Opening → Type 0
Knows openings opening =
    (moment : ℕ) × (slice_get openings.moments.items opening.id ≡ Some moment) × (opening.moment ≤ moment)

-- what is held after these calls, the newest first
abbrev pub after_call : RequesterState → Call → RequesterState
after_call held (OpenRequest moment ask) = if accepts held moment then opened_with held moment ask else held
after_call held (Tick moment) = ticked_held held moment
after_call held (Receive moment bytes) = received_held held moment bytes

abbrev pub after : RequesterState → List Call → RequesterState
after start [] = start
after start (call ∷ calls) = after_call (after start calls) call

-- what a call opens
abbrev pub opens : RequesterState → Call → List Opening
opens held (OpenRequest moment ask) =
    if accepts held moment then record { id = id_of held.count; moment = moment } ∷ [] else []
opens held (Tick moment) = []
opens held (Receive moment bytes) = []

abbrev pub opened_by : RequesterState → List Call → List Opening
opened_by start [] = []
opened_by start (call ∷ calls) = opens (after start calls) call ++ opened_by start calls

-- a requester that knows all that was opened before it opens nothing too early
abbrev pub IdsApartOverProcesses : Type 0
IdsApartOverProcesses =
    (own device : ℕ) (timing : Timing) (pace : Pace) (now : ℕ) (known : Openings) (earlier : List Opening) (calls : List Call)
    → AreKnown now known → All (Knows known) earlier
    → AreApart pace.lifetime (opened_by (resumed_held own device timing pace now known) calls) earlier

-- and what it leaves knows all that was opened before it, and what it opened
abbrev pub PassedOn : Type 0
PassedOn =
    (own device : ℕ) (timing : Timing) (pace : Pace) (now : ℕ) (known left : Openings) (earlier : List Opening)
    (calls : List Call)
    → AreKnown now known → All (Knows known) earlier
    → AreLeft (after (resumed_held own device timing pace now known) calls) left
    → All (Knows left) (opened_by (resumed_held own device timing pace now known) calls ++ earlier)
