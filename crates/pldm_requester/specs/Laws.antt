-- What a requester holds after any list of calls, read by looking back over the list, and which requests are open.
use Rattle.std.specs.Prelude.{◌≡◌, ◌⊎◌, ℕ, ◌+◌, ◌-◌, ◌*◌, ◌<◌, ◌≤◌, ◌&&◌, not, nat_lt, nat_le, true, false, List, [], ◌∷◌, length, Option, Some, None, if◌then◌else◌}
use Rattle.mctp_assembly.specs.Histories as assembly
use Rattle.pldm_wire.specs.declared.assigned.TheConstants.{INSTANCE_IDS}
use Rattle.pldm_requester.specs.Asks.{Ask}
use Rattle.pldm_requester.specs.Numbering.{id_of, tag_of, packets_with}
use Rattle.pldm_requester.specs.Courses.{is_open}
use Rattle.pldm_requester.specs.Pacing.{at_default, newest, answered_after, stride}
use Rattle.pldm_requester.specs.Calls.{Call, OpenRequest, Tick, Receive, Requests, accepts, answer_key, course_at, is_id_in_use, is_open_at, open_on, numbers_of, requests, last_moment, assembled, open_expected, again_expected, given_up_expected, got_expected}
use Rattle.pldm_requester.specs.Steps as steps
use Rattle.pldm_requester.specs.Steps.{Memo, RequesterState, IsHeld, paced_at_first, is_kept, is_recent, outline_if, opening_answer, opened_with, again_at, given_up_at, ticked_held, got_at, received_held}
use Rattle.pldm_requester.specs.declared.pace.Pace.{Pace}
use Rattle.pldm_requester.specs.declared.timing.Timing.{Timing}
use Rattle.pldm_requester.specs.declared.requester.TheConstants.{MAX_OPEN}

-- what is remembered of a request: of the last ones all, of some before them the outline, of older ones nothing
abbrev pub memo_of : ℕ → ℕ → Requests → ℕ → Memo
memo_of own device a number = record {
  kind = (a.each number).ask.kind;
  packets = packets_with own device number (a.each number).ask;
  course = (a.each number).course;
  is_whole = true;
}

abbrev pub memo_at : ℕ → ℕ → Pace → Requests → ℕ → Option Memo
memo_at own device pace a number =
    if is_recent a.count number
    then outline_if (not (is_kept pace a.count number)) (Some (memo_of own device a number)) else None

-- what is held is what the calls leave of a requester with these endpoint IDs, this timing and this pace
pub record IsLeftBy (own device : ℕ) (timing : Timing) (pace : Pace) (held : RequesterState) (calls : List Call) : Type 0 where
  pub endpoint : held.own ≡ own
  pub peer : held.device ≡ device
  pub times : held.timing ≡ timing
  pub paced : held.pace ≡ pace
  pub count : held.count ≡ (requests own device timing pace calls).count
  pub remembered : (number : ℕ) → held.remembered number ≡ memo_at own device pace (requests own device timing pace calls) number
  pub open_messages : assembly.IsLeftBy held.open_messages (assembled own device timing pace calls)
  pub last : held.last ≡ last_moment own device timing pace calls

-- an open answers what looking back over all calls says; it is accepted exactly where that says so, and leaves what the
-- longer list leaves
abbrev pub OpenLooksBack : Type 0
OpenLooksBack =
    (own device : ℕ) (timing : Timing) (pace : Pace) (held : RequesterState) (calls : List Call) (moment : ℕ) (ask : Ask)
    → IsLeftBy own device timing pace held calls
    → (opening_answer held moment ≡ open_expected own device timing pace calls moment)
    × (steps.accepts held moment ≡ accepts timing.keep pace (requests own device timing pace calls) moment)
    × (steps.accepts held moment ≡ true
    → IsLeftBy own device timing pace (opened_with held moment ask) (OpenRequest moment ask ∷ calls))
    × (steps.accepts held moment ≡ false → IsLeftBy own device timing pace held (OpenRequest moment ask ∷ calls))

-- so does a tick
abbrev pub TickLooksBack : Type 0
TickLooksBack =
    (own device : ℕ) (timing : Timing) (pace : Pace) (held : RequesterState) (calls : List Call) (moment : ℕ)
    → IsLeftBy own device timing pace held calls
    → (again_at held moment ≡ again_expected own device timing pace calls moment)
    × (given_up_at held moment ≡ given_up_expected own device timing pace calls moment)
    × IsLeftBy own device timing pace (ticked_held held moment) (Tick moment ∷ calls)

-- and so do bytes that are received
abbrev pub ReceiveLooksBack : Type 0
ReceiveLooksBack =
    (own device : ℕ) (timing : Timing) (pace : Pace) (held : RequesterState) (calls : List Call) (moment : ℕ) (bytes : List ℕ)
    → IsLeftBy own device timing pace held calls
    → (got_at held bytes ≡ got_expected own device timing pace calls bytes)
    × IsLeftBy own device timing pace (received_held held moment bytes) (Receive moment bytes ∷ calls)

-- a new requester holds what the empty list leaves
abbrev pub NewLooksBack : Type 0
NewLooksBack =
    (own device : ℕ) (timing : Timing) (pace : Pace)
    → IsLeftBy own device timing pace (paced_at_first own device timing pace) []

-- what holds the same is left by the same calls
abbrev pub SameIsLeft : Type 0
SameIsLeft =
    (own device : ℕ) (timing : Timing) (pace : Pace) (new held : RequesterState) (calls : List Call)
    → IsHeld new held → IsLeftBy own device timing pace held calls → IsLeftBy own device timing pace new calls

-- ---- which requests are open
-- only the last eight can be open
abbrev pub OpenAreRecent : Type 0
OpenAreRecent =
    (own device : ℕ) (timing : Timing) (pace : Pace) (calls : List Call) (number : ℕ)
    → number + MAX_OPEN < (requests own device timing pace calls).count
    → is_open_at (requests own device timing pace calls) number ≡ false

-- so at most eight are
abbrev pub FewAreOpen : Type 0
FewAreOpen =
    (own device : ℕ) (timing : Timing) (pace : Pace) (calls : List Call)
    → length (numbers_of is_open (requests own device timing pace calls)) ≤ MAX_OPEN

-- what is not opened yet is not open
abbrev pub OpenAreOpened : Type 0
OpenAreOpened =
    (own device : ℕ) (timing : Timing) (pace : Pace) (calls : List Call) (number : ℕ)
    → (requests own device timing pace calls).count ≤ number
    → is_open_at (requests own device timing pace calls) number ≡ false

-- no two with one tag are
abbrev pub OneOnEachTag : Type 0
OneOnEachTag =
    (own device : ℕ) (timing : Timing) (pace : Pace) (calls : List Call) (number other : ℕ)
    → is_open_at (requests own device timing pace calls) number ≡ true
    → is_open_at (requests own device timing pace calls) other ≡ true
    → tag_of number ≡ tag_of other → number ≡ other

-- while its tag was not used again, the search on a request's tag finds it where it is open, else none
abbrev pub FoundOnItsTag : Type 0
FoundOnItsTag =
    (own device : ℕ) (timing : Timing) (pace : Pace) (calls : List Call) (number : ℕ)
    → number < (requests own device timing pace calls).count
    → (requests own device timing pace calls).count ≤ number + MAX_OPEN
    → open_on (is_open_at (requests own device timing pace calls)) (requests own device timing pace calls).count (tag_of number)
    ≡ (if is_open_at (requests own device timing pace calls) number then Some number else None)

-- what came to an open request are the packets of its tag that came to assembly since its opening, when the tag was
-- forgotten
abbrev pub FedSinceItsOpening : Type 0
FedSinceItsOpening =
    (own device : ℕ) (timing : Timing) (pace : Pace) (calls : List Call) (number : ℕ)
    → is_open_at (requests own device timing pace calls) number ≡ true
    → assembly.since (answer_key device (tag_of number)) (assembled own device timing pace calls)
    ≡ ((requests own device timing pace calls).each number).fed

-- an accepted open begins with no packets on its tag
abbrev pub BeginsWithNone : Type 0
BeginsWithNone =
    (own device : ℕ) (timing : Timing) (pace : Pace) (calls : List Call) (moment : ℕ) (ask : Ask)
    → accepts timing.keep pace (requests own device timing pace calls) moment ≡ true
    → assembly.since (answer_key device (tag_of (requests own device timing pace calls).count))
    (assembled own device timing pace (OpenRequest moment ask ∷ calls))
    ≡ []

-- ---- moments, which never go back
abbrev pub moment_of : Call → ℕ
moment_of (OpenRequest moment ask) = moment
moment_of (Tick moment) = moment
moment_of (Receive moment bytes) = moment

abbrev pub IsInOrder : ℕ → ℕ → Timing → Pace → List Call → Type 0
IsInOrder own device timing pace [] = Unit {0}
IsInOrder own device timing pace (call ∷ calls) =
    (last_moment own device timing pace calls ≤ moment_of call) × IsInOrder own device timing pace calls

-- a request was opened at the last moment or before
abbrev pub OpenedBefore : Type 0
OpenedBefore =
    (own device : ℕ) (timing : Timing) (pace : Pace) (calls : List Call) (number : ℕ)
    → IsInOrder own device timing pace calls → number < (requests own device timing pace calls).count
    → ((requests own device timing pace calls).each number).course.opening ≤ last_moment own device timing pace calls

-- requests with one instance ID were opened twice the lifetime apart, or more
abbrev pub IdsApart : Type 0
IdsApart =
    (own device : ℕ) (timing : Timing) (pace : Pace) (calls : List Call) (number later : ℕ)
    → IsInOrder own device timing pace calls → number < later
    → later < (requests own device timing pace calls).count
    → id_of number ≡ id_of later
    → ((requests own device timing pace calls).each number).course.opening + 2 * pace.lifetime
    ≤ ((requests own device timing pace calls).each later).course.opening

-- and the next one with it less than twice the keeping time after only where so many as the window counts were answered
-- between them, of those opened at least the lifetime after the first
abbrev pub FreedEarly : Type 0
FreedEarly =
    (own device : ℕ) (timing : Timing) (pace : Pace) (calls : List Call) (number : ℕ)
    → IsInOrder own device timing pace calls
    → number + INSTANCE_IDS < (requests own device timing pace calls).count
    → (course_at (requests own device timing pace calls) number).opening + 2 * timing.keep
    ≤ (course_at (requests own device timing pace calls) (number + INSTANCE_IDS)).opening
    ⊎ (pace.window ≤ answered_after pace (course_at (requests own device timing pace calls) number).opening
    (newest (course_at (requests own device timing pace calls)) (number + INSTANCE_IDS) (INSTANCE_IDS - 1)))

-- where requests are spread, no more than the stride are opened in a lifetime
abbrev pub SpreadOut : Type 0
SpreadOut =
    (own device : ℕ) (timing : Timing) (pace : Pace) (calls : List Call) (number : ℕ)
    → IsInOrder own device timing pace calls → 0 < stride pace
    → number + stride pace < (requests own device timing pace calls).count
    → (course_at (requests own device timing pace calls) number).opening + pace.lifetime
    ≤ (course_at (requests own device timing pace calls) (number + stride pace)).opening

-- at the default pace the last request with an instance ID decides, by its opening alone
abbrev pub DefaultPaceGoesByTime : Type 0
DefaultPaceGoesByTime =
    (keep : ℕ) (a : Requests) (moment : ℕ)
    → is_id_in_use keep (at_default keep) a moment
    ≡ (nat_le INSTANCE_IDS a.count
    && nat_lt moment ((course_at a (a.count - INSTANCE_IDS)).opening + 2 * keep))
