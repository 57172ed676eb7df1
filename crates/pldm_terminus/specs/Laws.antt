-- What each half of an end that answers and asks makes of the packets of the other, and what the calls leave of it.
use Rattle.std.specs.Prelude.{◌≡◌, ℕ, ◌+◌, ◌*◌, ◌<◌, ◌≤◌, true, false, List, [], ◌∷◌, Some, slice_get, if◌then◌else◌}
use Rattle.mctp_packet.specs.declared.reason.Reason.{Reason}
use Rattle.pldm_requester.specs.Asks.{Ask}
use Rattle.pldm_requester.specs.Calls as requester
use Rattle.pldm_requester.specs.Laws.{IsInOrder, IsLeftBy}
use Rattle.pldm_requester.specs.Steps.{IsHeld, RequesterState, accepts, got_at, opened_with, received_held, ticked_held}
use Rattle.pldm_requester.specs.declared.results.Got.TheVariants.{Dropped}
use Rattle.pldm_requester.specs.declared.pace.Pace.{Pace}
use Rattle.pldm_requester.specs.declared.timing.Timing.{Timing}
use Rattle.pldm_responder.specs.Arrivals.{request_packet}
use Rattle.std.specs.Prelude.{Err}
use Rattle.pldm_terminus.specs.Directions.{is_answer}

-- a packet with TO 1 is dropped by a requester, which then holds what it held, but for the moment
abbrev pub BringsNoAnswer : Type 0
BringsNoAnswer =
    (held : RequesterState) (moment : ℕ) (bytes : List ℕ)
    → is_answer bytes ≡ false
    → ((reason : Reason) × (got_at held bytes ≡ Dropped reason))
    × IsHeld (received_held held moment bytes) (record held { last = moment })

-- a packet with TO 0 is none of a request, whatever endpoint ID the answering end has
abbrev pub AsksNothing : Type 0
AsksNothing =
    (own : ℕ) (bytes : List ℕ)
    → is_answer bytes ≡ true → (reason : Reason) × (request_packet own bytes ≡ Err reason)

-- a call of an end that answers and asks, as far as its requester sees it
pub data TerminusCall : Type 0 where
  Came : (moment : ℕ) → (bytes : List ℕ) → TerminusCall
  Opens : (moment : ℕ) → (ask : Ask) → TerminusCall
  Ticks : (moment : ℕ) → TerminusCall
  Answers : TerminusCall

-- the calls that its requester saw, the newest first
abbrev pub asking_calls : List TerminusCall → List requester.Call
asking_calls [] = []
asking_calls (Came moment bytes ∷ calls) =
    if is_answer bytes then requester.Receive moment bytes ∷ asking_calls calls else asking_calls calls
asking_calls (Opens moment ask ∷ calls) = requester.OpenRequest moment ask ∷ asking_calls calls
asking_calls (Ticks moment ∷ calls) = requester.Tick moment ∷ asking_calls calls
asking_calls (Answers ∷ calls) = asking_calls calls

-- what the requester holds after a call
abbrev pub asking_after : RequesterState → TerminusCall → RequesterState
asking_after held (Came moment bytes) = if is_answer bytes then received_held held moment bytes else held
asking_after held (Opens moment ask) = if accepts held moment then opened_with held moment ask else held
asking_after held (Ticks moment) = ticked_held held moment
asking_after held Answers = held

-- is what looking back over the calls that it saw says
abbrev pub AskingLooksBack : Type 0
AskingLooksBack =
    (own device : ℕ) (timing : Timing) (pace : Pace) (held : RequesterState) (calls : List TerminusCall) (call : TerminusCall)
    → IsLeftBy own device timing pace held (asking_calls calls)
    → IsLeftBy own device timing pace (asking_after held call) (asking_calls (call ∷ calls))

-- ---- a requester that begins anew
-- when a requester began, and its calls since, the newest first
pub record Incarnation : Type 0 where
  pub begun : ℕ
  pub calls : List requester.Call

module _ (own device : ℕ) (timing : Timing) (pace : Pace) where
  -- how many requests it opened, and when it opened each
  abbrev pub count_in : Incarnation → ℕ
  count_in i = (requester.requests own device timing pace i.calls).count

  abbrev pub opening_in : Incarnation → ℕ → ℕ
  opening_in i n = ((requester.requests own device timing pace i.calls).each n).course.opening

  -- it began at the last moment of the one before, or later
  abbrev pub Follows : Incarnation → List Incarnation → Type 0
  Follows i [] = Unit {0}
  Follows i (before ∷ past) =
      (before.begun ≤ i.begun) × (requester.last_moment own device timing pace before.calls ≤ i.begun)

  -- each opens nothing before twice the keeping time has passed since it began; the newest stands first
  pub record IsRested (i : Incarnation) (past : List Incarnation) : Type 0 where
    pub order : IsInOrder own device timing pace i.calls
    pub rested : (n : ℕ) → n < count_in i → i.begun + 2 * timing.keep ≤ opening_in i n
    pub follows : Follows i past

  abbrev pub AreRested : List Incarnation → Type 0
  AreRested [] = Unit {0}
  AreRested (i ∷ past) = IsRested i past × AreRested past

-- so whatever their numbers, two requests of different incarnations are opened twice the keeping time apart, or more
abbrev pub ApartOverRestarts : Type 0
ApartOverRestarts =
    (own device : ℕ) (timing : Timing) (pace : Pace) (all : List Incarnation) (place other : ℕ) (new old : Incarnation) (n m : ℕ)
    → AreRested own device timing pace all
    → place < other → slice_get all place ≡ Some new → slice_get all other ≡ Some old
    → n < count_in own device timing pace new → m < count_in own device timing pace old
    → opening_in own device timing pace old m + 2 * timing.keep ≤ opening_in own device timing pace new n
