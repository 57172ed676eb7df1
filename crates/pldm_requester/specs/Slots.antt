-- How a requester keeps the last requests: each in the slot of its instance ID; and what contracts see of a requester.
use Rattle.std.specs.FinMap as map
use Rattle.std.specs.Prelude.{◌≡◌, ℕ, ◌+◌, ◌-◌, ◌*◌, ◌%◌, ◌<◌, ◌≤◌, Bool, true, false, List, [], ◌∷◌, ◌++◌, length, nat_lt, slice_set, if◌then◌else◌, Option, Some, None, slice_get, IfSome, refl}
use Rattle.std.specs.Coded.{Coded, code_by, coded×, coded_ℕ, coded_bool, coded_list, coded_option}
use Rattle.mctp_assembly.specs.Keys.{key_cmp, coded_key}
use Rattle.mctp_assembly.specs.Opened.{Opened, coded_opened}
use Rattle.pldm_wire.specs.Kinds.{of_type}
use Rattle.pldm_requester.specs.Courses.{Progress, Waiting, Answered, GaveUp, is_open}
use Rattle.pldm_requester.specs.Steps.{Memo, RequesterState, is_kept, is_recent, outline, passes}
use Rattle.pldm_requester.specs.Pacing.{coded_pace, kept}
use Rattle.pldm_requester.specs.Timings.{coded_timing}
use Rattle.pldm_requester.specs.declared.requester.TheConstants.{MAX_OPEN, MAX_REMEMBERED}
use Rattle.pldm_requester.specs.declared.pace.Pace.{Pace}
use Rattle.pldm_requester.specs.declared.timing.Timing.{Timing}

-- a progress is stored as the answer, if any, where the request is no longer open
abbrev pub stored : Progress → Option (Option (List ℕ))
stored Waiting = None
stored GaveUp = Some None
stored (Answered message) = Some (Some message)

abbrev pub progress_in : Option (Option (List ℕ)) → Progress
progress_in None = Waiting
progress_in (Some None) = GaveUp
progress_in (Some (Some message)) = Answered message

abbrev pub stored_back : (progress : Progress) → progress_in (stored progress) ≡ progress
stored_back Waiting = refl
stored_back GaveUp = refl
stored_back (Answered message) = refl

abbrev pub coded_progress : Coded Progress
coded_progress =
    code_by (Option (Option (List ℕ))) (coded_option (coded_option (coded_list coded_ℕ)))
    stored progress_in stored_back

-- what is remembered of a request is stored as its parts
abbrev pub coded_memo : Coded Memo
coded_memo =
    code_by (ℕ × (ℕ × (List (List ℕ) × (ℕ × (ℕ × (Progress × Bool))))))
    (coded× coded_ℕ (coded× coded_ℕ (coded× (coded_list (coded_list coded_ℕ))
    (coded× coded_ℕ (coded× coded_ℕ (coded× coded_progress coded_bool))))))
    (λ m. (
      m.kind.pldm_type,
      (
        m.kind.command,
        (
          m.packets,
          (m.course.opening, (m.course.last_sent, (m.course.progress, m.is_whole))),
        ),
      ),
    ))
    (λ c. record {
      kind = of_type c.0 c.1.0;
      packets = c.1.1.0;
      course = record { opening = c.1.1.1.0; last_sent = c.1.1.1.1.0; progress = c.1.1.1.1.1.0 };
      is_whole = c.1.1.1.1.1.1;
    })
    (λ _. refl)

-- what contracts see of a requester: the slot of each instance ID has the last request with it
pub record RequesterView : Type 0 where
  pub own : ℕ
  pub device : ℕ
  pub timing : Timing
  pub pace : Pace
  pub count : ℕ
  pub slots : List Memo
  pub open_messages : map.FinMap key_cmp Opened
  pub last : ℕ

-- it is stored as its parts
abbrev pub coded_view : Coded RequesterView
coded_view =
    code_by (ℕ × (ℕ × (Timing × (Pace × (ℕ × (List Memo × (map.FinMap key_cmp Opened × ℕ)))))))
    (coded× coded_ℕ (coded× coded_ℕ (coded× coded_timing (coded× coded_pace (coded× coded_ℕ
    (coded× (coded_list coded_memo) (coded× (map.code coded_key coded_opened) coded_ℕ)))))))
    (λ s. (s.own, (s.device, (s.timing, (s.pace, (s.count, (s.slots, (s.open_messages, s.last))))))))
    (λ c. record {
      own = c.0;
      device = c.1.0;
      timing = c.1.1.0;
      pace = c.1.1.1.0;
      count = c.1.1.1.1.0;
      slots = c.1.1.1.1.1.0;
      open_messages = c.1.1.1.1.1.1.0;
      last = c.1.1.1.1.1.1.1;
    })
    (λ _. refl)

-- what is remembered of the request with this number, where it is among the last ones: it stands in the slot of its
-- instance ID
abbrev pub remembered_in : ℕ → List Memo → ℕ → Option Memo
remembered_in count slots number =
    if is_recent count number then slice_get slots (number % MAX_REMEMBERED) else None

abbrev pub held_of : RequesterView → RequesterState
held_of station = record {
  own = station.own;
  device = station.device;
  timing = station.timing;
  pace = station.pace;
  count = station.count;
  remembered = remembered_in station.count station.slots;
  open_messages = station.open_messages;
  last = station.last;
}

-- the list with a new request in the slot of its number, or at the end, where no request had that slot yet
abbrev pub put_slot : ℕ → List Memo → Memo → List Memo
put_slot number slots memo =
    if nat_lt number MAX_REMEMBERED then slots ++ memo ∷ [] else slice_set slots (number % MAX_REMEMBERED) memo

-- the slots with the outline alone of what stands at a place
abbrev pub outlined_at : ℕ → List Memo → Option Memo → List Memo
outlined_at place slots None = slots
outlined_at place slots (Some memo) = slice_set slots place (outline memo)

-- before a new request with this number: what was kept whole of the last so many, but for one request
abbrev pub freed : Pace → ℕ → List Memo → List Memo
freed pace number slots =
    if nat_lt number (kept pace) then slots
    else outlined_at ((number - kept pace) % MAX_REMEMBERED) slots
    (slice_get slots ((number - kept pace) % MAX_REMEMBERED))

-- what stands at a place is whole
abbrev pub IsWholeAt : ℕ → List Memo → Type 0
IsWholeAt place slots = (memo : Memo) × (slice_get slots place ≡ Some memo) × (memo.is_whole ≡ true)

-- a slot for each of the last requests
pub record AreSlots (count : ℕ) (slots : List Memo) : Type 0 where
  pub some : count ≤ MAX_REMEMBERED → length slots ≡ count
  pub all : MAX_REMEMBERED ≤ count → length slots ≡ MAX_REMEMBERED

-- a request is opened twice the lifetime, so two milliseconds, after the one before it with its instance ID, or
-- later: so no more requests than this are opened up to a moment
abbrev pub most_opened : ℕ → ℕ
most_opened moment = 16 * moment + 32

abbrev pub IsPaced : ℕ → Option Memo → Type 0
IsPaced number memo = IfSome memo (λ memo. number < most_opened memo.course.opening)

-- none is open but the last ones
abbrev pub OlderAreShut : ℕ → List Memo → Type 0
OlderAreShut count slots =
    (number : ℕ) → number + MAX_OPEN < count → passes is_open (remembered_in count slots number) ≡ false

-- what is remembered whole is the last ones, as the pace says
abbrev pub IsWholeBy : Pace → ℕ → ℕ → Option Memo → Type 0
IsWholeBy pace count number memo = IfSome memo (λ memo. memo.is_whole ≡ is_kept pace count number)

-- what a requester goes on with of the checks of its pace
pub record IsInPace (timing : Timing) (pace : Pace) : Type 0 where
  pub some : 0 < pace.lifetime
  pub within : pace.lifetime ≤ timing.keep

-- the requests are so far apart, and only the last ones can be open
pub record IsStation (station : RequesterView) : Type 0 where
  pub pace : IsInPace station.timing station.pace
  pub slots : AreSlots station.count station.slots
  pub few : station.count ≤ most_opened station.last
  pub paced : (number : ℕ) → IsPaced number (remembered_in station.count station.slots number)
  pub shut : OlderAreShut station.count station.slots
  pub whole :
      (number : ℕ) → IsWholeBy station.pace station.count number (remembered_in station.count station.slots number)
