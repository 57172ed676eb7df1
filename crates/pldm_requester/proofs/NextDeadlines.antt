-- From which moment on a tick has something to do, and that it has nothing to do before.
use Rattle.std.proofs.Common.{◌≡◌, ◌⊎◌, ℕ, zero, suc, ◌+◌, ◌-◌, ◌<◌, ◌≤◌, Bool, true, false, cond, List, [], ◌∷◌, length, Option, Some, None, refl, sym, ap, ◌∙◌, subst, inl, inr, ⊎_elim, arith}
use Rattle.std.specs.Prelude.{◌↔◌, ◌&&◌, ◌||◌, not, nat_le, filter, option_map, IsSome, IfSome}
use Rattle.std.specs.List.{range_with_len}
use Rattle.std.proofs.lemmas.Bool.{and_left, cases_eq, cases_lt, cond-false, lt-leb, le-leb, or_cases, or_parts}
use Rattle.mctp_packet.specs.Ids.{IsMoment}
use Rattle.pldm_requester.specs.Calls.{Call, Request, requests}
use Rattle.pldm_requester.specs.Courses.{Course, is_open, is_over, is_given_up, is_sent_again, given_up, sent_again, ticked}
use Rattle.pldm_requester.specs.Deadlines.{IsBefore, IsDeadline, IsDueAt, IsEarliest, IsIdleAt, SleepMissesNothing, is_due, is_reached}
use Rattle.pldm_requester.specs.Slots.{RequesterView, IsStation, held_of, remembered_in}
use Rattle.pldm_requester.specs.Steps.{Memo, RequesterState, is_recent, passes, ticked_held, with_course}
use Rattle.pldm_requester.specs.declared.pace.Pace.{Pace}
use Rattle.pldm_requester.specs.declared.timing.Timing.{Timing}
use Rattle.pldm_requester.proofs.SlotLists.{recent_parts}
use Rattle.pldm_requester.proofs.OpenRequests.{open_are_opened, shut_stays}
use Rattle.pldm_requester.proofs.CallsLookBack.{tick_looks_back}

-- ---- one request
no_end : (o v a : Bool) → (o && (v || a)) ≡ false → (o && v) ≡ false
no_end false v a e = refl
no_end true true a e = e
no_end true false a e = refl

no_try : (o v a : Bool) → (o && (v || a)) ≡ false → (o && not v && a) ≡ false
no_try false v a e = refl
no_try true true a e = refl
no_try true false a e = e

some_way : (o v a : Bool) → (o && (v || a)) ≡ true → ((o && v) ≡ true) ⊎ ((o && not v && a) ≡ true)
some_way false v a e = absurd (cc)
some_way true true a e = inl refl
some_way true false a e = inr e

module _ (timing : Timing) (moment : ℕ) where
  pub not_given_up : (course : Course) → is_due timing moment course ≡ false → is_given_up timing moment course ≡ false
  not_given_up course e = no_end (is_open course) (is_over timing moment course) (nat_le (course.last_sent + timing.timeout) moment) e

  pub not_sent_again : (course : Course) → is_due timing moment course ≡ false → is_sent_again timing moment course ≡ false
  not_sent_again course e = no_try (is_open course) (is_over timing moment course) (nat_le (course.last_sent + timing.timeout) moment) e

  pub stays : (course : Course) → is_given_up timing moment course ≡ false → is_sent_again timing moment course ≡ false → ticked timing moment course ≡ course
  stays course e f =
      cond-false (is_given_up timing moment course) (given_up course) (cond (is_sent_again timing moment course) (sent_again moment course) course) e
      ∙ cond-false (is_sent_again timing moment course) (sent_again moment course) course f

  none_given_up : (o : Option Memo) → passes (is_due timing moment) o ≡ false → passes (is_given_up timing moment) o ≡ false
  none_given_up None e = refl
  none_given_up (Some memo) e = not_given_up memo.course e

  none_sent_again : (o : Option Memo) → passes (is_due timing moment) o ≡ false → passes (is_sent_again timing moment) o ≡ false
  none_sent_again None e = refl
  none_sent_again (Some memo) e = not_sent_again memo.course e

  memo_stays : (o : Option Memo) → passes (is_due timing moment) o ≡ false → option_map (with_course (ticked timing moment)) o ≡ o
  memo_stays None e = refl
  memo_stays (Some memo) e =
      ap (λ (c : Course). Some (record { kind = memo.kind; packets = memo.packets; course = c; is_whole = memo.is_whole })) (stays memo.course (not_given_up memo.course e) (not_sent_again memo.course e))

  due_is : (o : Option Memo) → passes (is_due timing moment) o ≡ true → (passes (is_given_up timing moment) o ≡ true) ⊎ (passes (is_sent_again timing moment) o ≡ true)
  due_is None e = absurd (cc)
  due_is (Some memo) e = some_way (is_open memo.course) (is_over timing moment memo.course) (nat_le (memo.course.last_sent + timing.timeout) moment) e

-- ---- the numbers that pass a test
pub filter_none : (test : ℕ → Bool) (start n : ℕ) → ((k : ℕ) → start ≤ k → k < start + n → test k ≡ false) → filter test (range_with_len start n) ≡ []
filter_none test start zero h = refl
filter_none test start (suc n) h =
    cond-false (test start) (start ∷ filter test (range_with_len (start + 1) n)) (filter test (range_with_len (start + 1) n)) (h start (omega arith) (omega arith))
    ∙ filter_none test (start + 1) n (λ k l m. h k (omega arith) (omega arith))

pub filter_some : (test : ℕ → Bool) (start n k : ℕ) → start ≤ k → k < start + n → test k ≡ true → 0 < length (filter test (range_with_len start n))
filter_some test start zero k l m e = absurd (omega arith)
filter_some test start (suc n) k l m e = go (test start) refl (λ other. filter_some test (start + 1) n k (omega arith) (omega arith) e)
  where
    go : (b : Bool) → test start ≡ b → ((k ≡ start → ⊥) → 0 < length (filter test (range_with_len (start + 1) n)))
        → 0 < length (cond b (start ∷ filter test (range_with_len (start + 1) n)) (filter test (range_with_len (start + 1) n)))
    go true f rest = omega arith
    go false f rest = ⊎_elim
        (λ (same : k ≡ start). let wrong : true ≡ false = sym e ∙ ap test same ∙ f in absurd (cc))
        rest
        (cases_eq k start)

pub filter_each : (test : ℕ → Bool) (start n k : ℕ) → filter test (range_with_len start n) ≡ [] → start ≤ k → k < start + n → test k ≡ false
filter_each test start n k e l m = go (test k) refl
  where
    go : (b : Bool) → test k ≡ b → b ≡ false
    go true f = let some = filter_some test start n k l m f in let none = ap length e in absurd (omega arith)
    go false f = refl

-- ---- one request more
pub earliest_begun : (timing : Timing) (count : ℕ) (slots : List Memo) → IsEarliest timing count slots (count - 8) None
earliest_begun timing count slots = record { none = λ moment n e near l. absurd (omega arith); one = λ moment e. absurd (cc) }

pub earliest_more : (timing : Timing) (count n : ℕ) (slots : List Memo) (memo : Memo) (earliest start next : Option ℕ) → count ≤ n + 8 → remembered_in count slots n ≡ Some memo
    → ((moment : ℕ) → is_reached start moment ≡ is_due timing moment memo.course)
    → ((moment : ℕ) → is_reached next moment ≡ (is_reached earliest moment || is_reached start moment))
    → IsEarliest timing count slots n earliest → IsEarliest timing count slots (n + 1) next
earliest_more timing count n slots memo earliest start next near is own joined before = record { none = none; one = one }
  where
    here : (moment : ℕ) → passes (is_due timing moment) (remembered_in count slots n) ≡ is_reached start moment
    here moment = ap (passes (is_due timing moment)) is ∙ sym (own moment)

    none : (moment k : ℕ) → is_reached next moment ≡ false → count ≤ k + 8 → k < n + 1 → passes (is_due timing moment) (remembered_in count slots k) ≡ false
    none moment k e close l =
        let parts = or_parts (is_reached earliest moment) (is_reached start moment) (sym (joined moment) ∙ e) in
        ⊎_elim
        (λ (same : k ≡ n). ap (λ i. passes (is_due timing moment) (remembered_in count slots i)) same ∙ here moment ∙ parts.1)
        (λ (other : k ≡ n → ⊥). before.none moment k parts.0 close (omega arith))
        (cases_eq k n)

    one : (moment : ℕ) → is_reached next moment ≡ true → (k : ℕ) × (count ≤ k + 8) × (k < n + 1) × (passes (is_due timing moment) (remembered_in count slots k) ≡ true)
    one moment e =
        ⊎_elim
        (λ (was : is_reached earliest moment ≡ true). let found = before.one moment was in (found.0, found.1, omega (arith, found.2), found.3))
        (λ (now : is_reached start moment ≡ true). (n, near, omega arith, here moment ∙ now))
        (or_cases (is_reached earliest moment) (is_reached start moment) (sym (joined moment) ∙ e))

-- ---- all requests
module _ (station : RequesterView) (is : IsStation station) (moment : ℕ) where
  abbrev due : ℕ → Bool
  due n = passes (is_due station.timing moment) (remembered_in station.count station.slots n)

  shut_is : (o : Option Memo) → passes is_open o ≡ false → passes (is_due station.timing moment) o ≡ false
  shut_is None e = refl
  shut_is (Some memo) e = and_left (is_open memo.course) (is_over station.timing moment memo.course || nat_le (memo.course.last_sent + station.timing.timeout) moment) e

  -- none but the last requests is open, and nothing is remembered of one that is not opened yet
  none_at : ((n : ℕ) → station.count ≤ n + 8 → n < station.count → due n ≡ false) → (n : ℕ) → due n ≡ false
  none_at last n = go (cases_lt n station.count) (cases_lt (n + 8) station.count)
    where
      unopened : station.count ≤ n → (b : Bool) → is_recent station.count n ≡ b → due n ≡ false
      unopened l true e = let parts = recent_parts station.count n e in absurd (omega arith)
      unopened l false e = ap (passes (is_due station.timing moment)) (cond-false (is_recent station.count n) _ None e)

      go : (n < station.count) ⊎ (station.count ≤ n) → (n + 8 < station.count) ⊎ (station.count ≤ n + 8) → due n ≡ false
      go (inl l) (inl old) = shut_is (remembered_in station.count station.slots n) (is.shut n old)
      go (inl l) (inr near) = last n near l
      go (inr l) m = unopened l (is_recent station.count n) refl

  idle : ((n : ℕ) → station.count ≤ n + 8 → n < station.count → due n ≡ false) → IsIdleAt (held_of station) moment
  idle last = record {
    again = filter_none (λ n. passes (is_sent_again station.timing moment) (remembered_in station.count station.slots n)) (station.count - 8) (station.count - (station.count - 8)) (λ n l m. none_sent_again station.timing moment (remembered_in station.count station.slots n) (none_at last n));
    given_up = filter_none (λ n. passes (is_given_up station.timing moment) (remembered_in station.count station.slots n)) (station.count - 8) (station.count - (station.count - 8)) (λ n l m. none_given_up station.timing moment (remembered_in station.count station.slots n) (none_at last n));
    same = λ n. memo_stays station.timing moment (remembered_in station.count station.slots n) (none_at last n);
  }

  due_by : (n : ℕ) → station.count ≤ n + 8 → n < station.count → due n ≡ true → IsDueAt (held_of station) moment
  due_by n near l e =
      ⊎_elim
      (λ (up : passes (is_given_up station.timing moment) (remembered_in station.count station.slots n) ≡ true).
      let some = filter_some (λ n. passes (is_given_up station.timing moment) (remembered_in station.count station.slots n)) (station.count - 8) (station.count - (station.count - 8)) n (omega arith) (omega arith) up in
      omega arith)
      (λ (again : passes (is_sent_again station.timing moment) (remembered_in station.count station.slots n) ≡ true).
      let some = filter_some (λ n. passes (is_sent_again station.timing moment) (remembered_in station.count station.slots n)) (station.count - 8) (station.count - (station.count - 8)) n (omega arith) (omega arith) again in
      omega arith)
      (due_is station.timing moment (remembered_in station.count station.slots n) e)

module _ (station : RequesterView) (is : IsStation station) where
  -- where no request is open
  pub no_deadline : IsEarliest station.timing station.count station.slots station.count None → IsDeadline (held_of station) None
  no_deadline e = λ moment m. idle station is moment (λ n near l. e.none moment n refl near l)

  pub deadline_at : (start : ℕ) → IsEarliest station.timing station.count station.slots station.count (Some start) → (r : Option ℕ) → (IsSome r ↔ IsMoment start) → IfSome r (λ d. d ≡ start) → IsDeadline (held_of station) r
  deadline_at start e None some value = λ moment m.
      let late : moment < start = lemma_late moment m in
      idle station is moment (λ n near l. e.none moment n (lt-leb start moment late) near l)
    where
      lemma_late : (moment : ℕ) → IsMoment moment → moment < start
      lemma_late moment m = ⊎_elim (λ (l : moment < start). l) (λ (l : start ≤ moment). let none : IsSome {T = ℕ} None = some.1 (omega arith) in absurd (cc)) (cases_lt moment start)
  deadline_at start e (Some d) some value = (
    λ moment l. idle station is moment (λ n near k. e.none moment n (lt-leb start moment (omega arith)) near k),
    λ moment l. let at = e.one moment (le-leb start moment (omega arith)) in due_by station is moment at.0 at.1 at.2 at.3,
  )

-- ---- a tick before it
idle_before : (held : RequesterState) (deadline : Option ℕ) (moment : ℕ) → IsDeadline held deadline → IsBefore moment deadline → IsIdleAt held moment
idle_before held None moment at before = at moment before
idle_before held (Some deadline) moment at before = at.0 moment before

idle_moved : (held : RequesterState) (last moment : ℕ) → IsIdleAt held moment → IsIdleAt (record held { last = last }) moment
idle_moved held last moment idle = record { again = idle.again; given_up = idle.given_up; same = idle.same }

deadline_moved : (held : RequesterState) (last : ℕ) (deadline : Option ℕ) → IsDeadline held deadline → IsDeadline (record held { last = last }) deadline
deadline_moved held last None at = λ moment m. idle_moved held last moment (at moment m)
deadline_moved held last (Some deadline) at = (λ moment l. idle_moved held last moment (at.0 moment l), at.1)

deadline_stays : (held : RequesterState) (deadline : Option ℕ) (moment : ℕ) → IsIdleAt held moment → IsDeadline held deadline → IsDeadline (ticked_held held moment) deadline
deadline_stays held deadline moment idle at =
    let same : record held { last = moment } ≡ ticked_held held moment = λ i. record held { remembered = λ n. sym (idle.same n) i; last = moment } in
    subst (λ (h : RequesterState). IsDeadline h deadline) same (deadline_moved held moment deadline at)

module _ (own device : ℕ) (timing : Timing) (pace : Pace) (calls : List Call) (moment : ℕ) where
  abbrev all : ℕ → Request
  all = (requests own device timing pace calls).each

  abbrev count : ℕ
  count = (requests own device timing pace calls).count

  course_stays : filter (λ n. is_sent_again timing moment (all n).course) (range_with_len 0 count) ≡ [] → filter (λ n. is_given_up timing moment (all n).course) (range_with_len 0 count) ≡ []
      → (n : ℕ) → ticked timing moment (all n).course ≡ (all n).course
  course_stays again given n = ⊎_elim
      (λ (l : n < count).
      stays timing moment (all n).course
      (filter_each (λ n. is_given_up timing moment (all n).course) 0 count n given (omega arith) (omega arith))
      (filter_each (λ n. is_sent_again timing moment (all n).course) 0 count n again (omega arith) (omega arith)))
      (λ (l : count ≤ n). shut_stays timing moment (all n).course (open_are_opened own device timing pace calls n l))
      (cases_lt n count)

pub sleep_misses_nothing : SleepMissesNothing
sleep_misses_nothing own device timing pace held calls deadline moment left at before =
    let idle = idle_before held deadline moment at before in
    let back = tick_looks_back own device timing pace held calls moment left in
    let again = sym back.0 ∙ idle.again in
    let given = sym back.1 ∙ idle.given_up in (
      again,
      given,
      λ n. ap (λ (c : Course). record { ask = (all own device timing pace calls moment n).ask; course = c; fed = (all own device timing pace calls moment n).fed }) (course_stays own device timing pace calls moment again given n),
      deadline_stays held deadline moment idle at,
    )
