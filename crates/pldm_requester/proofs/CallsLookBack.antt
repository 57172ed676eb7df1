-- What a requester holds and answers is what looking back over the list of its calls says.
use Rattle.std.proofs.Common.{◌≡◌, ◌⊎◌, ℕ, zero, suc, ◌+◌, ◌-◌, ◌<◌, ◌≤◌, Bool, true, false, cond, List, [], ◌∷◌, length, ◌*◌, Option, Some, None, Result, Ok, Err, refl, sym, ap, ◌∙◌, subst, inl, inr, arith, lit≤, eq-eqb}
use Rattle.std.specs.Prelude.{◌&&◌, ◌||◌, ◌==◌, not, nat_lt, nat_le, filter, option_map, is_some, if◌then◌else◌}
use Rattle.std.specs.List.{range_with_len}
use Rattle.std.proofs.lemmas.Bool.{and_left, and_parts, cases_Bool, cases_eq, cond-true, cond-false, ne_eqb, ltb-true, leb-true, le-leb, le-ltb}
use Rattle.std.proofs.lemmas.List.FromFn.{length-range_with_len}
use Rattle.std.proofs.lemmas.List.Sums.{length-filter, count_by-le-length}
use Rattle.mctp_packet.specs.Packets.{Packet}
use Rattle.mctp_packet.specs.Passing.{passed as where_expected}
use Rattle.mctp_packet.specs.Reading.{reading, packet_of, unless}
use Rattle.mctp_packet.specs.Refusals.{refusal}
use Rattle.mctp_packet.specs.declared.reason.Reason.{Reason}
use Rattle.mctp_packet.specs.declared.reason.Reason.TheVariants.{BadTag, NotMine, NotReady}
use Rattle.mctp_packet.specs.declared.TheConstants.{MAX_PACKETS}
use Rattle.mctp_assembly.specs.Histories as histories
use Rattle.mctp_assembly.specs.Laws as assembly
use Rattle.mctp_assembly.specs.Rows as rows
use Rattle.mctp_assembly.specs.Steps as assembling
use Rattle.mctp_assembly.specs.declared.fed.Fed.{Fed}
use Rattle.mctp_assembly.specs.declared.fed.Fed.TheVariants as feds
use Rattle.pldm_wire.specs.Responses.{Response, response_of}
use Rattle.pldm_requester.specs.Asks.{Ask}
use Rattle.pldm_requester.specs.Arrivals.{Arrival, Drop, Part, Answer, got_of, response_arrival, fed_arrival, packet_arrival, passed_arrival}
use Rattle.pldm_requester.specs.Calls as calls
use Rattle.pldm_requester.specs.Calls.{Call, OpenRequest, Tick, Receive, Request, Requests, course_at, request_with, put, opened_for, with_request, is_open_at, open_answer, open_on, answer_key, is_from_device, numbers_of, ticked_request, fed_by, answered_by, requests, last_moment, with_packet, assembled}
use Rattle.pldm_requester.specs.Courses.{Course, is_open, is_given_up, is_sent_again, ticked, answered, without_answer}
use Rattle.pldm_requester.specs.Pacing.{newest, answered_after, is_answered_from, is_too_soon, kept, stride, is_crowded}
use Rattle.pldm_requester.specs.Laws.{memo_of, memo_at, IsLeftBy, OpenLooksBack, TickLooksBack, ReceiveLooksBack, NewLooksBack, SameIsLeft, FewAreOpen}
use Rattle.pldm_requester.specs.Numbering.{tag_of, packets_with}
use Rattle.pldm_requester.specs.Steps as steps
use Rattle.pldm_requester.specs.Steps.{Memo, RequesterState, IsHeld, is_kept, is_recent, outline, outline_if, passes, course_of, with_course, latest_on, where_open, recent_numbers, is_mine_by, open_after, opened_with, opening_answer, again_at, given_up_at, ticked_held, arrived_by, remembered_after, got_at, held_by, received_held}
use Rattle.pldm_requester.specs.declared.pace.Pace.{Pace}
use Rattle.pldm_requester.specs.declared.timing.Timing.{Timing}
use Rattle.pldm_requester.proofs.SlotLists.{kept_new, kept_then, not_kept_then, recent_parts, recent_from}
use Rattle.pldm_requester.proofs.OpenRequests.{put_here, put_other, Recent, within, recent, given_up_open, sent_again_open, came_course, came_ask, came_count, came_by, came_by_count}
use Rattle.pldm_requester.proofs.NewestRequests.{counted_same, stride_range}
use Rattle.pldm_requester.proofs.Outlines.{answered_outlined, mine_outlined, opening_outlined, passes_outlined, ticked_still}
use Rattle.pldm_requester.proofs.TagSearch.{latest_is}
use Rattle.pldm_requester.proofs.FedPackets.{expected, comes_to, goes_where, fed_since}

-- ---- which request an answer is to
response_number : (mine : ℕ → Response → Bool) (n : ℕ) (message : List ℕ) (read : Result Response Reason) (k : ℕ) (m : List ℕ) → response_arrival mine n message read ≡ Answer k m → k ≡ n
response_number mine n message (Err reason) k m e = absurd (cc)
response_number mine n message (Ok response) k m e = go (not (mine n response)) (response.code == 4) e
  where
    go : (a b : Bool) → cond a (Drop NotMine) (cond b (Drop NotReady) (Answer n message)) ≡ Answer k m → k ≡ n
    go true b e = absurd (cc)
    go false true e = absurd (cc)
    go false false e = cc

fed_number : (mine : ℕ → Response → Bool) (n : ℕ) (fed : Fed) (k : ℕ) (m : List ℕ) → fed_arrival mine n fed ≡ Answer k m → k ≡ n
fed_number mine n (feds.Whole body) k m e = response_number mine n body.items (response_of body.items) k m e
fed_number mine n feds.Partial k m e = absurd (cc)
fed_number mine n (feds.Dropped reason) k m e = absurd (cc)

-- ---- what is remembered
-- one that is let go now, and one that was already or is still kept
outlined_then : (pace : Pace) (count n : ℕ) (memo : Memo)
    → outline_if (n + kept pace == count) (outline_if (not (is_kept pace count n)) (Some memo)) ≡ outline_if (not (is_kept pace (count + 1) n)) (Some memo)
outlined_then pace count n memo = go (cases_eq (n + kept pace) count)
  where
    go : (n + kept pace ≡ count) ⊎ (n + kept pace ≡ count → ⊥)
        → outline_if (n + kept pace == count) (outline_if (not (is_kept pace count n)) (Some memo)) ≡ outline_if (not (is_kept pace (count + 1) n)) (Some memo)
    go (inl e) =
        ap (λ b. outline_if b (outline_if (not (is_kept pace count n)) (Some memo))) (eq-eqb (n + kept pace) count e)
        ∙ ap (λ b. option_map outline (outline_if (not b) (Some memo))) (le-leb count (n + kept pace) (omega (arith, e)))
        ∙ ap (λ b. outline_if (not b) (Some memo)) (sym (not_kept_then pace count n e))
    go (inr other) =
        ap (λ b. outline_if b (outline_if (not (is_kept pace count n)) (Some memo))) (ne_eqb (n + kept pace) count other)
        ∙ ap (λ b. outline_if (not b) (Some memo)) (kept_then pace count n other)

module _ (own device : ℕ) (pace : Pace) (a : Requests) where
  memo_there : (n : ℕ) → is_recent a.count n ≡ true → memo_at own device pace a n ≡ outline_if (not (is_kept pace a.count n)) (Some (memo_of own device a n))
  memo_there n e = cond-true (is_recent a.count n) _ _ e

  -- a test that only open requests pass is decided by what is remembered
  passes_is : (test : Course → Bool) → ((course : Course) → test course ≡ true → is_open course ≡ true) → Recent a → (n : ℕ) → passes test (memo_at own device pace a n) ≡ test (a.each n).course
  passes_is test opens f n = go (is_recent a.count n) refl
    where
      shut : is_recent a.count n ≡ false → (test (a.each n).course ≡ true) ⊎ (test (a.each n).course ≡ false) → false ≡ test (a.each n).course
      shut old (inl e) =
          let b = within a n f (opens (a.each n).course e) in
          let wrong : true ≡ false = sym (recent_from a.count n b.0 (omega (arith, b.1))) ∙ old in
          absurd (cc)
      shut old (inr e) = sym e

      go : (b : Bool) → is_recent a.count n ≡ b → passes test (cond b (outline_if (not (is_kept pace a.count n)) (Some (memo_of own device a n))) None) ≡ test (a.each n).course
      go true r = passes_outlined test opens (not (is_kept pace a.count n)) (Some (memo_of own device a n))
      go false r = shut r (cases_Bool (test (a.each n).course))

  open_in_is : Recent a → (n : ℕ) → passes is_open (memo_at own device pace a n) ≡ is_open_at a n
  open_in_is f n = passes_is is_open (λ course e. e) f n

-- ---- the numbers that pass
filter_past : (test : ℕ → Bool) (start n m : ℕ) → ((k : ℕ) → k < start + n → test k ≡ false) → filter test (range_with_len start (n + m)) ≡ filter test (range_with_len (start + n) m)
filter_past test start zero m shut =
    let none : 0 + m ≡ m = omega arith in
    let here : start ≡ start + 0 = omega arith in
    ap (λ k. filter test (range_with_len start k)) none ∙ ap (λ k. filter test (range_with_len k m)) here
filter_past test start (suc n) m shut =
    let more : suc n + m ≡ suc (n + m) = omega arith in
    let next : start + 1 + n ≡ start + suc n = omega arith in
    ap (λ k. filter test (range_with_len start k)) more
    ∙ cond-false (test start) (start ∷ filter test (range_with_len (start + 1) (n + m))) (filter test (range_with_len (start + 1) (n + m))) (shut start (omega arith))
    ∙ filter_past test (start + 1) n m (λ k l. shut k (omega arith))
    ∙ ap (λ k. filter test (range_with_len k m)) next

filter_recent : (test : ℕ → Bool) (count : ℕ) → ((n : ℕ) → n + 8 < count → test n ≡ false) → filter test (recent_numbers count) ≡ filter test (range_with_len 0 count)
filter_recent test count shut =
    let all : count ≡ (count - 8) + (count - (count - 8)) = omega arith in
    let none : 0 + (count - 8) ≡ count - 8 = omega arith in
    sym (
    ap (λ k. filter test (range_with_len 0 k)) all
    ∙ filter_past test 0 (count - 8) (count - (count - 8)) (λ k l. shut k (omega arith))
    ∙ ap (λ k. filter test (range_with_len k (count - (count - 8)))) none)

numbers_is : (own device : ℕ) (pace : Pace) (a : Requests) (test : Course → Bool) → ((course : Course) → test course ≡ true → is_open course ≡ true) → Recent a
    → filter (λ n. passes test (memo_at own device pace a n)) (recent_numbers a.count) ≡ numbers_of test a
numbers_is own device pace a test opens f =
    (λ i. filter (λ n. passes_is own device pace a test opens f n i) (recent_numbers a.count))
    ∙ filter_recent (λ n. test (a.each n).course) a.count (λ n l. shut n (f.closed n l) (cases_Bool (test (a.each n).course)))
  where
    shut : (n : ℕ) → is_open_at a n ≡ false → (test (a.each n).course ≡ true) ⊎ (test (a.each n).course ≡ false) → test (a.each n).course ≡ false
    shut n closed (inl e) = let wrong : true ≡ false = sym (opens (a.each n).course e) ∙ closed in absurd (cc)
    shut n closed (inr e) = e

pub few_are_open : FewAreOpen
few_are_open own device timing pace before =
    let a = requests own device timing pace before in
    let f = recent own device timing pace before in
    let same = filter_recent (λ n. is_open (a.each n).course) a.count f.closed in
    let all = length-filter (λ n. is_open (a.each n).course) (recent_numbers a.count) in
    let some = count_by-le-length (λ n. is_open (a.each n).course) (recent_numbers a.count) in
    let long = length-range_with_len (a.count - 8) (a.count - (a.count - 8)) in
    subst (λ xs. length xs ≤ 8) same (omega (arith, all, some, long))

-- ---- what these requests leave, with any open messages and last moment
module _ (own device : ℕ) (timing : Timing) (pace : Pace) where
  abbrev left_by : assembling.OpenMessages → ℕ → Requests → RequesterState
  left_by open_messages last a = record {
    own = own;
    device = device;
    timing = timing;
    pace = pace;
    count = a.count;
    remembered = memo_at own device pace a;
    open_messages = open_messages;
    last = last;
  }

  held_is : (held : RequesterState) (before : List Call) → IsLeftBy own device timing pace held before → held ≡ left_by held.open_messages held.last (requests own device timing pace before)
  held_is held before left =
      λ i. record {
        own = left.endpoint i;
        device = left.peer i;
        timing = left.times i;
        pace = left.paced i;
        count = left.count i;
        remembered = λ n. left.remembered n i;
        open_messages = held.open_messages;
        last = held.last;
      }

  record Leaves (held : RequesterState) (a : Requests) (packets : List histories.Call) (moment : ℕ) : Type 0 where
    endpoint : held.own ≡ own
    peer : held.device ≡ device
    times : held.timing ≡ timing
    paced : held.pace ≡ pace
    count : held.count ≡ a.count
    remembered : (n : ℕ) → held.remembered n ≡ memo_at own device pace a n
    open_messages : histories.IsLeftBy held.open_messages packets
    last : held.last ≡ moment

  leaves_calls : (held : RequesterState) (before : List Call) → Leaves held (requests own device timing pace before) (assembled own device timing pace before) (last_moment own device timing pace before) → IsLeftBy own device timing pace held before
  leaves_calls held before l = record {
    endpoint = l.endpoint;
    peer = l.peer;
    times = l.times;
    paced = l.paced;
    count = l.count;
    remembered = l.remembered;
    open_messages = l.open_messages;
    last = l.last;
  }

  -- ---- an open
  tag_is : (open_messages : assembling.OpenMessages) (last : ℕ) (a : Requests) → Recent a → steps.is_tag_in_use (left_by open_messages last a) ≡ calls.is_tag_in_use a
  tag_is open_messages last a f = ap (λ b. nat_le 8 a.count && b) (open_in_is own device pace a f (a.count - 8))

  -- how many of the others that are remembered were answered
  since_is : (open_messages : assembling.OpenMessages) (last : ℕ) (a : Requests) (opening : ℕ)
      → answered_after pace opening (steps.courses_since (left_by open_messages last a)) ≡ answered_after pace opening (newest (course_at a) a.count 31)
  since_is open_messages last a opening =
      counted_same (is_answered_from (opening + pace.lifetime)) (λ n. course_of (memo_at own device pace a n)) (course_at a) a.count 31
      (λ n l near. ap (λ o. is_answered_from (opening + pace.lifetime) (course_of o)) (memo_there own device pace a n (recent_from a.count n l (omega arith)))
      ∙ answered_outlined (opening + pace.lifetime) (not (is_kept pace a.count n)) (Some (memo_of own device a n)))

  -- a test of the opening of one that is remembered is a test of its opening
  passes_there : (a : Requests) (test : ℕ → Bool) (n : ℕ) → n < a.count → a.count ≤ n + 32 → passes (λ course. test course.opening) (memo_at own device pace a n) ≡ test (course_at a n).opening
  passes_there a test n l near =
      ap (passes (λ course. test course.opening)) (memo_there own device pace a n (recent_from a.count n l near))
      ∙ opening_outlined test (not (is_kept pace a.count n)) (Some (memo_of own device a n))

  before_is : (open_messages : assembling.OpenMessages) (last : ℕ) (a : Requests) (moment : ℕ) → steps.has_id_before (left_by open_messages last a) moment ≡ calls.has_id_before timing.keep pace a moment
  before_is open_messages last a moment = go (nat_le 32 a.count) refl
    where
      test : List Course → ℕ → Bool
      test since opening = is_too_soon timing.keep pace moment opening since

      seen : List Course
      seen = steps.courses_since (left_by open_messages last a)

      opening : ℕ
      opening = (course_at a (a.count - 32)).opening

      go : (b : Bool) → nat_le 32 a.count ≡ b
          → (b && passes (λ before. test seen before.opening) (memo_at own device pace a (a.count - 32))) ≡ (b && test (newest (course_at a) a.count 31) opening)
      go true e =
          let many = leb-true 32 a.count e in
          passes_there a (test seen) (a.count - 32) (omega arith) (omega arith)
          ∙ ap (λ n. nat_lt moment (opening + 2 * pace.lifetime) || (nat_lt moment (opening + 2 * timing.keep) && nat_lt n pace.window)) (since_is open_messages last a opening)
      go false e = refl

  many_is : (open_messages : assembling.OpenMessages) (last : ℕ) (a : Requests) (moment : ℕ) → steps.has_many_before (left_by open_messages last a) moment ≡ calls.has_many_before pace a moment
  many_is open_messages last a moment = go (nat_lt 0 (stride pace) && nat_le (stride pace) a.count) refl
    where
      go : (b : Bool) → (nat_lt 0 (stride pace) && nat_le (stride pace) a.count) ≡ b
          → (b && passes (is_crowded pace moment) (memo_at own device pace a (a.count - stride pace))) ≡ (b && is_crowded pace moment (course_at a (a.count - stride pace)))
      go true e =
          let parts = and_parts (nat_lt 0 (stride pace)) (nat_le (stride pace) a.count) e in
          let some = ltb-true 0 (stride pace) parts.0 in
          let many = leb-true (stride pace) a.count parts.1 in
          let few = stride_range pace in
          passes_there a (λ opening. nat_lt moment (opening + pace.lifetime)) (a.count - stride pace) (omega arith) (omega arith)
      go false e = refl

  id_is : (open_messages : assembling.OpenMessages) (last : ℕ) (a : Requests) (moment : ℕ) → steps.is_id_in_use (left_by open_messages last a) moment ≡ calls.is_id_in_use timing.keep pace a moment
  id_is open_messages last a moment = λ i. before_is open_messages last a moment i || many_is open_messages last a moment i

  answer_is : (open_messages : assembling.OpenMessages) (last : ℕ) (a : Requests) (moment : ℕ) → Recent a
      → opening_answer (left_by open_messages last a) moment ≡ open_answer (calls.is_tag_in_use a) (calls.is_id_in_use timing.keep pace a moment) a.count
  answer_is open_messages last a moment f = λ i. open_answer (tag_is open_messages last a f i) (id_is open_messages last a moment i) a.count

  accepts_is : (open_messages : assembling.OpenMessages) (last : ℕ) (a : Requests) (moment : ℕ) → Recent a → steps.accepts (left_by open_messages last a) moment ≡ calls.accepts timing.keep pace a moment
  accepts_is open_messages last a moment f = λ i. not (tag_is open_messages last a f i) && not (id_is open_messages last a moment i)

  memo_opened : (a : Requests) (moment : ℕ) (ask : Ask) (n : ℕ) (new : Memo) → new ≡ memo_of own device (opened_for a moment ask) a.count
      → cond (n == a.count) (Some new) (cond (is_recent (a.count + 1) n) (outline_if (n + kept pace == a.count) (memo_at own device pace a n)) None) ≡ memo_at own device pace (opened_for a moment ask) n
  memo_opened a moment ask n new is = go (cases_eq n a.count) (is_recent (suc a.count) n) refl
    where
      one : a.count + 1 ≡ suc a.count
      one = omega arith

      go : (n ≡ a.count) ⊎ (n ≡ a.count → ⊥) → (t : Bool) → is_recent (suc a.count) n ≡ t
          → cond (n == a.count) (Some new) (cond (is_recent (a.count + 1) n) (outline_if (n + kept pace == a.count) (memo_at own device pace a n)) None)
          ≡ cond t (outline_if (not (is_kept pace (suc a.count) n)) (Some (memo_of own device (opened_for a moment ask) n))) None
      go (inl same) true r =
          cond-true (n == a.count) _ _ (eq-eqb n a.count same) ∙ ap Some (is ∙ ap (memo_of own device (opened_for a moment ask)) (sym same))
          ∙ ap (λ b. outline_if (not b) (Some (memo_of own device (opened_for a moment ask) n))) (sym (kept_new pace (suc a.count) n (omega (arith, same))))
      go (inl same) false r =
          let here : is_recent (suc a.count) n ≡ true = recent_from (suc a.count) n (omega arith) (omega arith) in absurd (cc)
      go (inr other) true r =
          let p = recent_parts (suc a.count) n r in
          cond-false (n == a.count) _ _ (ne_eqb n a.count other)
          ∙ ap (λ k. cond (is_recent k n) (outline_if (n + kept pace == a.count) (memo_at own device pace a n)) None) one
          ∙ cond-true (is_recent (suc a.count) n) _ _ r
          ∙ ap (outline_if (n + kept pace == a.count)) (memo_there own device pace a n (recent_from a.count n (omega (arith, p.0, other)) (omega (arith, p.1))))
          ∙ outlined_then pace a.count n (memo_of own device a n)
          ∙ ap (λ k. outline_if (not (is_kept pace k n)) (Some (memo_of own device a n))) one
          ∙ ap (λ (x : Request). outline_if (not (is_kept pace (suc a.count) n)) (Some (record { kind = x.ask.kind; packets = packets_with own device n x.ask; course = x.course; is_whole = true }))) (sym (put_other a.each a.count (request_with moment ask) n other))
      go (inr other) false r =
          cond-false (n == a.count) _ _ (ne_eqb n a.count other)
          ∙ ap (λ k. cond (is_recent k n) (outline_if (n + kept pace == a.count) (memo_at own device pace a n)) None) one
          ∙ cond-false (is_recent (suc a.count) n) _ _ r

  opened_leaves : (looks : assembly.ForgetLooksBack) (open_messages : assembling.OpenMessages) (last : ℕ) (a : Requests) (packets : List histories.Call) (moment : ℕ) (ask : Ask) → histories.IsLeftBy open_messages packets
      → Leaves (opened_with (left_by open_messages last a) moment ask) (opened_for a moment ask) (histories.forget (answer_key device (tag_of a.count)) ∷ packets) moment
  opened_leaves looks open_messages last a packets moment ask left = record {
    endpoint = refl;
    peer = refl;
    times = refl;
    paced = refl;
    count = omega arith;
    remembered = λ n. memo_opened a moment ask n _ (ap (λ (x : Request). record { kind = x.ask.kind; packets = packets_with own device a.count x.ask; course = x.course; is_whole = true }) (sym (put_here a.each a.count (request_with moment ask) a.count refl)));
    open_messages = looks MAX_PACKETS open_messages packets (answer_key device (tag_of a.count)) left;
    last = refl;
  }

  -- ---- a tick
  abbrev memo_from : ℕ → Ask → Course → ℕ → Option Memo
  memo_from count ask course n =
      if is_recent count n
      then outline_if (not (is_kept pace count n)) (Some (record { kind = ask.kind; packets = packets_with own device n ask; course = course; is_whole = true }))
      else None

  -- the change is of one that is kept whole, or of its outline too
  abbrev Keeps : (Course → Course) → Course → Bool → Type 0
  Keeps change course is_kept = is_kept ≡ false → change (without_answer course) ≡ without_answer (change course)

  map_from : (count : ℕ) (ask : Ask) (course : Course) (change : Course → Course) (n : ℕ) → Keeps change course (is_kept pace count n) → option_map (with_course change) (memo_from count ask course n) ≡ memo_from count ask (change course) n
  map_from count ask course change n keeps = go (is_recent count n) (is_kept pace count n) keeps
    where
      memo : Course → Memo
      memo course = record { kind = ask.kind; packets = packets_with own device n ask; course = course; is_whole = true }

      go : (b k : Bool) → Keeps change course k → option_map (with_course change) (if b then outline_if (not k) (Some (memo course)) else None)
          ≡ (if b then outline_if (not k) (Some (memo (change course))) else None)
      go true true keeps = refl
      go true false keeps = ap (λ (c : Course). Some (record { kind = ask.kind; packets = []; course = c; is_whole = false })) (keeps refl)
      go false k keeps = refl

  memo_same : (a b : Requests) (n : ℕ) → a.count ≡ b.count → (a.each n).ask ≡ (b.each n).ask → (a.each n).course ≡ (b.each n).course → memo_at own device pace a n ≡ memo_at own device pace b n
  memo_same a b n count ask course = λ i. memo_from (count i) (ask i) (course i) n

  memo_changed : (a b : Requests) (change : Course → Course) (n : ℕ) → Keeps change (a.each n).course (is_kept pace a.count n) → a.count ≡ b.count → (a.each n).ask ≡ (b.each n).ask → change (a.each n).course ≡ (b.each n).course
      → option_map (with_course change) (memo_at own device pace a n) ≡ memo_at own device pace b n
  memo_changed a b change n keeps count ask course =
      map_from a.count (a.each n).ask (a.each n).course change n keeps ∙ (λ i. memo_from (count i) (ask i) (course i) n)

  tick_leaves : (open_messages : assembling.OpenMessages) (last : ℕ) (a : Requests) (packets : List histories.Call) (moment : ℕ) → histories.IsLeftBy open_messages packets
      → Leaves (ticked_held (left_by open_messages last a) moment) (record { count = a.count; each = λ n. ticked_request own device timing moment (a.each n) }) packets moment
  tick_leaves open_messages last a packets moment left = record {
    endpoint = refl;
    peer = refl;
    times = refl;
    paced = refl;
    count = refl;
    remembered = λ n. memo_changed a (record { count = a.count; each = λ k. ticked_request own device timing moment (a.each k) }) (ticked timing moment) n (λ _. ticked_still timing moment (a.each n).course) refl refl refl;
    open_messages = left;
    last = refl;
  }

  -- ---- a packet
  goes_is : (open_messages : assembling.OpenMessages) (last : ℕ) (a : Requests) → Recent a → (p : Packet) → p.route.tag < 8 → steps.goes_to (left_by open_messages last a) p ≡ calls.goes_to own device timing a p
  goes_is open_messages last a f p small =
      ap (λ o. if is_from_device device p then o else None) ((λ i. where_open (λ n. open_in_is own device pace a f n i) (latest_on a.count p.route.tag)) ∙ latest_is (is_open_at a) a.count f.closed p.route.tag small)

  passed_is : (open_messages : assembling.OpenMessages) (last : ℕ) (a : Requests) → Recent a → (read : Result Packet Reason) → ((p : Packet) → read ≡ Ok p → p.route.tag < 8)
      → where_expected (steps.expects (left_by open_messages last a)) read ≡ where_expected (λ p. is_some (calls.goes_to own device timing a p)) read
  passed_is open_messages last a f (Err reason) small = refl
  passed_is open_messages last a f (Ok p) small = ap (λ o. if is_some o then Ok p else Err BadTag) (goes_is open_messages last a f p (small p refl))

  response_same : (mine other : ℕ → Response → Bool) (n : ℕ) (message : List ℕ) (read : Result Response Reason) → ((response : Response) → mine n response ≡ other n response) → response_arrival mine n message read ≡ response_arrival other n message read
  response_same mine other n message (Err reason) same = refl
  response_same mine other n message (Ok response) same = ap (λ b. if not b then Drop NotMine else (if response.code == 4 then Drop NotReady else Answer n message)) (same response)

  fed_same : (mine other : ℕ → Response → Bool) (n : ℕ) (fed : Fed) → ((response : Response) → mine n response ≡ other n response) → fed_arrival mine n fed ≡ fed_arrival other n fed
  fed_same mine other n (feds.Whole body) same = response_same mine other n body.items (response_of body.items) same
  fed_same mine other n feds.Partial same = refl
  fed_same mine other n (feds.Dropped reason) same = refl

  module _ (looks : assembly.FeedLooksBack) (open_messages : assembling.OpenMessages) (last : ℕ) (before : List Call) (left : histories.IsLeftBy open_messages (assembled own device timing pace before)) where
    abbrev now : Requests
    now = requests own device timing pace before

    abbrev Goes : Packet → Type 0
    Goes p = (p.route.tag < 8) × ((n : ℕ) × (calls.goes_to own device timing now p ≡ Some n))

    arrived_is : (read : Result Packet Reason) → ((p : Packet) → read ≡ Ok p → Goes p)
        → arrived_by (left_by open_messages last now) read ≡ passed_arrival (calls.goes_to own device timing now) (calls.gives own device timing now) (calls.is_mine own device timing now) read
    arrived_is (Err reason) goes = refl
    arrived_is (Ok p) goes =
        let at = goes p refl in
        let n = at.1.0 in
        let comes = comes_to own device timing now p n at.1.1 in
        let near = within now n (recent own device timing pace before) comes.is_open in
        let memo = memo_there own device pace now n (recent_from now.count n near.0 (omega (arith, near.1))) in
        let gives = (looks MAX_PACKETS open_messages (assembled own device timing pace before) p (lit≤ tt) left).0 ∙ ap (λ packets. rows.next packets p) (ap (λ key. histories.since key (assembled own device timing pace before)) comes.key ∙ fed_since own device timing pace before n comes.is_open) in
        ap (λ o. packet_arrival (steps.goes_to (left_by open_messages last now)) (λ number q. assembling.answer open_messages q) (steps.is_mine (left_by open_messages last now)) o p) (goes_is open_messages last now (recent own device timing pace before) p at.0 ∙ at.1.1)
        ∙ ap (fed_arrival (steps.is_mine (left_by open_messages last now)) n) gives
        ∙ fed_same (steps.is_mine (left_by open_messages last now)) (calls.is_mine own device timing now) n (calls.gives own device timing now n p) (λ response. ap (λ o. is_mine_by n o response) memo ∙ mine_outlined n (not (is_kept pace now.count n)) (Some (memo_of own device now n)) response)
        ∙ sym (ap (λ o. packet_arrival (calls.goes_to own device timing now) (calls.gives own device timing now) (calls.is_mine own device timing now) o p) at.1.1)

    -- what is answered is open, and so kept whole
    abbrev AnswersKept : Arrival → Type 0
    AnswersKept arrival = (n : ℕ) (message : List ℕ) → arrival ≡ Answer n message → is_kept pace now.count n ≡ true

    answers_kept : (read : Result Packet Reason) → ((p : Packet) → read ≡ Ok p → Goes p) → AnswersKept (passed_arrival (calls.goes_to own device timing now) (calls.gives own device timing now) (calls.is_mine own device timing now) read)
    answers_kept (Err reason) goes n message e = absurd (cc)
    answers_kept (Ok p) goes n message e =
        let at = goes p refl in
        let comes = comes_to own device timing now p at.1.0 at.1.1 in
        let near = within now at.1.0 (recent own device timing pace before) comes.is_open in
        let same = fed_number (calls.is_mine own device timing now) at.1.0 (calls.gives own device timing now at.1.0 p) n message
        (sym (ap (λ o. packet_arrival (calls.goes_to own device timing now) (calls.gives own device timing now) (calls.is_mine own device timing now) o p) at.1.1) ∙ e) in
        kept_new pace now.count n (omega (arith, near.1, same))

    remembered_is : (read : Result Packet Reason) (arrival : Arrival) (k : ℕ) → AnswersKept arrival
        → remembered_after (left_by open_messages last now) arrival k ≡ memo_at own device pace (answered_by own device timing (fed_by own device timing now read) arrival) k
    remembered_is read (Drop reason) k kept = memo_same now (fed_by own device timing now read) k (sym (came_count own device timing now read)) (sym (came_ask own device timing now read k)) (sym (came_course own device timing now read k))
    remembered_is read Part k kept = memo_same now (fed_by own device timing now read) k (sym (came_count own device timing now read)) (sym (came_ask own device timing now read k)) (sym (came_course own device timing now read k))
    remembered_is read (Answer n message) k kept = go (cases_eq k n)
      where
        after : Requests
        after = answered_by own device timing (fed_by own device timing now read) (Answer n message)

        go : (k ≡ n) ⊎ (k ≡ n → ⊥) → cond (k == n) (option_map (with_course (answered message)) (memo_at own device pace now k)) (memo_at own device pace now k) ≡ memo_at own device pace (answered_by own device timing (fed_by own device timing now read) (Answer n message)) k
        go (inl same) =
            let here = put_here (fed_by own device timing now read).each n (record { ask = ((fed_by own device timing now read).each n).ask; course = answered message ((fed_by own device timing now read).each n).course; fed = ((fed_by own device timing now read).each n).fed }) k same in
            cond-true (k == n) _ _ (eq-eqb k n same)
            ∙ memo_changed now (answered_by own device timing (fed_by own device timing now read) (Answer n message)) (answered message) k (λ other. let wrong : true ≡ false = sym (kept n message refl) ∙ ap (is_kept pace now.count) (sym same) ∙ other in absurd (cc)) (sym (came_count own device timing now read))
            (sym (ap (λ (r : Request). r.ask) here ∙ came_ask own device timing now read n ∙ ap (λ i. (now.each i).ask) (sym same)))
            (sym (ap (λ (r : Request). r.course) here ∙ ap (answered message) (came_course own device timing now read n ∙ ap (λ i. (now.each i).course) (sym same))))
        go (inr other) =
            let there = put_other (fed_by own device timing now read).each n (record { ask = ((fed_by own device timing now read).each n).ask; course = answered message ((fed_by own device timing now read).each n).course; fed = ((fed_by own device timing now read).each n).fed }) k other in
            cond-false (k == n) _ _ (ne_eqb k n other)
            ∙ memo_same now (answered_by own device timing (fed_by own device timing now read) (Answer n message)) k (sym (came_count own device timing now read))
            (sym (ap (λ (r : Request). r.ask) there ∙ came_ask own device timing now read k))
            (sym (ap (λ (r : Request). r.course) there ∙ came_course own device timing now read k))

    opens_is : (read : Result Packet Reason) → histories.IsLeftBy (open_after open_messages read) (with_packet own device timing read (assembled own device timing pace before))
    opens_is (Err reason) = left
    opens_is (Ok p) = (looks MAX_PACKETS open_messages (assembled own device timing pace before) p (lit≤ tt) left).1

    came_leaves : (read : Result Packet Reason) (moment : ℕ) → ((p : Packet) → read ≡ Ok p → Goes p)
        → Leaves (record (held_by (left_by open_messages last now) read) { last = moment }) (came_by own device timing now read) (with_packet own device timing read (assembled own device timing pace before)) moment
    came_leaves read moment goes = record {
      endpoint = refl;
      peer = refl;
      times = refl;
      paced = refl;
      count = sym (came_by_count own device timing now read);
      remembered = λ k. ap (λ arrival. remembered_after (left_by open_messages last now) arrival k) (arrived_is read goes)
          ∙ remembered_is read (passed_arrival (calls.goes_to own device timing now) (calls.gives own device timing now) (calls.is_mine own device timing now) read) k (answers_kept read goes);
      open_messages = opens_is read;
      last = refl;
    }

  calls_leave : (held : RequesterState) (before : List Call) → IsLeftBy own device timing pace held before → Leaves held (requests own device timing pace before) (assembled own device timing pace before) (last_moment own device timing pace before)
  calls_leave held before left = record {
    endpoint = left.endpoint;
    peer = left.peer;
    times = left.times;
    paced = left.paced;
    count = left.count;
    remembered = left.remembered;
    open_messages = left.open_messages;
    last = left.last;
  }

  -- an open that is accepted, or not
  module _ (held : RequesterState) (before : List Call) (moment : ℕ) (ask : Ask) where
    abbrev requests_by : Bool → Requests
    requests_by b = cond b (opened_for (requests own device timing pace before) moment ask) (requests own device timing pace before)

    abbrev packets_by : Bool → List histories.Call
    packets_by b = cond b (histories.forget (answer_key device (tag_of (requests own device timing pace before).count)) ∷ assembled own device timing pace before) (assembled own device timing pace before)

    abbrev last_by : Bool → ℕ
    last_by b = cond b moment (last_moment own device timing pace before)

    open_leaves : (b : Bool) → calls.accepts timing.keep pace (requests own device timing pace before) moment ≡ b → Leaves held (requests_by b) (packets_by b) (last_by b) → IsLeftBy own device timing pace held (OpenRequest moment ask ∷ before)
    open_leaves b is l = leaves_calls held (OpenRequest moment ask ∷ before) (subst (λ t. Leaves held (requests_by t) (packets_by t) (last_by t)) (sym is) l)

pub open_looks_back : assembly.ForgetLooksBack → OpenLooksBack
open_looks_back looks own device timing pace held before moment ask left =
    let a = requests own device timing pace before in
    let f = recent own device timing pace before in
    let same = held_is own device timing pace held before left in
    let accepted = ap (λ h. steps.accepts h moment) same ∙ accepts_is own device timing pace held.open_messages held.last a moment f in (
      ap (λ h. opening_answer h moment) same ∙ answer_is own device timing pace held.open_messages held.last a moment f,
      accepted,
      λ ok. subst (λ h. IsLeftBy own device timing pace (opened_with h moment ask) (OpenRequest moment ask ∷ before)) (sym same)
          (open_leaves own device timing pace (opened_with (left_by own device timing pace held.open_messages held.last a) moment ask) before moment ask true (sym accepted ∙ ok) (opened_leaves own device timing pace looks held.open_messages held.last a (assembled own device timing pace before) moment ask left.open_messages)),
      λ refused. open_leaves own device timing pace held before moment ask false (sym accepted ∙ refused) (calls_leave own device timing pace held before left),
    )

pub tick_looks_back : TickLooksBack
tick_looks_back own device timing pace held before moment left =
    let a = requests own device timing pace before in
    let f = recent own device timing pace before in
    let same = held_is own device timing pace held before left in (
      ap (λ h. again_at h moment) same ∙ numbers_is own device pace a (is_sent_again timing moment) (sent_again_open timing moment) f,
      ap (λ h. given_up_at h moment) same ∙ numbers_is own device pace a (is_given_up timing moment) (given_up_open timing moment) f,
      subst (λ h. IsLeftBy own device timing pace (ticked_held h moment) (Tick moment ∷ before)) (sym same)
          (leaves_calls own device timing pace (ticked_held (left_by own device timing pace held.open_messages held.last a) moment) (Tick moment ∷ before) (tick_leaves own device timing pace held.open_messages held.last a (assembled own device timing pace before) moment left.open_messages)),
    )

-- a packet that is read has a tag
tag_by : (o : Option Reason) (q p : Packet) → q.route.tag < 8 → unless o q ≡ Ok p → p.route.tag < 8
tag_by None q p small e = let same : q ≡ p = cc in subst (λ (x : Packet). x.route.tag < 8) same small
tag_by (Some reason) q p small e = absurd (cc)

read_tag : (own : ℕ) (bytes : List ℕ) (p : Packet) → reading (Some own) bytes ≡ Ok p → p.route.tag < 8
read_tag own bytes p e = tag_by (refusal (Some own) bytes) (packet_of bytes) p (omega arith) e

pub receive_looks_back : assembly.FeedLooksBack → ReceiveLooksBack
receive_looks_back looks own device timing pace held before moment bytes left =
    let a = requests own device timing pace before in
    let f = recent own device timing pace before in
    let same = held_is own device timing pace held before left in
    let read = calls.passed own device timing a bytes in
    let goes : (p : Packet) → read ≡ Ok p → (p.route.tag < 8) × ((n : ℕ) × (calls.goes_to own device timing a p ≡ Some n)) =
    λ p e. (read_tag own bytes p (expected (λ q. is_some (calls.goes_to own device timing a q)) (reading (Some own) bytes) p e).1, goes_where own device timing a bytes p e) in
    let passed = passed_is own device timing pace held.open_messages held.last a f (reading (Some own) bytes) (read_tag own bytes) in
    let h0 = left_by own device timing pace held.open_messages held.last a in (
      ap (λ h. got_at h bytes) same ∙ ap (λ r. got_of (arrived_by h0 r)) passed ∙ ap got_of (arrived_is own device timing pace looks held.open_messages held.last before left.open_messages read goes),
      subst (λ h. IsLeftBy own device timing pace (received_held h moment bytes) (Receive moment bytes ∷ before)) (sym same)
          (leaves_calls own device timing pace (received_held h0 moment bytes) (Receive moment bytes ∷ before)
          (subst (λ r. Leaves own device timing pace (record (held_by h0 r) { last = moment }) (came_by own device timing a read) (with_packet own device timing read (assembled own device timing pace before)) moment) (sym passed)
          (came_leaves own device timing pace looks held.open_messages held.last before left.open_messages read moment goes))),
    )

pub new_looks_back : assembly.NewLooksBack → NewLooksBack
new_looks_back looks own device timing pace = record {
  endpoint = refl;
  peer = refl;
  times = refl;
  paced = refl;
  count = refl;
  remembered = λ n. sym (cond-false (is_recent 0 n) _ _ (and_left (nat_lt n 0) _ (le-ltb n 0 (omega arith))));
  open_messages = looks MAX_PACKETS;
  last = refl;
}

pub same_is_left : SameIsLeft
same_is_left own device timing pace new held before same left = record {
  endpoint = same.own ∙ left.endpoint;
  peer = same.device ∙ left.peer;
  times = same.timing ∙ left.times;
  paced = same.pace ∙ left.paced;
  count = same.count ∙ left.count;
  remembered = λ n. same.remembered n ∙ left.remembered n;
  open_messages = subst (λ x. histories.IsLeftBy x (assembled own device timing pace before)) (sym same.open_messages) left.open_messages;
  last = same.last ∙ left.last;
}
