-- Which requests are open: none that is not opened yet, and of the others the last eight alone.
use Rattle.std.proofs.Common.{◌≡◌, ◌⊎◌, ℕ, ◌+◌, ◌-◌, ◌<◌, ◌≤◌, true, false, cond, List, [], ◌∷◌, Option, Some, None, Result, Ok, Err, refl, sym, ap, ◌∙◌, subst, inl, inr, ⊎_elim, arith, eq-eqb}
use Rattle.std.specs.Prelude.{◌&&◌, ◌==◌, not, nat_le}
use Rattle.std.proofs.lemmas.Bool.{and_left, and_parts, and_cases, not-true, cases_lt, cases_eq, cond-true, cond-false, cond_both, leb-false, ne_eqb}
use Rattle.mctp_packet.specs.Packets.{Packet}
use Rattle.mctp_packet.specs.declared.reason.Reason.{Reason}
use Rattle.pldm_requester.specs.Asks.{Ask}
use Rattle.pldm_requester.specs.Arrivals.{Arrival, Drop, Part, Answer, passed_arrival}
use Rattle.pldm_requester.specs.Calls.{Call, OpenRequest, Tick, Receive, Request, Requests, none_yet, request_with, put, opened_for, is_open_at, is_tag_in_use, is_id_in_use, accepts, goes_to, passed, gives, is_mine, fed_to, fed_by, answered_by, received, after_call, requests}
use Rattle.pldm_requester.specs.Courses.{Course, Progress, Waiting, Answered, GaveUp, is_open, is_waiting, is_answered, has_answer, is_over, is_given_up, is_sent_again, given_up, sent_again, ticked}
use Rattle.pldm_requester.specs.Laws.{OpenAreRecent, OpenAreOpened, OneOnEachTag}
use Rattle.pldm_requester.specs.declared.pace.Pace.{Pace}
use Rattle.pldm_requester.specs.declared.timing.Timing.{Timing}

-- ---- one course
pub shut_stays : (timing : Timing) (moment : ℕ) (course : Course) → is_open course ≡ false → ticked timing moment course ≡ course
shut_stays timing moment course e =
    cond-false (is_given_up timing moment course) _ _ (and_left (is_open course) _ e)
    ∙ cond-false (is_sent_again timing moment course) _ _ (and_left (is_open course && not (is_over timing moment course)) _ (and_left (is_open course) _ e))

pub ticked_opening : (timing : Timing) (moment : ℕ) (course : Course) → (ticked timing moment course).opening ≡ course.opening
ticked_opening timing moment course =
    cond_both (is_given_up timing moment course) (given_up course) (cond (is_sent_again timing moment course) (sent_again moment course) course) (λ (c : Course). c.opening ≡ course.opening) (λ _. refl)
    (λ _. cond_both (is_sent_again timing moment course) (sent_again moment course) course (λ (c : Course). c.opening ≡ course.opening) (λ _. refl) (λ _. refl))

pub given_up_open : (timing : Timing) (moment : ℕ) (course : Course) → is_given_up timing moment course ≡ true → is_open course ≡ true
given_up_open timing moment course e = (and_parts (is_open course) (is_over timing moment course) e).0

pub sent_again_open : (timing : Timing) (moment : ℕ) (course : Course) → is_sent_again timing moment course ≡ true → is_open course ≡ true
sent_again_open timing moment course e =
    (and_parts (is_open course) (not (is_over timing moment course)) (and_parts (is_open course && not (is_over timing moment course)) _ e).0).0

answered_is_shut : (progress : Progress) → has_answer progress ≡ true → is_waiting progress ≡ false
answered_is_shut Waiting e = absurd (cc)
answered_is_shut (Answered message) e = refl
answered_is_shut GaveUp e = refl

pub ticked_answered : (timing : Timing) (moment : ℕ) (course : Course) → is_answered course ≡ true → is_answered (ticked timing moment course) ≡ true
ticked_answered timing moment course e =
    ap is_answered (shut_stays timing moment course (answered_is_shut course.progress e)) ∙ e

-- ---- another request in a place
pub put_here : (each : ℕ → Request) (n : ℕ) (r : Request) (k : ℕ) → k ≡ n → put each n r k ≡ r
put_here each n r k e = cond-true (k == n) _ _ (eq-eqb k n e)

pub put_other : (each : ℕ → Request) (n : ℕ) (r : Request) (k : ℕ) → (k ≡ n → ⊥) → put each n r k ≡ each k
put_other each n r k e = cond-false (k == n) _ _ (ne_eqb k n e)

-- what a change of one request keeps of it, it keeps of all
pub put_keeps : {A : Type 0} (f : Request → A) (each : ℕ → Request) (n : ℕ) (r : Request) (k : ℕ) → f r ≡ f (each n) → f (put each n r k) ≡ f (each k)
put_keeps f each n r k same =
    ⊎_elim
    (λ (e : k ≡ n). ap f (put_here each n r k e) ∙ same ∙ ap (λ i. f (each i)) (sym e))
    (λ (e : k ≡ n → ⊥). ap f (put_other each n r k e))
    (cases_eq k n)

-- ---- a packet
module _ (own device : ℕ) (timing : Timing) (a : Requests) where
  pub fed_course : (p : Packet) (o : Option ℕ) (k : ℕ) → ((fed_to own device timing a p o).each k).course ≡ (a.each k).course
  fed_course p None k = refl
  fed_course p (Some n) k = put_keeps (λ (r : Request). r.course) a.each n _ k refl

  pub fed_ask : (p : Packet) (o : Option ℕ) (k : ℕ) → ((fed_to own device timing a p o).each k).ask ≡ (a.each k).ask
  fed_ask p None k = refl
  fed_ask p (Some n) k = put_keeps (λ (r : Request). r.ask) a.each n _ k refl

  pub fed_count : (p : Packet) (o : Option ℕ) → (fed_to own device timing a p o).count ≡ a.count
  fed_count p None = refl
  fed_count p (Some n) = refl

  pub came_course : (read : Result Packet Reason) (k : ℕ) → ((fed_by own device timing a read).each k).course ≡ (a.each k).course
  came_course (Ok p) k = fed_course p (goes_to own device timing a p) k
  came_course (Err reason) k = refl

  pub came_ask : (read : Result Packet Reason) (k : ℕ) → ((fed_by own device timing a read).each k).ask ≡ (a.each k).ask
  came_ask (Ok p) k = fed_ask p (goes_to own device timing a p) k
  came_ask (Err reason) k = refl

  pub came_count : (read : Result Packet Reason) → (fed_by own device timing a read).count ≡ a.count
  came_count (Ok p) = fed_count p (goes_to own device timing a p)
  came_count (Err reason) = refl

  pub answered_shut : (arrival : Arrival) (k : ℕ) → is_open_at a k ≡ false → is_open_at (answered_by own device timing a arrival) k ≡ false
  answered_shut (Drop reason) k e = e
  answered_shut Part k e = e
  answered_shut (Answer n message) k e =
      ⊎_elim
      (λ (same : k ≡ n). ap (λ (r : Request). is_open r.course) (put_here a.each n _ k same))
      (λ (other : k ≡ n → ⊥). ap (λ (r : Request). is_open r.course) (put_other a.each n _ k other) ∙ e)
      (cases_eq k n)

  pub answered_opening : (arrival : Arrival) (k : ℕ) → ((answered_by own device timing a arrival).each k).course.opening ≡ (a.each k).course.opening
  answered_opening (Drop reason) k = refl
  answered_opening Part k = refl
  answered_opening (Answer n message) k = put_keeps (λ (r : Request). r.course.opening) a.each n _ k refl

  pub answered_stays : (arrival : Arrival) (k : ℕ) → is_answered (a.each k).course ≡ true → is_answered ((answered_by own device timing a arrival).each k).course ≡ true
  answered_stays (Drop reason) k e = e
  answered_stays Part k e = e
  answered_stays (Answer n message) k e =
      ⊎_elim
      (λ (same : k ≡ n). ap (λ (r : Request). is_answered r.course) (put_here a.each n _ k same))
      (λ (other : k ≡ n → ⊥). ap (λ (r : Request). is_answered r.course) (put_other a.each n _ k other) ∙ e)
      (cases_eq k n)

  pub answered_fed : (arrival : Arrival) (k : ℕ) → ((answered_by own device timing a arrival).each k).fed ≡ (a.each k).fed
  answered_fed (Drop reason) k = refl
  answered_fed Part k = refl
  answered_fed (Answer n message) k = put_keeps (λ (r : Request). r.fed) a.each n _ k refl

  pub answered_count : (arrival : Arrival) → (answered_by own device timing a arrival).count ≡ a.count
  answered_count (Drop reason) = refl
  answered_count Part = refl
  answered_count (Answer n message) = refl

-- what a packet that passed, or did not, leaves
module _ (own device : ℕ) (timing : Timing) (a : Requests) where
  abbrev pub came_by : Result Packet Reason → Requests
  came_by read = answered_by own device timing (fed_by own device timing a read) (passed_arrival (goes_to own device timing a) (gives own device timing a) (is_mine own device timing a) read)

  pub came_by_count : (read : Result Packet Reason) → (came_by read).count ≡ a.count
  came_by_count read = answered_count own device timing (fed_by own device timing a read) _ ∙ came_count own device timing a read

  pub came_by_shut : (read : Result Packet Reason) (k : ℕ) → is_open_at a k ≡ false → is_open_at (came_by read) k ≡ false
  came_by_shut read k e =
      answered_shut own device timing (fed_by own device timing a read) _ k (ap is_open (came_course own device timing a read k) ∙ e)

  pub came_by_opening : (read : Result Packet Reason) (k : ℕ) → ((came_by read).each k).course.opening ≡ (a.each k).course.opening
  came_by_opening read k =
      answered_opening own device timing (fed_by own device timing a read) _ k ∙ ap (λ (c : Course). c.opening) (came_course own device timing a read k)

  pub came_by_answered : (read : Result Packet Reason) (k : ℕ) → is_answered (a.each k).course ≡ true → is_answered ((came_by read).each k).course ≡ true
  came_by_answered read k e =
      answered_stays own device timing (fed_by own device timing a read) _ k (ap is_answered (came_course own device timing a read k) ∙ e)

-- ---- only the last eight that were opened
pub record Recent (a : Requests) : Type 0 where
  pub closed : (n : ℕ) → n + 8 < a.count → is_open_at a n ≡ false
  pub unopened : (n : ℕ) → a.count ≤ n → is_open_at a n ≡ false

pub within : (a : Requests) (n : ℕ) → Recent a → is_open_at a n ≡ true → (n < a.count) × (a.count ≤ n + 8)
within a n f e = (below (cases_lt n a.count), near (cases_lt (n + 8) a.count))
  where
    below : (n < a.count) ⊎ (a.count ≤ n) → n < a.count
    below (inl l) = l
    below (inr l) = let wrong : true ≡ false = sym e ∙ f.unopened n l in absurd (cc)

    near : (n + 8 < a.count) ⊎ (a.count ≤ n + 8) → a.count ≤ n + 8
    near (inl l) = let wrong : true ≡ false = sym e ∙ f.closed n l in absurd (cc)
    near (inr l) = l

recent_none : Recent none_yet
recent_none = record { closed = λ n l. refl; unopened = λ n l. refl }

tag_free : (a : Requests) → is_tag_in_use a ≡ false → (n : ℕ) → n + 8 ≡ a.count → is_open_at a n ≡ false
tag_free a free n e =
    ⊎_elim
    (λ (x : nat_le 8 a.count ≡ false). let i = leb-false 8 a.count x in absurd (omega arith))
    (λ (x : is_open_at a (a.count - 8) ≡ false). let i : a.count - 8 ≡ n = omega arith in subst (λ (k : ℕ). is_open_at a k ≡ false) i x)
    (and_cases (nat_le 8 a.count) _ free)

pub recent_opened : (a : Requests) (moment : ℕ) (ask : Ask) → Recent a → is_tag_in_use a ≡ false → Recent (opened_for a moment ask)
recent_opened a moment ask f free = record {
  closed = λ n l.
      let other : n ≡ a.count → ⊥ = λ e. omega arith in
      ap (λ (r : Request). is_open r.course) (put_other a.each a.count (request_with moment ask) n other)
      ∙ ⊎_elim (λ (e : n + 8 ≡ a.count). tag_free a free n e) (λ (e : n + 8 ≡ a.count → ⊥). f.closed n (omega arith)) (cases_eq (n + 8) a.count);
  unopened = λ n l.
      let other : n ≡ a.count → ⊥ = λ e. omega arith in
      ap (λ (r : Request). is_open r.course) (put_other a.each a.count (request_with moment ask) n other) ∙ f.unopened n (omega arith);
}

recent_same : (a b : Requests) → Recent a → b.count ≡ a.count → ((n : ℕ) → is_open_at a n ≡ false → is_open_at b n ≡ false) → Recent b
recent_same a b f same shut = record {
  closed = λ n l. shut n (f.closed n (omega (arith, same)));
  unopened = λ n l. shut n (f.unopened n (omega (arith, same)));
}

pub accepted_tag : (keep : ℕ) (pace : Pace) (a : Requests) (moment : ℕ) → accepts keep pace a moment ≡ true → is_tag_in_use a ≡ false
accepted_tag keep pace a moment ok =
    not-true _ (and_parts (not (is_tag_in_use a)) (not (is_id_in_use keep pace a moment)) ok).0

pub accepted_id : (keep : ℕ) (pace : Pace) (a : Requests) (moment : ℕ) → accepts keep pace a moment ≡ true → is_id_in_use keep pace a moment ≡ false
accepted_id keep pace a moment ok =
    not-true _ (and_parts (not (is_tag_in_use a)) (not (is_id_in_use keep pace a moment)) ok).1

module _ (own device : ℕ) (timing : Timing) (pace : Pace) where
  recent_after : (a : Requests) (call : Call) → Recent a → Recent (after_call own device timing pace a call)
  recent_after a (OpenRequest moment ask) f =
      cond_both (accepts timing.keep pace a moment) (opened_for a moment ask) a Recent (λ ok. recent_opened a moment ask f (accepted_tag timing.keep pace a moment ok)) (λ _. f)
  recent_after a (Tick moment) f =
      recent_same a (after_call own device timing pace a (Tick moment)) f refl (λ n shut. ap is_open (shut_stays timing moment (a.each n).course shut) ∙ shut)
  recent_after a (Receive moment bytes) f =
      recent_same a (received own device timing a bytes) f (came_by_count own device timing a (passed own device timing a bytes)) (λ n shut. came_by_shut own device timing a (passed own device timing a bytes) n shut)

  pub recent : (calls : List Call) → Recent (requests own device timing pace calls)
  recent [] = recent_none
  recent (call ∷ calls) = recent_after (requests own device timing pace calls) call (recent calls)

pub open_are_recent : OpenAreRecent
open_are_recent own device timing pace calls number l = (recent own device timing pace calls).closed number l

pub open_are_opened : OpenAreOpened
open_are_opened own device timing pace calls number l = (recent own device timing pace calls).unopened number l

pub one_on_each_tag : OneOnEachTag
one_on_each_tag own device timing pace calls number other g h same =
    let a = requests own device timing pace calls in
    let b = within a number (recent own device timing pace calls) g in
    let c = within a other (recent own device timing pace calls) h in
    omega (arith, b.0, b.1, c.0, c.1, same)
