-- What happened on the link, joined to what each requester was called with.
use Rattle.std.proofs.Common.{◌≡◌, ℕ, ◌<◌, ◌≤◌, List, ◌∷◌, Option, Some, None, Bool, true, false, Result, Ok, Err, refl, sym, ap, ◌∙◌, arith, eqb-true}
use Rattle.std.specs.Prelude.{◌==◌, if◌then◌else◌}
use Rattle.std.proofs.lemmas.Bool.{ne_eqb, cond-true, cond-false}
use Rattle.mctp_packet.specs.Packets.{Packet}
use Rattle.mctp_packet.specs.declared.reason.Reason.{Reason}
use Rattle.pldm_requester.specs.Arrivals.{Arrival, Drop, Part, Answer}
use Rattle.pldm_requester.specs.Asks.{Ask}
use Rattle.pldm_requester.specs.Calls.{Call, OpenRequest, Tick, Receive, Request, Requests, accepts, after_call, answered_by, arrived, fed_by, fed_to, goes_to, last_moment, opened_for, passed, received, requests, with_request}
use Rattle.pldm_requester.specs.Courses.{Course, is_given_up, is_sent_again, given_up, sent_again, ticked}
use Rattle.pldm_requester.specs.Laws.{moment_of}
use Rattle.pldm_requester.specs.declared.pace.Pace.{Pace}
use Rattle.pldm_requester.specs.declared.timing.Timing.{Timing}

-- what was opened stays as it was opened
pub record Grows (a b : Requests) : Type 0 where
  pub count : a.count ≤ b.count
  pub each : (n : ℕ) → n < a.count → (b.each n).course.opening ≡ (a.each n).course.opening

same_grows : (a : Requests) → Grows a a
same_grows a = record { count = omega arith; each = λ n within. refl }

both_grow : (a b c : Requests) → Grows a b → Grows b c → Grows a c
both_grow a b c x y = record {
  count = let p = x.count in let q = y.count in omega arith;
  each = λ n within. y.each n (let p = x.count in omega arith) ∙ x.each n within;
}

with_grows : (a : Requests) (number : ℕ) (request : Request) → request.course.opening ≡ (a.each number).course.opening → Grows a (with_request a number request)
with_grows a number request same = record { count = omega arith; each = λ n within. go n (n == number) refl }
  where
    go : (n : ℕ) (b : Bool) → (n == number) ≡ b → (if n == number then request else a.each n).course.opening ≡ (a.each n).course.opening
    go n true t = ap (λ (r : Request). r.course.opening) (cond-true (n == number) request (a.each n) t) ∙ same ∙ ap (λ m. (a.each m).course.opening) (sym (eqb-true n number t))
    go n false t = ap (λ (r : Request). r.course.opening) (cond-false (n == number) request (a.each n) t)

opened_grows : (a : Requests) (moment : ℕ) (ask : Ask) → Grows a (opened_for a moment ask)
opened_grows a moment ask = record {
  count = omega arith;
  each = λ n within. ap (λ (r : Request). r.course.opening) (cond-false (n == a.count) _ (a.each n) (ne_eqb n a.count (λ e. absurd (omega (arith, e)))));
}

module _ (own device : ℕ) (timing : Timing) (pace : Pace) where
  ticked_opening : (moment : ℕ) (course : Course) → (ticked timing moment course).opening ≡ course.opening
  ticked_opening moment course = go (is_given_up timing moment course) (is_sent_again timing moment course)
    where
      go : (b c : Bool) → (if b then given_up course else (if c then sent_again moment course else course)).opening ≡ course.opening
      go true c = refl
      go false true = refl
      go false false = refl

  fed_grows : (a : Requests) (p : Packet) (to : Option ℕ) → Grows a (fed_to own device timing a p to)
  fed_grows a p None = same_grows a
  fed_grows a p (Some n) = with_grows a n _ refl

  passed_grows : (a : Requests) (read : Result Packet Reason) → Grows a (fed_by own device timing a read)
  passed_grows a (Err reason) = same_grows a
  passed_grows a (Ok p) = fed_grows a p (goes_to own device timing a p)

  answered_grows : (a : Requests) (arrival : Arrival) → Grows a (answered_by own device timing a arrival)
  answered_grows a (Drop reason) = same_grows a
  answered_grows a Part = same_grows a
  answered_grows a (Answer n message) = with_grows a n _ refl

  pub call_grows : (a : Requests) (call : Call) → Grows a (after_call own device timing pace a call)
  call_grows a (OpenRequest moment ask) = go (accepts timing.keep pace a moment)
    where
      go : (b : Bool) → Grows a (if b then opened_for a moment ask else a)
      go true = opened_grows a moment ask
      go false = same_grows a
  call_grows a (Tick moment) = record { count = omega arith; each = λ n within. ticked_opening moment (a.each n).course }
  call_grows a (Receive moment bytes) =
      both_grow a (fed_by own device timing a (passed own device timing a bytes)) _ (passed_grows a (passed own device timing a bytes)) (answered_grows (fed_by own device timing a (passed own device timing a bytes)) (arrived own device timing a bytes))

  -- a call leaves its moment, or the one before
  pub call_last : (calls : List Call) (call : Call) → last_moment own device timing pace calls ≤ moment_of call → last_moment own device timing pace (call ∷ calls) ≤ moment_of call
  call_last calls (OpenRequest moment ask) before = go (accepts timing.keep pace (requests own device timing pace calls) moment)
    where
      go : (b : Bool) → (if b then moment else last_moment own device timing pace calls) ≤ moment
      go true = omega arith
      go false = before
  call_last calls (Tick moment) before = omega arith
  call_last calls (Receive moment bytes) before = omega arith

-- bytes that are received open none
module _ (own device : ℕ) (timing : Timing) where
  fed_count : (a : Requests) (p : Packet) (to : Option ℕ) → (fed_to own device timing a p to).count ≡ a.count
  fed_count a p None = refl
  fed_count a p (Some n) = refl

  passed_count : (a : Requests) (read : Result Packet Reason) → (fed_by own device timing a read).count ≡ a.count
  passed_count a (Err reason) = refl
  passed_count a (Ok p) = fed_count a p (goes_to own device timing a p)

  answered_count : (a : Requests) (arrival : Arrival) → (answered_by own device timing a arrival).count ≡ a.count
  answered_count a (Drop reason) = refl
  answered_count a Part = refl
  answered_count a (Answer n message) = refl

  pub received_count : (a : Requests) (bytes : List ℕ) → (received own device timing a bytes).count ≡ a.count
  received_count a bytes =
      answered_count (fed_by own device timing a (passed own device timing a bytes)) (arrived own device timing a bytes)
      ∙ passed_count a (passed own device timing a bytes)
