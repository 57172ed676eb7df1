-- What is left of a request whose packets and answer are let go: when it was opened, and whether it is open or answered.
use Rattle.std.proofs.Common.{◌≡◌, ◌⊎◌, ℕ, Bool, true, false, cond, Option, Some, None, refl, sym, ap, ◌∙◌, inl, inr, ⊎_elim}
use Rattle.std.specs.Prelude.{◌&&◌, nat_le}
use Rattle.std.proofs.lemmas.Bool.{cases_Bool, cond_both}
use Rattle.pldm_wire.specs.Responses.{Response}
use Rattle.pldm_requester.specs.Courses.{Course, Progress, Waiting, Answered, GaveUp, emptied, given_up, has_answer, is_given_up, is_open, is_sent_again, is_waiting, sent_again, ticked, without_answer}
use Rattle.pldm_requester.specs.Pacing.{is_answered_from}
use Rattle.pldm_requester.specs.Slots.{IsPaced}
use Rattle.pldm_requester.specs.Steps.{Memo, course_of, is_mine_by, outline_if, passes}
use Rattle.pldm_requester.specs.declared.timing.Timing.{Timing}
use Rattle.pldm_requester.proofs.OpenRequests.{shut_stays}

-- ---- one course
waiting_still : (p : Progress) → is_waiting (emptied p) ≡ is_waiting p
waiting_still Waiting = refl
waiting_still (Answered message) = refl
waiting_still GaveUp = refl

answer_still : (p : Progress) → has_answer (emptied p) ≡ has_answer p
answer_still Waiting = refl
answer_still (Answered message) = refl
answer_still GaveUp = refl

-- an open one has no answer
waiting_stays : (p : Progress) → is_waiting p ≡ true → emptied p ≡ p
waiting_stays Waiting e = refl
waiting_stays (Answered message) e = absurd (cc)
waiting_stays GaveUp e = refl

open_stays : (course : Course) → is_open course ≡ true → without_answer course ≡ course
open_stays course e =
    ap (λ (p : Progress). record { opening = course.opening; last_sent = course.last_sent; progress = p }) (waiting_stays course.progress e)

-- a test that only open requests pass
test_still : (test : Course → Bool) → ((course : Course) → test course ≡ true → is_open course ≡ true) → (course : Course) → test (without_answer course) ≡ test course
test_still test opens course = go (cases_Bool (is_open course))
  where
    none : (c : Course) → is_open c ≡ false → test c ≡ false
    none c shut = ⊎_elim (λ (e : test c ≡ true). let wrong : true ≡ false = sym (opens c e) ∙ shut in absurd (cc)) (λ (e : test c ≡ false). e) (cases_Bool (test c))

    go : (is_open course ≡ true) ⊎ (is_open course ≡ false) → test (without_answer course) ≡ test course
    go (inl e) = ap test (open_stays course e)
    go (inr e) = none (without_answer course) (waiting_still course.progress ∙ e) ∙ sym (none course e)

-- a tick leaves no answer where there was none
ticked_none : (timing : Timing) (moment : ℕ) (course : Course) → is_open course ≡ true → without_answer (ticked timing moment course) ≡ ticked timing moment course
ticked_none timing moment course e =
    cond_both (is_given_up timing moment course) (given_up course) (cond (is_sent_again timing moment course) (sent_again moment course) course) (λ (c : Course). without_answer c ≡ c) (λ _. refl)
    (λ _. cond_both (is_sent_again timing moment course) (sent_again moment course) course (λ (c : Course). without_answer c ≡ c) (λ _. open_stays (sent_again moment course) e) (λ _. open_stays course e))

pub ticked_still : (timing : Timing) (moment : ℕ) (course : Course) → ticked timing moment (without_answer course) ≡ without_answer (ticked timing moment course)
ticked_still timing moment course = go (cases_Bool (is_open course))
  where
    go : (is_open course ≡ true) ⊎ (is_open course ≡ false) → ticked timing moment (without_answer course) ≡ without_answer (ticked timing moment course)
    go (inl e) = ap (ticked timing moment) (open_stays course e) ∙ sym (ticked_none timing moment course e)
    go (inr e) =
        shut_stays timing moment (without_answer course) (waiting_still course.progress ∙ e)
        ∙ ap without_answer (sym (shut_stays timing moment course e))

-- ---- what is remembered
pub passes_outlined : (test : Course → Bool) → ((course : Course) → test course ≡ true → is_open course ≡ true) → (b : Bool) (o : Option Memo) → passes test (outline_if b o) ≡ passes test o
passes_outlined test opens true None = refl
passes_outlined test opens true (Some memo) = test_still test opens memo.course
passes_outlined test opens false o = refl

pub opening_outlined : (test : ℕ → Bool) (b : Bool) (o : Option Memo) → passes (λ course. test course.opening) (outline_if b o) ≡ passes (λ course. test course.opening) o
opening_outlined test true None = refl
opening_outlined test true (Some memo) = refl
opening_outlined test false o = refl

pub paced_outlined : (n : ℕ) (b : Bool) (o : Option Memo) → IsPaced n o → IsPaced n (outline_if b o)
paced_outlined n true None paced = tt
paced_outlined n true (Some memo) paced = paced
paced_outlined n false o paced = paced

pub mine_outlined : (number : ℕ) (b : Bool) (o : Option Memo) (response : Response) → is_mine_by number (outline_if b o) response ≡ is_mine_by number o response
mine_outlined number true None response = refl
mine_outlined number true (Some memo) response = refl
mine_outlined number false o response = refl

pub answered_outlined : (start : ℕ) (b : Bool) (o : Option Memo) → is_answered_from start (course_of (outline_if b o)) ≡ is_answered_from start (course_of o)
answered_outlined start true None = refl
answered_outlined start true (Some memo) = ap (λ a. a && nat_le start memo.course.opening) (answer_still memo.course.progress)
answered_outlined start false o = refl
