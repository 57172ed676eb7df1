-- Where moments never go back, requests with one instance ID are opened twice the lifetime apart, or more, and less than
-- twice the keeping time apart only where enough were answered between them.
use Rattle.std.proofs.Common.{◌≡◌, ◌⊎◌, ℕ, zero, suc, ◌+◌, ◌-◌, ◌*◌, ◌/◌, ◌<◌, ◌≤◌, Bool, true, false, cond, List, [], ◌∷◌, refl, sym, ap, ◌∙◌, subst, inl, inr, ⊎_elim, arith}
use Rattle.std.specs.Prelude.{◌&&◌, ◌||◌, nat_lt, nat_le}
use Rattle.std.proofs.lemmas.Bool.{and_cases, or_parts, cases_eq, leb-false, ltb-false}
use Rattle.std.proofs.Math.Bool.{or-false}
use Rattle.pldm_requester.specs.Asks.{Ask}
use Rattle.pldm_requester.specs.Calls.{Call, OpenRequest, Tick, Receive, Request, Requests, course_at, request_with, opened_for, has_id_before, has_many_before, is_id_in_use, accepts, passed, after_call, requests, last_moment}
use Rattle.pldm_requester.specs.Courses.{Course, is_answered}
use Rattle.pldm_requester.specs.Laws.{IsInOrder, OpenedBefore, IdsApart, FreedEarly, SpreadOut, DefaultPaceGoesByTime}
use Rattle.pldm_requester.specs.Pacing.{at_default, newest, answered_after, is_too_soon, stride, is_crowded}
use Rattle.pldm_requester.specs.declared.pace.Pace.{Pace}
use Rattle.pldm_requester.specs.declared.timing.Timing.{Timing}
use Rattle.pldm_requester.proofs.NewestRequests.{newest_same, answered_grows}
use Rattle.pldm_requester.proofs.OpenRequests.{put_here, put_other, ticked_opening, ticked_answered, accepted_id, came_by_count, came_by_opening, came_by_answered}

-- ---- the next request with an instance ID
-- its opening comes that late, or enough were answered
abbrev ComesNext : ℕ → Pace → (before later : ℕ) → List Course → Type 0
ComesNext keep pace before later since =
    (before + 2 * keep ≤ later) ⊎ (pace.window ≤ answered_after pace before since)

comes_by : (keep : ℕ) (pace : Pace) (moment opening : ℕ) (since : List Course) → is_too_soon keep pace moment opening since ≡ false
    → (opening + 2 * pace.lifetime ≤ moment) × ComesNext keep pace opening moment since
comes_by keep pace moment opening since free =
    let parts = or_parts (nat_lt moment (opening + 2 * pace.lifetime)) _ free in (
      ltb-false moment (opening + 2 * pace.lifetime) parts.0,
      ⊎_elim
          (λ (x : nat_lt moment (opening + 2 * keep) ≡ false). inl (ltb-false moment (opening + 2 * keep) x))
          (λ (x : nat_lt (answered_after pace opening since) pace.window ≡ false). inr (ltb-false (answered_after pace opening since) pace.window x))
          (and_cases (nat_lt moment (opening + 2 * keep)) _ parts.1),
    )

id_free : (keep : ℕ) (pace : Pace) (a : Requests) (moment : ℕ) → has_id_before keep pace a moment ≡ false → (n : ℕ) → n + 32 ≡ a.count
    → ((a.each n).course.opening + 2 * pace.lifetime ≤ moment) × ComesNext keep pace (a.each n).course.opening moment (newest (course_at a) a.count 31)
id_free keep pace a moment free n e =
    ⊎_elim
    (λ (x : nat_le 32 a.count ≡ false). let i = leb-false 32 a.count x in absurd (omega arith))
    (λ (x : is_too_soon keep pace moment (course_at a (a.count - 32)).opening (newest (course_at a) a.count 31) ≡ false).
    let i : a.count - 32 ≡ n = omega arith in
    subst (λ (k : ℕ). ((a.each k).course.opening + 2 * pace.lifetime ≤ moment) × ComesNext keep pace (a.each k).course.opening moment (newest (course_at a) a.count 31)) i
    (comes_by keep pace moment (course_at a (a.count - 32)).opening (newest (course_at a) a.count 31) x))
    (and_cases (nat_le 32 a.count) _ free)

not_crowded : (pace : Pace) (a : Requests) (moment : ℕ) → has_many_before pace a moment ≡ false → 0 < stride pace → (n : ℕ) → n + stride pace ≡ a.count → (a.each n).course.opening + pace.lifetime ≤ moment
not_crowded pace a moment free some n e =
    ⊎_elim
    (λ (x : (nat_lt 0 (stride pace) && nat_le (stride pace) a.count) ≡ false).
    ⊎_elim
    (λ (y : nat_lt 0 (stride pace) ≡ false). let i = ltb-false 0 (stride pace) y in absurd (omega arith))
    (λ (y : nat_le (stride pace) a.count ≡ false). let i = leb-false (stride pace) a.count y in absurd (omega arith))
    (and_cases (nat_lt 0 (stride pace)) _ x))
    (λ (x : is_crowded pace moment (course_at a (a.count - stride pace)) ≡ false).
    let i : a.count - stride pace ≡ n = omega arith in
    subst (λ (k : ℕ). (a.each k).course.opening + pace.lifetime ≤ moment) i (ltb-false moment _ x))
    (and_cases (nat_lt 0 (stride pace) && nat_le (stride pace) a.count) _ free)

-- ---- up to a moment, and each to the next one with its instance ID
record Apart (keep : ℕ) (pace : Pace) (a : Requests) (now : ℕ) : Type 0 where
  before : (n : ℕ) → n < a.count → (a.each n).course.opening ≤ now
  far : (n : ℕ) → n + 32 < a.count → (a.each n).course.opening + 2 * pace.lifetime ≤ (a.each (n + 32)).course.opening
  early : (n : ℕ) → n + 32 < a.count → ComesNext keep pace (a.each n).course.opening (a.each (n + 32)).course.opening (newest (course_at a) (n + 32) 31)
  spread : 0 < stride pace → (n : ℕ) → n + stride pace < a.count → (a.each n).course.opening + pace.lifetime ≤ (a.each (n + stride pace)).course.opening

apart_later : (keep : ℕ) (pace : Pace) (a : Requests) (now later : ℕ) → Apart keep pace a now → now ≤ later → Apart keep pace a later
apart_later keep pace a now later f i = record {
  before = λ n l. let b = f.before n l in omega arith;
  far = f.far;
  early = f.early;
  spread = f.spread;
}

-- answered requests stay answered, so no fewer were
next_stays : (keep : ℕ) (pace : Pace) (f g : ℕ → Course) (n later most : ℕ) → ((k : ℕ) → (g k).opening ≡ (f k).opening) → ((k : ℕ) → is_answered (f k) ≡ true → is_answered (g k) ≡ true)
    → ComesNext keep pace (f n).opening (f later).opening (newest f later most) → ComesNext keep pace (g n).opening (g later).opening (newest g later most)
next_stays keep pace f g n later most same stays (inl l) = inl (omega (arith, same n, same later))
next_stays keep pace f g n later most same stays (inr l) =
    let more = answered_grows pace (f n).opening f g later most same stays in
    inr (subst (λ opening. pace.window ≤ answered_after pace opening (newest g later most)) (sym (same n)) (omega arith))

apart_same : (keep : ℕ) (pace : Pace) (a b : Requests) (now : ℕ) → Apart keep pace a now → b.count ≡ a.count → ((n : ℕ) → (b.each n).course.opening ≡ (a.each n).course.opening)
    → ((n : ℕ) → is_answered (a.each n).course ≡ true → is_answered (b.each n).course ≡ true) → Apart keep pace b now
apart_same keep pace a b now f same opening stays = record {
  before = λ n l. let x = f.before n (omega (arith, same)) in omega (arith, opening n);
  far = λ n l. let x = f.far n (omega (arith, same)) in omega (arith, opening n, opening (n + 32));
  early = λ n l. next_stays keep pace (course_at a) (course_at b) n (n + 32) 31 opening stays (f.early n (omega (arith, same)));
  spread = λ some n l. let x = f.spread some n (omega (arith, same)) in omega (arith, opening n, opening (n + stride pace));
}

-- one more request
module _ (keep : ℕ) (pace : Pace) (a : Requests) (now moment : ℕ) (ask : Ask) (f : Apart keep pace a now) (later : now ≤ moment) (free : is_id_in_use keep pace a moment ≡ false) where
  abbrev new : Requests
  new = opened_for a moment ask

  old_course : (n : ℕ) → n < a.count → course_at new n ≡ course_at a n
  old_course n l = ap (λ (r : Request). r.course) (put_other a.each a.count (request_with moment ask) n (λ e. omega arith))

  old_opening : (n : ℕ) → n < a.count → (new.each n).course.opening ≡ (a.each n).course.opening
  old_opening n l = ap (λ (c : Course). c.opening) (old_course n l)

  new_opening : (n : ℕ) → n ≡ a.count → (new.each n).course.opening ≡ moment
  new_opening n e = ap (λ (r : Request). r.course.opening) (put_here a.each a.count (request_with moment ask) n e)

  frees : (has_id_before keep pace a moment ≡ false) × (has_many_before pace a moment ≡ false)
  frees = or_parts (has_id_before keep pace a moment) (has_many_before pace a moment) free

  since : (n : ℕ) → n ≤ a.count → newest (course_at a) n 31 ≡ newest (course_at new) n 31
  since n l = newest_same (course_at a) (course_at new) n 31 (λ k m near. sym (old_course k (omega arith)))

  next_new : (n : ℕ) → n + 32 ≡ a.count → ComesNext keep pace (new.each n).course.opening (new.each (n + 32)).course.opening (newest (course_at new) (n + 32) 31)
  next_new n e =
      let x = old_opening n (omega arith) in
      let y = new_opening (n + 32) e in
      ⊎_elim
      (λ (l : (a.each n).course.opening + 2 * keep ≤ moment). inl (omega (arith, x, y)))
      (λ (l : pace.window ≤ answered_after pace (a.each n).course.opening (newest (course_at a) a.count 31)).
      inr (subst (λ opening. pace.window ≤ answered_after pace opening (newest (course_at new) (n + 32) 31)) (sym x)
      (subst (λ xs. pace.window ≤ answered_after pace (a.each n).course.opening xs) (ap (λ m. newest (course_at a) m 31) (sym e) ∙ since (n + 32) (omega arith)) l)))
      (id_free keep pace a moment frees.0 n e).1

  next_old : (n : ℕ) → n + 32 < a.count → ComesNext keep pace (new.each n).course.opening (new.each (n + 32)).course.opening (newest (course_at new) (n + 32) 31)
  next_old n l =
      let x = old_opening n (omega arith) in
      let y = old_opening (n + 32) l in
      ⊎_elim
      (λ (early : (a.each n).course.opening + 2 * keep ≤ (a.each (n + 32)).course.opening). inl (omega (arith, x, y)))
      (λ (many : pace.window ≤ answered_after pace (a.each n).course.opening (newest (course_at a) (n + 32) 31)).
      inr (subst (λ opening. pace.window ≤ answered_after pace opening (newest (course_at new) (n + 32) 31)) (sym x)
      (subst (λ xs. pace.window ≤ answered_after pace (a.each n).course.opening xs) (since (n + 32) (omega arith)) many)))
      (f.early n l)

  apart_opened : Apart keep pace new moment
  apart_opened = record {
    before = λ n l. ⊎_elim
        (λ (e : n ≡ a.count). let x = new_opening n e in omega (arith, x))
        (λ (e : n ≡ a.count → ⊥). let x = old_opening n (omega (arith, e)) in let b = f.before n (omega (arith, e)) in omega (arith, x))
        (cases_eq n a.count);
    far = λ n l.
        let x = old_opening n (omega arith) in
        ⊎_elim
        (λ (e : n + 32 ≡ a.count). let y = new_opening (n + 32) e in let b = (id_free keep pace a moment frees.0 n e).0 in omega (arith, x, y))
        (λ (e : n + 32 ≡ a.count → ⊥). let y = old_opening (n + 32) (omega (arith, e)) in let b = f.far n (omega (arith, e)) in omega (arith, x, y))
        (cases_eq (n + 32) a.count);
    early = λ n l. ⊎_elim (λ (e : n + 32 ≡ a.count). next_new n e) (λ (e : n + 32 ≡ a.count → ⊥). next_old n (omega (arith, e))) (cases_eq (n + 32) a.count);
    spread = λ some n l.
        let x = old_opening n (omega arith) in
        ⊎_elim
        (λ (e : n + stride pace ≡ a.count). let y = new_opening (n + stride pace) e in let b = not_crowded pace a moment frees.1 some n e in omega (arith, x, y))
        (λ (e : n + stride pace ≡ a.count → ⊥). let y = old_opening (n + stride pace) (omega (arith, e)) in let b = f.spread some n (omega (arith, e)) in omega (arith, x, y))
        (cases_eq (n + stride pace) a.count);
  }

module _ (own device : ℕ) (timing : Timing) (pace : Pace) where
  apart_at : (calls : List Call) → IsInOrder own device timing pace calls → Apart timing.keep pace (requests own device timing pace calls) (last_moment own device timing pace calls)
  apart_at [] i = record {
    before = λ n l. absurd (omega arith);
    far = λ n l. absurd (omega arith);
    early = λ n l. absurd (omega arith);
    spread = λ some n l. absurd (omega arith);
  }
  apart_at (OpenRequest moment ask ∷ calls) i = go (accepts timing.keep pace (requests own device timing pace calls) moment) refl (apart_at calls i.1)
    where
      go : (b : Bool) → accepts timing.keep pace (requests own device timing pace calls) moment ≡ b → Apart timing.keep pace (requests own device timing pace calls) (last_moment own device timing pace calls)
          → Apart timing.keep pace (cond b (opened_for (requests own device timing pace calls) moment ask) (requests own device timing pace calls)) (cond b moment (last_moment own device timing pace calls))
      go true ok f = apart_opened timing.keep pace (requests own device timing pace calls) (last_moment own device timing pace calls) moment ask f i.0 (accepted_id timing.keep pace (requests own device timing pace calls) moment ok)
      go false ok f = f
  apart_at (Tick moment ∷ calls) i =
      let a = requests own device timing pace calls in
      apart_same timing.keep pace a (after_call own device timing pace a (Tick moment)) moment (apart_later timing.keep pace a (last_moment own device timing pace calls) moment (apart_at calls i.1) i.0) refl (λ n. ticked_opening timing moment (a.each n).course) (λ n. ticked_answered timing moment (a.each n).course)
  apart_at (Receive moment bytes ∷ calls) i =
      let a = requests own device timing pace calls in
      let read = passed own device timing a bytes in
      apart_same timing.keep pace a (after_call own device timing pace a (Receive moment bytes)) moment (apart_later timing.keep pace a (last_moment own device timing pace calls) moment (apart_at calls i.1) i.0) (came_by_count own device timing a read) (came_by_opening own device timing a read) (came_by_answered own device timing a read)

pub opened_before : OpenedBefore
opened_before own device timing pace calls number i l = (apart_at own device timing pace calls i).before number l

steps_apart : (keep : ℕ) (pace : Pace) (a : Requests) (now n k : ℕ) → Apart keep pace a now → n + (32 + 32 * k) < a.count → (a.each n).course.opening + 2 * pace.lifetime ≤ (a.each (n + (32 + 32 * k))).course.opening
steps_apart keep pace a now n zero f l =
    let same : n + (32 + 32 * 0) ≡ n + 32 = omega arith in
    subst (λ m. (a.each n).course.opening + 2 * pace.lifetime ≤ (a.each m).course.opening) (sym same) (f.far n (omega arith))
steps_apart keep pace a now n (suc k) f l =
    let before = steps_apart keep pace a now n k f (omega arith) in
    let next = f.far (n + (32 + 32 * k)) (omega arith) in
    let same : n + (32 + 32 * suc k) ≡ n + (32 + 32 * k) + 32 = omega arith in
    subst (λ m. (a.each n).course.opening + 2 * pace.lifetime ≤ (a.each m).course.opening) (sym same) (omega (arith, before, next))

pub ids_apart : IdsApart
ids_apart own device timing pace calls number later i l below same =
    let a = requests own device timing pace calls in
    let k = (later - number - 32) / 32 in
    let at : number + (32 + 32 * k) ≡ later = omega arith in
    let f = apart_at own device timing pace calls i in
    subst (λ m. (a.each number).course.opening + 2 * pace.lifetime ≤ (a.each m).course.opening) at (steps_apart timing.keep pace a (last_moment own device timing pace calls) number k f (omega (arith, at)))

pub freed_early : FreedEarly
freed_early own device timing pace calls number i l = (apart_at own device timing pace calls i).early number l

pub spread_out : SpreadOut
spread_out own device timing pace calls number i some l = (apart_at own device timing pace calls i).spread some number l

-- ---- the default pace
same_or_sooner : (b c : Bool) → (b || (b && c)) ≡ b
same_or_sooner true c = refl
same_or_sooner false c = refl

pub default_pace_goes_by_time : DefaultPaceGoesByTime
default_pace_goes_by_time keep a moment =
    or-false (has_id_before keep (at_default keep) a moment)
    ∙ ap (λ b. nat_le 32 a.count && b) (same_or_sooner (nat_lt moment ((course_at a (a.count - 32)).opening + 2 * keep)) (nat_lt (answered_after (at_default keep) (course_at a (a.count - 32)).opening (newest (course_at a) a.count 31)) 32))
