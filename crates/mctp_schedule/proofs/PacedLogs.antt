-- Over a timely schedule of requesters whose pace suits the device, an instance ID that is used again is free: what the
-- device kept for it has expired, or is out of its window. So the log is timely, and each request is answered exactly
-- where it was taken. Both are shown step by step, since an early use of an instance ID rests on the answers before it.
use Rattle.std.proofs.Common.{◌≡◌, ◌≢◌, ℕ, ◌+◌, ◌-◌, ◌*◌, ◌%◌, ◌<◌, ◌≤◌, true, false, List, [], ◌∷◌, length, Some, None, sym, ap, ◌∙◌, subst, inl, inr, ⊎_elim, arith}
use Rattle.std.specs.Prelude.{◌==◌, not, nat_lt, nat_le, is_some, take}
use Rattle.std.proofs.lemmas.Bool.{and_cases, and_parts, or_parts, not-true, cases_eq, cond-false, le-leb, le-ltb, leb-true, ltb-false}
use Rattle.pldm_wire.specs.Headers.{id_at}
use Rattle.pldm_requester.specs.Asks.{Ask}
use Rattle.pldm_requester.specs.Calls.{Requests, accepts, course_at, has_id_before, has_many_before, is_id_in_use, is_tag_in_use}
use Rattle.pldm_requester.specs.Courses.{Course, Progress, Waiting, Answered, GaveUp, has_answer, is_answered}
use Rattle.pldm_requester.specs.Pacing.{answered_after, is_answered_from, is_too_soon, newest}
use Rattle.pldm_responder.specs.Recency.{of_number}
use Rattle.pldm_responder.proofs.CopiesByTheRule.{found_where, in_front}
use Rattle.mctp_schedule.specs.Laws.{PacedLogIsTimely}
use Rattle.mctp_schedule.specs.Logs.{Asked, AreRested, ComesRested, asked_at, endpoint_of}
use Rattle.mctp_schedule.specs.RequesterHalf.{IsSound, ProgressIs, SuitsDevice}
use Rattle.mctp_schedule.specs.TakenReplies.{taken}
use Rattle.mctp_schedule.specs.Timely.{ids_arrived, is_in_window}
use Rattle.mctp_schedule.specs.Worlds.{IsTimely, NeverWentBack, BothEnds, World, asked_by, done, requests_of, time_now, timing_of, world}
use Rattle.mctp_schedule.specs.Actions.{Action, Step}
use Rattle.mctp_schedule.proofs.AnswerPacketOutcomes.{Lower}
use Rattle.mctp_schedule.proofs.AnsweredWhereTaken.{AllHold, holds_done, sound_before}
use Rattle.mctp_schedule.proofs.IdsArrived.{any_is_found}
use Rattle.mctp_schedule.proofs.OthersInFront.{In, in_front_of, no_more_counted}
use Rattle.mctp_schedule.proofs.TimelyLogs.{Frees, Joined, frees_by_time, id_of_message, joined_none, joined_step, keep_is, rests_at, timely_of}
use Rattle.mctp_schedule.proofs.RestedRequesters.{IsAfter, one_after_another}
use Rattle.mctp_schedule.proofs.UntouchedRequests.{Stands}

module _ {S : Type 0} (setting : BothEnds S) (lower : Lower) where
  -- ---- a request that is accepted
  module _ (past : List Step) (now moment e : ℕ) (ask : Ask) (j : Joined setting (world setting past) now) (h : AllHold setting past) (wide : setting.window ≤ setting.pace.window) (accepted : accepts (timing_of setting e).keep setting.pace (requests_of setting (world setting past) e) moment ≡ true) (rested : AreRested setting.keep (world setting past).log) (rests : ComesRested setting.keep (asked_by setting (world setting past) moment e ask) (world setting past).log) where
    abbrev w : World
    w = world setting past

    abbrev a : Requests
    a = requests_of setting w e

    abbrev each : ℕ → Course
    each = course_at a

    abbrev keep : ℕ
    keep = (timing_of setting e).keep

    abbrev lifetime : ℕ
    lifetime = setting.pace.lifetime

    abbrev new : Asked
    new = asked_by setting w moment e ask

    abbrev n : ℕ
    n = id_at new.message

    abbrev ids : List ℕ
    ids = ids_arrived S setting.keep w.log (endpoint_of e)

    -- when the last request with its instance ID was opened
    abbrev opening : ℕ
    opening = (each (a.count - 32)).opening

    abbrev since : List Course
    since = newest each a.count 31

    n_is : n ≡ a.count % 32
    n_is = id_of_message a.count ask

    of_log : (k : ℕ) (q : Asked) → asked_at w.log k ≡ Some q → q.source ≡ e → (q.own < a.count) × ((each q.own).opening ≡ q.opening) × (id_at q.message ≡ q.own % 32)
    of_log k q is s =
        let m = j.matches k q is in
        let x : (q.own < a.count) × ((each q.own).opening ≡ q.opening) = subst (λ d. (q.own < (requests_of setting w d).count) × (((requests_of setting w d).each q.own).course.opening ≡ q.opening)) s (m.within, m.opening) in
        (x.0, x.1, m.id)

    -- no request with the instance ID was opened after the last one
    older : (k : ℕ) (q : Asked) → asked_at w.log k ≡ Some q → q.source ≡ e → id_at q.message ≡ n → q.opening ≤ opening
    older k q is s i =
        let f = of_log k q is s in
        let at = f.1 in
        let low : q.own + 32 ≤ a.count = let x = f.0 in let y = f.2 in let z = n_is in omega (arith, x, y, z, i) in
        ⊎_elim
        (λ (same : q.own ≡ a.count - 32). let e' = ap (λ m. (each m).opening) same in omega (arith, at, e'))
        (λ (other : q.own ≡ a.count - 32 → ⊥).
        let ids : q.own % 32 ≡ (a.count - 32) % 32 = let y = f.2 in let z = n_is in omega (arith, y, z, i, low) in
        let far = lower.apart (endpoint_of e) setting.eid (timing_of setting e) setting.pace (w.calls e) q.own (a.count - 32) (j.calls e) (omega (arith, other, low)) (omega (arith, low)) ids in
        omega (arith, far, at))
        (cases_eq q.own (a.count - 32))

    -- nor by another requester at the endpoint: that one had opened all before this one began
    none_since : 32 ≤ a.count → (k : ℕ) (q : Asked) → asked_at w.log k ≡ Some q → endpoint_of q.source ≡ endpoint_of e → id_at q.message ≡ n → q.opening ≤ opening
    none_since many k q is s i =
        ⊎_elim
        (λ (same : q.source ≡ e). older k q is same i)
        (λ (other : q.source ≡ e → ⊥).
        let x = j.listed e (a.count - 32) (omega (arith, many)) in
        let r = x.1 in
        let its : (each (a.count - 32)).opening ≡ r.opening = ap (λ m. (each m).opening) (sym x.4) ∙ (of_log x.0 r x.2 x.3).1 in
        ⊎_elim
        (λ (after : IsAfter setting.keep r q). absurd (let b = after.later in let c = (rests k q is s other).0 in let d = x.3 in omega (arith, b, c, d)))
        (λ (before : IsAfter setting.keep q r). let b = before.rested in omega (arith, b, its))
        (one_after_another setting.keep w.log rested x.0 k r q x.2 is (s ∙ ap (λ d. endpoint_of d) (sym x.3)) (λ same. other (same ∙ x.3))))
        (cases_eq q.source e)

    taken_where : (k : ℕ) (x : Progress) → has_answer x ≡ true → ProgressIs setting past k x → taken setting past k ≡ true
    taken_where k Waiting e c = absurd (cc)
    taken_where k (Answered message) e c = c.0
    taken_where k GaveUp e c = absurd (cc)

    -- a counted one stands in front of the instance ID
    counted_in_front : 32 ≤ a.count → (own : ℕ) → own < a.count → a.count ≤ own + 31 → is_answered_from (opening + lifetime) (each own) ≡ true → In (own % 32) (in_front (λ i. i) n ids)
    counted_in_front many own l near t =
        let x = j.listed e own l in
        let k = x.0 in
        let r = x.1 in
        let is = x.2 in
        let f = of_log k r is x.3 in
        let parts = and_parts (is_answered (each own)) (nat_le (opening + lifetime) (each own).opening) t in
        let stands : has_answer (Stands setting past r).course.progress ≡ true =
        ap (λ (y : ℕ × ℕ). has_answer ((requests_of setting w y.0).each y.1).course.progress) (λ i. (x.3 i, x.4 i)) ∙ parts.0 in
        let holds = h k r is in
        let came = holds.arrived (taken_where k (Stands setting past r).course.progress stands holds.progress) in
        let opened : (each own).opening ≡ r.opening = ap (λ m. (each m).opening) (sym x.4) ∙ f.1 in
        let late : opening + lifetime ≤ r.opening = let y = leb-true (opening + lifetime) (each own).opening parts.1 in omega (arith, y, opened) in
        let its : id_at r.message ≡ own % 32 = f.2 ∙ ap (λ m. m % 32) x.4 in
        let ne : id_at r.message ≢ n = λ same. absurd (let z = n_is in omega (arith, same, its, z, l, near)) in
        subst (λ m. In m (in_front (λ i. i) n ids)) its
        (in_front_of S setting.window setting.keep lifetime (endpoint_of e) n (opening + lifetime) w.log j.order j.in_time (λ m q at s i. let o = none_since many m q at s i in omega (arith, o)) k r is (ap (λ d. endpoint_of d) x.3) ne late (ap is_some came.1))

    -- so where enough are counted it is out of the window
    out_of_window : 32 ≤ a.count → setting.pace.window ≤ answered_after setting.pace opening since → is_in_window S setting.window setting.keep w.log new ≡ false
    out_of_window enough many =
        let counted = no_more_counted (is_answered_from (opening + lifetime)) each a.count 31 (in_front (λ i. i) n ids) (omega arith) (counted_in_front enough) in
        let none : of_number (λ i. i) n (take setting.window ids) ≡ None =
        found_where (λ i. i) setting.window n ids
        ∙ cond-false (nat_lt (length (in_front (λ i. i) n ids)) setting.window) (of_number (λ i. i) n ids) None (le-ltb (length (in_front (λ i. i) n ids)) setting.window (omega (arith, counted, many, wide))) in
        any_is_found (λ i. i == n) (take setting.window ids) ∙ ap is_some none

    free : has_id_before keep setting.pace a moment ≡ false
    free = (or_parts (has_id_before keep setting.pace a moment) (has_many_before setting.pace a moment) (not-true _ (and_parts (not (is_tag_in_use a)) (not (is_id_in_use keep setting.pace a moment)) accepted).1)).0

    frees_by_answers : Frees setting w moment e ask
    frees_by_answers k q is s i =
        let f = of_log k q is s in
        let low : q.own + 32 ≤ a.count = let x = f.0 in let y = f.2 in let z = n_is in omega (arith, x, y, z, i) in
        let before = older k q is s i in
        ⊎_elim
        (λ (few : nat_le 32 a.count ≡ false). absurd (let many = le-leb 32 a.count (omega (arith, low)) in let wrong : true ≡ false = sym many ∙ few in cc))
        (λ (x : is_too_soon keep setting.pace moment opening since ≡ false).
        ⊎_elim
        (λ (y : nat_lt moment (opening + 2 * keep) ≡ false). inl (let late = ltb-false moment (opening + 2 * keep) y in let same = keep_is setting e in omega (arith, late, before, same)))
        (λ (y : nat_lt (answered_after setting.pace opening since) setting.pace.window ≡ false). inr (out_of_window (omega (arith, low)) (ltb-false (answered_after setting.pace opening since) setting.pace.window y)))
        (and_cases (nat_lt moment (opening + 2 * keep)) _ (or_parts (nat_lt moment (opening + 2 * lifetime)) _ x).1))
        (and_cases (nat_le 32 a.count) _ free)

  -- ---- each step
  frees_at : (past : List Step) (now moment e : ℕ) (ask : Ask) → AreRested setting.keep (world setting past).log → ComesRested setting.keep (asked_by setting (world setting past) moment e ask) (world setting past).log → SuitsDevice setting → Joined setting (world setting past) now → now ≤ moment → AllHold setting past → accepts (timing_of setting e).keep setting.pace (requests_of setting (world setting past) e) moment ≡ true → Frees setting (world setting past) moment e ask
  frees_at past now moment e ask rested rests suits j later h accepted =
      ⊎_elim
      (λ (wide : setting.window ≤ setting.pace.window). frees_by_answers past now moment e ask j h wide accepted rested rests)
      (λ (by_time : setting.pace.lifetime ≡ setting.keep). frees_by_time setting lower.apart by_time (world setting past) now moment e ask j later accepted)
      suits.window

  both : (steps : List Step) → NeverWentBack steps → IsTimely setting steps → IsSound setting steps → Joined setting (world setting steps) (time_now steps) × AllHold setting steps
  both [] order timely sound = (joined_none setting, λ k r is. absurd (cc))
  both (step ∷ past) order timely sound =
      let before = sound_before setting step past sound in
      let b = both past order.1 timely.1 before in
      let log = timely_of setting (world setting past) (time_now past) b.0 sound.pace.within in (
        joined_step setting lower.apart sound.pace.within (world setting past) (time_now past) step.moment step.action sound.rested
            (λ e ask is accepted. frees_at past (time_now past) step.moment e ask before.rested (rests_at setting (world setting past) step.moment e ask (subst (λ (action : Action). AreRested setting.keep (done setting (world setting past) step.moment action).log) is sound.rested) accepted) sound.pace b.0 order.0 b.1 accepted)
            b.0 order.0 timely.0,
        holds_done setting lower past b.1 log before step.moment step.action timely.0,
      )

  pub all_hold : (steps : List Step) → NeverWentBack steps → IsTimely setting steps → IsSound setting steps → AllHold setting steps
  all_hold steps order timely sound = (both steps order timely sound).1

  pub paced_log_is_timely : PacedLogIsTimely setting
  paced_log_is_timely steps s =
      timely_of setting (world setting steps) (time_now steps) (both steps s.order s.timely s.sound).0 s.sound.pace.within
