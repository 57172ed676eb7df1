-- A tick is one more call of its requester.
use Rattle.std.proofs.Common.{◌≡◌, ℕ, ◌<◌, List, ◌∷◌, length, Some, sym, ap, subst, ◌∙◌, arith}
use Rattle.std.specs.Prelude.{◌==◌, true, slice_index}
use Rattle.std.specs.List.{AllByRecursion, list_any}
use Rattle.pldm_responder.specs.Performing.{rules_of}
use Rattle.pldm_requester.specs.Courses.{is_given_up, is_sent_again}
use Rattle.pldm_requester.specs.Slots.{held_of}
use Rattle.pldm_requester.specs.Steps.{IsHeld, again_at, given_up_at, passes, ticked_held}
use Rattle.mctp_schedule.specs.Askers.{Side}
use Rattle.mctp_schedule.specs.Entries.{due_over_all, numbered, numbers_of}
use Rattle.mctp_schedule.specs.HeldRuns.{held_by}
use Rattle.mctp_schedule.specs.Running.{IsRunning, setting_of}
use Rattle.mctp_schedule.specs.Worlds.{world}
use Rattle.mctp_schedule.specs.Actions as actions
use Rattle.mctp_schedule.proofs.LoggedRequests.{asked_below}
use Rattle.mctp_schedule.proofs.AskerCalls.{recent_below}
use Rattle.mctp_schedule.proofs.AfterCall.{with_side, place_holds}
use Rattle.mctp_schedule.proofs.NumberedRequests.{get_index, listed_own}
use Rattle.mctp_schedule.proofs.AfterTick.{tick_runs}
use Rattle.mctp_schedule.proofs.both_ends.Ends.tick.Goals as goal

pub tick-due-requires : goal.tick-due-requires
tick-due-requires g c =
    let running = c.requires.2 in
    let may = c.requires.3 in
    let e = c.args.eid in
    let s = running.sides e may.known in
    let same = place_holds c.args.self.now.places.items e c.from.result c.index_mut.result.now s.0 c.in-Some.asker (c.from.ensures ∙ c.get.ensures.value) c.index_mut.ensures.value s.1 c.in-Some.is in
    let last = ap (λ (a : Side). (held_of a.station).last) same in
    let called = s.2.called in
    let later = may.later in
    omega (arith, last, called, later)

pub enter_due-requires-clause-numbered : goal.enter_due-requires-clause-numbered
enter_due-requires-clause-numbered g c =
    let terms = c.requires.0 in
    let past = c.requires.1 in
    let running = c.requires.2 in
    let may = c.requires.3 in
    let e = c.args.eid in
    let s = running.sides e may.known in
    let asker = c.in-Some.asker in
    let same = place_holds c.args.self.now.places.items e c.from.result c.index_mut.result.now s.0 asker (c.from.ensures ∙ c.get.ensures.value) c.index_mut.ensures.value s.1 c.in-Some.is in
    let held = held_of asker.station in
    let all : length asker.numbers ≡ held.count = subst (λ (x : Side). length x.numbers ≡ (held_of x.station).count) (sym same) (ap (λ (xs : List ℕ). length xs) s.2.numbers ∙ s.2.counted ∙ sym s.2.left.count) in
    let many : length c.numbers.result.now ≡ held.count = ap (λ (xs : List ℕ). length xs) (c.numbers.ensures ∙ c.tick-due.ensures.numbers) ∙ all in
    record {
      again =
          subst (λ n. AllByRecursion (λ own. own < n) c.tick-due.result.again.items) (sym many)
          (subst (AllByRecursion (λ own. own < held.count)) (sym c.tick-due.ensures.again) (recent_below held.count (λ n. passes (is_sent_again held.timing c.args.now) (held.remembered n))));
      given_up =
          subst (λ n. AllByRecursion (λ own. own < n) c.tick-due.result.given_up.items) (sym many)
          (subst (AllByRecursion (λ own. own < held.count)) (sym c.tick-due.ensures.given_up) (recent_below held.count (λ n. passes (is_given_up held.timing c.args.now) (held.remembered n))));
    }

pub enter_due-requires-clause-opened : goal.enter_due-requires-clause-opened
enter_due-requires-clause-opened g c = λ number listed.
    let terms = c.requires.0 in
    let past = c.requires.1 in
    let running = c.requires.2 in
    let may = c.requires.3 in
    let setting = setting_of (rules_of g.P.Platform.answer g.P.Platform.after g.P.Platform.sensed) terms in
    let e = c.args.eid in
    let s = running.sides e may.known in
    let asker = c.in-Some.asker in
    let same = place_holds c.args.self.now.places.items e c.from.result c.index_mut.result.now s.0 asker (c.from.ensures ∙ c.get.ensures.value) c.index_mut.ensures.value s.1 c.in-Some.is in
    let held = held_of asker.station in
    let all = recent_below held.count (λ n. passes (is_given_up held.timing c.args.now) (held.remembered n)) in
    let own = listed_own (slice_index asker.numbers) number held.count (given_up_at held c.args.now) all (subst (λ xs. list_any (λ n. n == number) xs ≡ true) (ap (λ ns. numbered ns c.tick-due.result.given_up.items) (c.numbers.ensures ∙ c.tick-due.ensures.numbers) ∙ ap (numbered asker.numbers) c.tick-due.ensures.given_up) listed) in
    let numbers = ap (λ (a : Side). a.numbers) same ∙ s.2.numbers in
    let counted = s.2.counted in
    let left = s.2.left.count in
    let count = ap (λ (a : Side). (held_of a.station).count) same in
    let low = own.1 in
    let below : own.0 < length (numbers_of (world setting past).log e) = omega (arith, low, counted, left, count) in
    let here = get_index (numbers_of (world setting past).log e) own.0 below ∙ ap Some (ap (λ xs. slice_index xs own.0) (sym numbers) ∙ own.2) in
    let q = s.2.numbered own.0 number here in
    let known = asked_below (world setting past).log number q.0 q.1 in
    let all_counted = running.counted in
    omega (arith, known, all_counted)

pub returns : goal.returns
returns g c = record {
  goes_on = λ terms past running may.
      let setting = setting_of (rules_of g.P.Platform.answer g.P.Platform.after g.P.Platform.sensed) terms in
      let e = c.args.eid in
      let s = running.sides e may.known in
      let asker = c.in-Some.asker in
      let at = c.from.ensures ∙ c.get.ensures.value in
      let same = place_holds c.args.self.now.places.items e c.from.result c.index_mut.result.now s.0 asker at c.index_mut.ensures.value s.1 c.in-Some.is in
      let due = c.tick-due.ensures in
      let numbers = c.numbers.ensures ∙ due.numbers in
      let entered = c.in_ok-enter_due-in-Some.ensures in
      subst (λ i. IsRunning setting (record { moment = c.args.now; action = actions.Tick e } ∷ past) (with_side (held_by c.args.self.now) i c.tick-due.new.self c.enter_due.new.self)) (sym at)
      (tick_runs setting past (held_by c.args.self.now) c.enter_due.new.self running c.args.now may.later e may.known c.tick-due.new.self (due_over_all c.numbers.result.now c.tick-due.result)
      c.looks_back.ensures.tick c.looks_back.ensures.same
      (record {
        held = subst (λ (a : Side). IsHeld (held_of c.tick-due.new.self.station) (ticked_held (held_of a.station) c.args.now)) same due.held;
        same_numbers = due.numbers ∙ ap (λ (a : Side). a.numbers) same;
        again = ap (λ ns. numbered ns c.tick-due.result.again.items) numbers ∙ ap (numbered asker.numbers) due.again ∙ ap (λ (a : Side). numbered a.numbers (again_at (held_of a.station) c.args.now)) same;
        given_up = ap (λ ns. numbered ns c.tick-due.result.given_up.items) numbers ∙ ap (numbered asker.numbers) due.given_up ∙ ap (λ (a : Side). numbered a.numbers (given_up_at (held_of a.station) c.args.now)) same;
        requests = entered.requests.each;
        counted = entered.requests.all;
        writes = record { entries = entered.entries; traffic = entered.rest.traffic; order = entered.rest.order };
        timely = entered.rest.timely;
      }));
  performs = λ terms past running may. g.met.P.Platform.none_performed c.args.self.now.responder.platform;
}
