-- An open is one more call of its requester; where it is accepted, there is one more request.
use Rattle.std.proofs.Common.{◌≡◌, ℕ, ◌%◌, List, ◌∷◌, ◌++◌, [], length, Err, sym, ap, subst, ◌∙◌, arith}
use Rattle.std.specs.Prelude.{IfOk, IfErr, OnOk}
use Rattle.pldm_responder.specs.Performing.{rules_of}
use Rattle.pldm_requester.specs.Slots.{held_of}
use Rattle.pldm_requester.specs.Steps.{IsHeld, opened_held, opening_answer}
use Rattle.mctp_schedule.specs.Askers.{IsOpenedAs, IsSent, Side}
use Rattle.mctp_schedule.specs.HeldRuns.{held_by}
use Rattle.mctp_schedule.specs.Running.{IsRunning, setting_of}
use Rattle.mctp_schedule.specs.Actions.{open_for}
use Rattle.mctp_schedule.proofs.AfterCall.{with_side, place_holds}
use Rattle.mctp_schedule.proofs.AfterOpen.{opened_runs, refused_runs}
use Rattle.mctp_schedule.proofs.AskerCalls.{has_packet, sent_is}
use Rattle.mctp_schedule.proofs.both_ends.Ends.open.Goals as goal

pub open-requires : goal.open-requires
open-requires g c =
    let running = c.requires.2 in
    let may = c.requires.3 in
    let e = c.args.eid in
    let s = running.sides e may.known in
    let same = place_holds c.args.self.now.places.items e c.from.result c.index_mut.result.now s.0 c.in-Some.asker (c.from.ensures ∙ c.get.ensures.value) c.index_mut.ensures.value s.1 c.in-Some.is in
    let last = ap (λ (a : Side). (held_of a.station).last) same in
    let called = s.2.called in
    let later = may.later in
    omega (arith, last, called, later)

pub sent-requires : goal.sent-requires
sent-requires g c =
    let asker = c.in-Some.asker in
    let opening = c.in_ok-own-in-Some.ensures in
    let opened = subst (λ o. IfOk o (IsOpenedAs (held_of asker.station) c.args.now c.args.command.now)) c.in-Ok.is opening.opened in
    let held = subst (λ o. OnOk o (IsHeld (held_of c.open.new.self.station) (opened_held (held_of asker.station) c.args.now c.args.command.now))) c.in-Ok.is opening.held in
    let fits = c.messages_fit.ensures.command ((held_of asker.station).count % 32) c.args.command.now opened.readable in
    has_packet (held_of asker.station) (held_of c.open.new.self.station) c.args.now c.args.command.now c.in-Ok.own held opened fits.0 fits.1

pub enter_opened-requires : goal.enter_opened-requires
enter_opened-requires g c =
    let asker = c.in-Some.asker in
    let opening = c.in_ok-own-in-Some.ensures in
    let opened = subst (λ o. IfOk o (IsOpenedAs (held_of asker.station) c.args.now c.args.command.now)) c.in-Ok.is opening.opened in
    let held = subst (λ o. OnOk o (IsHeld (held_of c.open.new.self.station) (opened_held (held_of asker.station) c.args.now c.args.command.now))) c.in-Ok.is opening.held in
    let fits = c.messages_fit.ensures.command ((held_of asker.station).count % 32) c.args.command.now opened.readable in
    let sent = sent_is (held_of asker.station) (held_of c.open.new.self.station) c.args.now c.args.command.now c.in-Ok.own held opened fits.0 fits.1 c.sent.result c.sent.ensures.own c.sent.ensures.header c.sent.ensures.packet in
    let short = c.messages_fit.ensures.short ((held_of asker.station).count % 32) c.args.command.now opened.readable in
    let same = ap (λ (m : List ℕ). length m) sent.message in
    omega (arith, same, short)

pub returns-in_ok-enter_opened-in-Ok : goal.returns-in_ok-enter_opened-in-Ok
returns-in_ok-enter_opened-in-Ok g c = record {
  goes_on = λ terms past running may.
      let setting = setting_of (rules_of g.P.Platform.answer g.P.Platform.after g.P.Platform.sensed) terms in
      let e = c.args.eid in
      let s = running.sides e may.known in
      let asker = c.in-Some.asker in
      let at = c.from.ensures ∙ c.get.ensures.value in
      let same = place_holds c.args.self.now.places.items e c.from.result c.index_mut.result.now s.0 asker at c.index_mut.ensures.value s.1 c.in-Some.is in
      let opening = c.in_ok-own-in-Some.ensures in
      let opened = subst (λ o. IfOk o (IsOpenedAs (held_of asker.station) c.args.now c.args.command.now)) c.in-Ok.is opening.opened in
      let held = subst (λ o. OnOk o (IsHeld (held_of c.open.new.self.station) (opened_held (held_of asker.station) c.args.now c.args.command.now))) c.in-Ok.is opening.held in
      let fits = c.messages_fit.ensures.command ((held_of asker.station).count % 32) c.args.command.now opened.readable in
      let sent = sent_is (held_of asker.station) (held_of c.open.new.self.station) c.args.now c.args.command.now c.in-Ok.own held opened fits.0 fits.1 c.sent.result c.sent.ensures.own c.sent.ensures.header c.sent.ensures.packet in
      let counted : c.len-number.result ≡ length c.args.self.now.journal.requests.items = (let l = c.len-number.ensures in omega (arith, l)) in
      let numbers = subst (λ o. OnOk o (c.open.new.self.numbers ≡ asker.numbers ++ c.len-number.result ∷ [])) c.in-Ok.is opening.numbers in
      let entered = c.in_ok-enter_opened-in-Ok.ensures in
      subst (λ i. IsRunning setting (record { moment = c.args.now; action = open_for e c.args.command.now } ∷ past) (with_side (held_by c.args.self.now) i c.open.new.self c.enter_opened.new.self)) (sym at)
      (opened_runs setting past (held_by c.args.self.now) c.enter_opened.new.self running c.args.now may.later e may.known c.args.command.now c.open.new.self
      c.looks_back.ensures.open c.looks_back.ensures.same c.commands_are_read_back.ensures.written_reads_back c.messages_fit.ensures.command c.sent.result
      (record {
        is_sent = subst (λ (a : Side). IsSent (held_of a.station) c.args.now c.args.command.now c.sent.result) same sent;
        new_held = subst (λ (a : Side). IsHeld (held_of c.open.new.self.station) (opened_held (held_of a.station) c.args.now c.args.command.now)) same held;
        more_numbers = numbers ∙ ap (λ n. asker.numbers ++ n ∷ []) counted ∙ ap (λ (a : Side). a.numbers ++ length c.args.self.now.journal.requests.items ∷ []) same;
        new_entries = entered.entries;
        new_requests = entered.requests;
        new_traffic = entered.traffic;
        new_order = entered.order;
        timely = entered.timely;
      }));
  performs = λ terms past running may. g.met.P.Platform.none_performed c.args.self.now.responder.platform;
}

pub returns-in_ok-enter-in-Err : goal.returns-in_ok-enter-in-Err
returns-in_ok-enter-in-Err g c = record {
  goes_on = λ terms past running may.
      let setting = setting_of (rules_of g.P.Platform.answer g.P.Platform.after g.P.Platform.sensed) terms in
      let e = c.args.eid in
      let s = running.sides e may.known in
      let asker = c.in-Some.asker in
      let at = c.from.ensures ∙ c.get.ensures.value in
      let same = place_holds c.args.self.now.places.items e c.from.result c.index_mut.result.now s.0 asker at c.index_mut.ensures.value s.1 c.in-Some.is in
      let opening = c.in_ok-own-in-Some.ensures in
      let fault = c.in-Err.fault in
      let refused = subst (λ o. IfErr o (λ f. opening_answer (held_of asker.station) c.args.now ≡ Err f)) c.in-Err.is opening.refused in
      let kept = subst (λ o. IfErr o (λ f. IsHeld (held_of c.open.new.self.station) (held_of asker.station) × (c.open.new.self.numbers ≡ asker.numbers))) c.in-Err.is opening.same in
      let entered = c.in_ok-enter-in-Err.ensures in
      subst (λ i. IsRunning setting (record { moment = c.args.now; action = open_for e c.args.command.now } ∷ past) (with_side (held_by c.args.self.now) i c.open.new.self c.enter.new.self)) (sym at)
      (refused_runs setting past (held_by c.args.self.now) c.enter.new.self running c.args.now may.later e may.known c.args.command.now c.open.new.self
      c.looks_back.ensures.open c.looks_back.ensures.same fault
      (record {
        answer = ap (λ (a : Side). opening_answer (held_of a.station) c.args.now) (sym same) ∙ refused;
        new_held = subst (λ (a : Side). IsHeld (held_of c.open.new.self.station) (held_of a.station)) same kept.0;
        same_numbers = kept.1 ∙ ap (λ (a : Side). a.numbers) same;
        requests = entered.requests;
        writes = record { entries = entered.entries; traffic = entered.traffic; order = entered.order };
        timely = entered.timely;
      }));
  performs = λ terms past running may. g.met.P.Platform.none_performed c.args.self.now.responder.platform;
}
