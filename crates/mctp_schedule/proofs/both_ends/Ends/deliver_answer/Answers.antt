-- A packet of an answer is one more call of its requester; where there is none, nothing comes of the step.
use Rattle.std.proofs.Common.{◌≡◌, ◌+◌, ◌-◌, ◌∷◌, ◌++◌, [], List, ℕ, length, Option, None, Some, sym, ap, subst, ◌∙◌, arith}
use Rattle.std.specs.Prelude.{◌||◌, ◌&&◌, not, is_some, nat_le, option_map, slice_index_or}
use Rattle.mctp_packet.specs.Packets.{written}
use Rattle.pldm_responder.specs.Performing.{rules_of}
use Rattle.pldm_wire.specs.declared.command.Command.{Command}
use Rattle.pldm_requester.specs.Slots.{held_of}
use Rattle.pldm_requester.specs.Steps.{IsHeld, arrived_by, got_at, passed, received_held}
use Rattle.mctp_schedule.specs.Askers.{Side, ReportsReply}
use Rattle.mctp_schedule.specs.Entries.{got_entry}
use Rattle.mctp_schedule.specs.HandedPackets.{got_from}
use Rattle.mctp_schedule.specs.Logs.{asked_at}
use Rattle.mctp_schedule.specs.Requests.{Request}
use Rattle.mctp_schedule.specs.HeldRuns.{held_by}
use Rattle.mctp_schedule.specs.Running.{IsRunning, answer_action, setting_of}
use Rattle.mctp_schedule.specs.Worlds.{handed, is_timely, source_of, tag_is_own, time_now, world}
use Rattle.mctp_schedule.proofs.LoggedRequests.{asked_below}
use Rattle.mctp_schedule.proofs.AfterCall.{with_side, nothing_runs, or_within, place_holds}
use Rattle.mctp_schedule.proofs.CommandsPerformed.{answers_perform_none}
use Rattle.mctp_schedule.proofs.FoundRequester.{finds, its_side}
use Rattle.mctp_schedule.proofs.HandedAnswerPackets.{asked_of, done_is, entry_is, not_some, timely_is, written as brought}
use Rattle.mctp_schedule.proofs.ListPlaces.{get_or, or_get}
use Rattle.mctp_schedule.proofs.AfterAnswerPacket.{hand_runs, tag_kept, answered_below}
use Rattle.mctp_schedule.proofs.AskerCalls.{is_answered, reports_reply}
use Rattle.mctp_schedule.proofs.both_ends.Ends.deliver_answer.Goals as goal

pub returns-in_default : goal.returns-in_default
returns-in_default g c = record {
  goes_on = λ terms past running may.
      let setting = setting_of (rules_of g.P.Platform.answer g.P.Platform.after g.P.Platform.sensed) terms in
      let w = world setting past in
      let k = c.args.number in
      let journal = c.args.self.now.journal in
      let nothing = not_some c.latest_answer_packet.result c.in_default.not-Some in
      let brings = sym (brought setting past (held_by c.args.self.now) running c.args.busy k c.args.packet c.requires.first) ∙ sym c.latest_answer_packet.ensures ∙ ap (option_map (λ found. written found)) nothing in
      let entered = c.in_ok-enter.ensures in
      nothing_runs setting past (held_by c.args.self.now) c.enter.new.self running c.args.now may.later (answer_action c.args.busy k c.args.packet)
      (done_is setting w c.args.busy c.args.now k c.args.packet ∙ ap (handed setting w c.args.now (source_of (asked_at w.log k))) brings)
      (record {
        entries = entered.entries ∙ ap (λ x. journal.entries ++ x ∷ []) (sym (entry_is setting w c.args.busy c.args.now k c.args.packet ∙ ap (λ o. got_entry (got_from setting w (source_of (asked_at w.log k)) o)) brings));
        requests = entered.requests;
        traffic = entered.traffic;
        order = entered.order;
        timely = entered.timely;
      })
      (ap (λ b. b && is_timely setting past) (timely_is setting w c.args.busy c.args.now k c.args.packet ∙ ap (λ o. not (is_some o) || tag_is_own setting w (asked_at w.log k)) brings));
  performs = λ terms past running may.
      let platform = c.args.self.now.responder.platform in
      let log = (world (setting_of (rules_of g.P.Platform.answer g.P.Platform.after g.P.Platform.sensed) terms) past).log in
      subst (λ (cs : List Command). g.P.Platform.performed platform cs platform) (sym (answers_perform_none g.row.P-State.Denot terms.window terms.keep log c.args.now c.args.number c.args.packet c.args.busy))
      (g.met.P.Platform.none_performed platform);
}

pub index-request-requires : goal.index-request-requires
index-request-requires g c =
    let terms = c.requires.steps.0 in
    let past = c.requires.steps.1 in
    let running = c.requires.steps.2 in
    let setting = setting_of (rules_of g.P.Platform.answer g.P.Platform.after g.P.Platform.sensed) terms in
    let w = world setting past in
    let k = c.args.number in
    let journal = c.args.self.now.journal in
    let brings = sym (brought setting past (held_by c.args.self.now) running c.args.busy k c.args.packet c.requires.first) ∙ sym c.in-Some.ensures in
    let asked = asked_of setting w c.args.busy k c.args.packet (written c.in-Some.handed) brings in
    let q = asked.0 in
    let below = asked_below w.log k q asked.1 in
    let count = running.counted in
    omega (arith, below, count)

pub index_mut-requires : goal.index_mut-requires
index_mut-requires g c =
    let terms = c.requires.steps.0 in
    let past = c.requires.steps.1 in
    let running = c.requires.steps.2 in
    let setting = setting_of (rules_of g.P.Platform.answer g.P.Platform.after g.P.Platform.sensed) terms in
    let f = finds setting past (held_by c.args.self.now) running c.args.busy c.args.number c.args.packet (written c.in-Some.handed) c.index-request.result.now c.from-place.result c.requires.first c.in-Some.ensures c.index-request.ensures (c.from-place.ensures ∙ c.get.ensures.value ∙ c.requester.ensures) in
    let s = its_side setting past (held_by c.args.self.now) running c.args.busy c.args.number c.args.packet (written c.in-Some.handed) c.index-request.result.now c.from-place.result f in
    let below = or_within c.args.self.now.places.items f.q.source s.0 s.1 in
    (let at = f.at in omega (arith, below, at))

pub receive-requires : goal.receive-requires
receive-requires g c =
    let terms = c.requires.steps.0 in
    let past = c.requires.steps.1 in
    let running = c.requires.steps.2 in
    let setting = setting_of (rules_of g.P.Platform.answer g.P.Platform.after g.P.Platform.sensed) terms in
    let f = finds setting past (held_by c.args.self.now) running c.args.busy c.args.number c.args.packet (written c.in-Some.handed) c.index-request.result.now c.from-place.result c.requires.first c.in-Some.ensures c.index-request.ensures (c.from-place.ensures ∙ c.get.ensures.value ∙ c.requester.ensures) in
    let s = its_side setting past (held_by c.args.self.now) running c.args.busy c.args.number c.args.packet (written c.in-Some.handed) c.index-request.result.now c.from-place.result f in
    let found = c.index_mut.result.now in
    let asker = c.in-Some-index_mut.asker in
    let same = place_holds c.args.self.now.places.items f.q.source c.from-place.result found s.0 asker f.at c.index_mut.ensures.value s.1 c.in-Some-index_mut.is in
    let called = s.2.called in
    let later = c.requires.steps.3.later in
    let last = ap (λ (x : Side). (held_of x.station).last) same in
    omega (arith, called, later, last)

pub answered-requires : goal.answered-requires
answered-requires g c =
    let terms = c.requires.steps.0 in
    let past = c.requires.steps.1 in
    let running = c.requires.steps.2 in
    let setting = setting_of (rules_of g.P.Platform.answer g.P.Platform.after g.P.Platform.sensed) terms in
    let f = finds setting past (held_by c.args.self.now) running c.args.busy c.args.number c.args.packet (written c.in-Some.handed) c.index-request.result.now c.from-place.result c.requires.first c.in-Some.ensures c.index-request.ensures (c.from-place.ensures ∙ c.get.ensures.value ∙ c.requester.ensures) in
    let s = its_side setting past (held_by c.args.self.now) running c.args.busy c.args.number c.args.packet (written c.in-Some.handed) c.index-request.result.now c.from-place.result f in
    let found = c.index_mut.result.now in
    let asker = c.in-Some-index_mut.asker in
    let same = place_holds c.args.self.now.places.items f.q.source c.from-place.result found s.0 asker f.at c.index_mut.ensures.value s.1 c.in-Some-index_mut.is in
    let gave = c.in_ok-got-in-Some-index_mut in
    let received = gave.ensures in
    is_answered asker c.receive.new.self c.args.now (written c.in-Some.handed) gave.got received.held received.got received.numbers
    (subst (λ (x : Side). length x.numbers ≡ (held_of x.station).count) (sym same) (ap (λ (xs : List ℕ). length xs) s.2.numbers ∙ s.2.counted ∙ sym s.2.left.count))

pub unreachable-requires : goal.unreachable-requires
unreachable-requires g c =
    let terms = c.requires.steps.0 in
    let past = c.requires.steps.1 in
    let running = c.requires.steps.2 in
    let setting = setting_of (rules_of g.P.Platform.answer g.P.Platform.after g.P.Platform.sensed) terms in
    let f = finds setting past (held_by c.args.self.now) running c.args.busy c.args.number c.args.packet (written c.in-Some.handed) c.index-request.result.now c.from-place.result c.requires.first c.in-Some.ensures c.index-request.ensures (c.from-place.ensures ∙ c.get.ensures.value ∙ c.requester.ensures) in
    let s = its_side setting past (held_by c.args.self.now) running c.args.busy c.args.number c.args.packet (written c.in-Some.handed) c.index-request.result.now c.from-place.result f in
    let found = c.index_mut.result.now in
    let there = get_or c.args.self.now.places.items f.q.source None (or_within c.args.self.now.places.items f.q.source s.0 s.1) ∙ ap Some s.1 in
    let read : found ≡ Some s.0 = c.index_mut.ensures.value ∙ ap (λ i. slice_index_or c.args.self.now.places.items i found) f.at ∙ or_get c.args.self.now.places.items f.q.source found (Some s.0) there in
    let wrong : ◌≡◌ {A = Option Side} None (Some s.0) = sym c.in-None.is ∙ read in
    cc

pub enter_received-requires : goal.enter_received-requires
enter_received-requires g c =
    let terms = c.requires.steps.0 in
    let past = c.requires.steps.1 in
    let running = c.requires.steps.2 in
    let setting = setting_of (rules_of g.P.Platform.answer g.P.Platform.after g.P.Platform.sensed) terms in
    let f = finds setting past (held_by c.args.self.now) running c.args.busy c.args.number c.args.packet (written c.in-Some.handed) c.index-request.result.now c.from-place.result c.requires.first c.in-Some.ensures c.index-request.ensures (c.from-place.ensures ∙ c.get.ensures.value ∙ c.requester.ensures) in
    let s = its_side setting past (held_by c.args.self.now) running c.args.busy c.args.number c.args.packet (written c.in-Some.handed) c.index-request.result.now c.from-place.result f in
    let found = c.index_mut.result.now in
    let asker = c.in-Some-index_mut.asker in
    let same = place_holds c.args.self.now.places.items f.q.source c.from-place.result found s.0 asker f.at c.index_mut.ensures.value s.1 c.in-Some-index_mut.is in
    let gave = c.in_ok-got-in-Some-index_mut in
    answered_below setting (world setting past) (time_now past) f.q.source s.0 s.2 (written c.in-Some.handed) c.answered.result (length c.args.self.now.journal.requests.items) (sym running.counted)
    (subst (λ (x : Side). ReportsReply x.numbers (arrived_by (held_of x.station) (passed (held_of x.station) (written c.in-Some.handed))) c.answered.result) same (reports_reply asker c.receive.new.self c.args.now (written c.in-Some.handed) gave.got gave.ensures.held gave.ensures.got gave.ensures.numbers c.answered.result c.answered.ensures))

pub returns : goal.returns
returns g c = record {
  goes_on = λ terms past running may.
      let setting = setting_of (rules_of g.P.Platform.answer g.P.Platform.after g.P.Platform.sensed) terms in
      let f = finds setting past (held_by c.args.self.now) running c.args.busy c.args.number c.args.packet (written c.in-Some.handed) c.index-request.result.now c.from-place.result c.requires.first c.in-Some.ensures c.index-request.ensures (c.from-place.ensures ∙ c.get.ensures.value ∙ c.requester.ensures) in
      let s = its_side setting past (held_by c.args.self.now) running c.args.busy c.args.number c.args.packet (written c.in-Some.handed) c.index-request.result.now c.from-place.result f in
      let found = c.index_mut.result.now in
      let asker = c.in-Some-index_mut.asker in
      let same = place_holds c.args.self.now.places.items f.q.source c.from-place.result found s.0 asker f.at c.index_mut.ensures.value s.1 c.in-Some-index_mut.is in
      let gave = c.in_ok-got-in-Some-index_mut in
      let received = gave.ensures in
      let entered = c.in_ok-enter_received.ensures in
      let own = c.number-own.ensures ∙ ap (λ (x : Request). x.asked.own) f.request_is in
      let count = c.count.ensures ∙ ap (λ (x : Side). (held_of x.station).count) same in
      let before : c.saturating_sub.result ≡ c.count.result - 8 = (let sub = c.saturating_sub.ensures in let eight = c.from.ensures in omega (arith, sub, eight)) in
      subst (λ i. IsRunning setting (record { moment = c.args.now; action = answer_action c.args.busy c.args.number c.args.packet } ∷ past) (with_side (held_by c.args.self.now) i c.receive.new.self c.enter_received.new.self)) (sym f.at)
      (hand_runs setting past (held_by c.args.self.now) c.enter_received.new.self running c.args.now may.later
      c.args.busy c.args.number c.args.packet (written c.in-Some.handed) f.q f.is f.brings c.receive.new.self gave.got c.answered.result (nat_le c.saturating_sub.result c.number-own.result)
      c.looks_back.ensures.receive c.looks_back.ensures.same
      (record {
        same_numbers = received.numbers ∙ ap (λ (x : Side). x.numbers) same;
        new_held = subst (λ (x : Side). IsHeld (held_of c.receive.new.self.station) (received_held (held_of x.station) c.args.now (written c.in-Some.handed))) same received.held;
        got_is = received.got ∙ ap (λ (x : Side). got_at (held_of x.station) (written c.in-Some.handed)) same;
        reports = subst (λ (x : Side). ReportsReply x.numbers (arrived_by (held_of x.station) (passed (held_of x.station) (written c.in-Some.handed))) c.answered.result) same (reports_reply asker c.receive.new.self c.args.now (written c.in-Some.handed) gave.got received.held received.got received.numbers c.answered.result c.answered.ensures);
        time_is = ap (λ n. nat_le n c.number-own.result) before ∙ ap (nat_le (c.count.result - 8)) own ∙ tag_kept c.count.result f.q.own ∙ ap (λ n. nat_le n (f.q.own + 8)) count;
        requests = entered.requests.each;
        counted = entered.requests.all;
        writes = record { entries = entered.entries; traffic = entered.traffic; order = entered.order };
        timely = entered.timely;
      }));
  performs = λ terms past running may.
      let platform = c.args.self.now.responder.platform in
      let log = (world (setting_of (rules_of g.P.Platform.answer g.P.Platform.after g.P.Platform.sensed) terms) past).log in
      subst (λ (cs : List Command). g.P.Platform.performed platform cs platform) (sym (answers_perform_none g.row.P-State.Denot terms.window terms.keep log c.args.now c.args.number c.args.packet c.args.busy))
      (g.met.P.Platform.none_performed platform);
}
