-- The packet of a request is one more call of the responder.
use Rattle.std.proofs.Common.{◌≡◌, ◌<◌, ◌≤◌, ◌+◌, List, sym, ap, subst, ◌∙◌, arith}
use Rattle.std.specs.Prelude.{◌&&◌, ◌||◌, ◌==◌, not, nat_lt, option_map, take, if◌then◌else◌}
use Rattle.std.specs.List.{list_any}
use Rattle.pldm_responder.specs.Answering.{answering}
use Rattle.pldm_responder.specs.Performing.{rules_of}
use Rattle.pldm_responder.specs.Recency.{renewed}
use Rattle.pldm_wire.specs.Headers.{id_at}
use Rattle.pldm_wire.specs.declared.command.Command.{Command}
use Rattle.mctp_schedule.specs.ArrivedIds.{ids_at}
use Rattle.mctp_schedule.specs.Entries.{as_it_stands}
use Rattle.mctp_schedule.specs.Requests.{Request}
use Rattle.mctp_schedule.specs.FirstArrivals.{fresh_of}
use Rattle.mctp_schedule.specs.Logs.{count_of, reached}
use Rattle.mctp_schedule.specs.PerformedCommands.{commands_if}
use Rattle.mctp_schedule.specs.HeldRuns.{held_by}
use Rattle.mctp_schedule.specs.Running.{setting_of}
use Rattle.mctp_schedule.specs.Worlds.{world}
use Rattle.mctp_schedule.proofs.LoggedRequests.{asked_some, none_past}
use Rattle.mctp_schedule.proofs.CommandsPerformed.{delivery_performs}
use Rattle.mctp_schedule.proofs.AfterDelivery.{carried_packet, delivered_runs, never_opened}
use Rattle.mctp_schedule.proofs.ListPlaces.{or_get}
use Rattle.mctp_schedule.proofs.both_ends.Ends.deliver_request.Goals as goal

pub returns-then-number-len : goal.returns-then-number-len
returns-then-number-len g c = record {
  goes_on = λ terms past running may.
      let setting = setting_of (rules_of g.P.Platform.answer g.P.Platform.after g.P.Platform.sensed) terms in
      let entered = c.in_ok-enter.ensures in
      let len = c.len.ensures in
      let above = c.if-number-len.true in
      let count = running.counted in
      let past_all : count_of (world setting past).log ≤ c.args.number = omega (arith, len, above, count) in
      never_opened setting past (held_by c.args.self.now) c.enter.new.self running c.args.now c.args.number may.later
      (none_past (world setting past).log c.args.number past_all)
      (record {
        entries = entered.entries;
        requests = entered.requests;
        traffic = entered.traffic;
        order = entered.order;
        timely = entered.timely;
      });
  performs = λ terms past running may.
      let log = (world (setting_of (rules_of g.P.Platform.answer g.P.Platform.after g.P.Platform.sensed) terms) past).log in
      let len = c.len.ensures in
      let above = c.if-number-len.true in
      let count = running.counted in
      let past_all : count_of log ≤ c.args.number = omega (arith, len, above, count) in
      let platform = c.args.self.now.responder.platform in
      subst (λ o. g.P.Platform.performed platform (commands_if (fresh_of terms.window terms.keep (reached {S = g.row.P-State.Denot} log) c.args.now o) o) platform) (sym (none_past log c.args.number past_all))
      (g.met.P.Platform.none_performed platform);
}

pub returns : goal.returns
returns g c = record {
  goes_on = λ terms past running may.
      let setting = setting_of (rules_of g.P.Platform.answer g.P.Platform.after g.P.Platform.sensed) terms in
      let len = c.len.ensures in
      let below = c.if-number-len.false in
      let count = running.counted in
      let within : c.args.number < count_of (world setting past).log = omega (arith, len, below, count) in
      let asked = asked_some (world setting past).log c.args.number within in
      let entered = c.in_ok-enter_delivered.ensures in
      let w = world setting past in
      let requests = c.args.self.now.journal.requests.items in
      let stands = or_get requests c.args.number c.index-request.result.now (as_it_stands setting w asked.0) (running.requests c.args.number ∙ ap (option_map (as_it_stands setting w)) asked.1) in
      let request = c.index-request.ensures ∙ stands in
      let opening = c.get-2.ensures.value ∙ c.opening.ensures ∙ ap (λ (q : Request). q.asked.opening) request in
      let source = c.requester-source.ensures ∙ ap (λ (q : Request). q.asked.source) request in
      let id = c.instance_id-id.ensures ∙ ap id_at (c.message.ensures ∙ ap (λ (q : Request). q.asked.message) request) in
      let keep = c.from.ensures ∙ c.get-3.ensures.value ∙ running.times in
      let soon : nat_lt c.get.result (c.get-2.result + c.from.result) ≡ nat_lt c.args.now (asked.0.opening + setting.keep) =
      (λ i. nat_lt (c.get.ensures.value i) (opening i + keep i)) in
      delivered_runs setting past (held_by c.args.self.now) c.enter_delivered.new.self running c.args.now c.args.number may.later
      asked.0 asked.1 c.receive_message.new.self c.note.new.self c.as_slice.result.now (answering c.deref.result.now c.in_ok-taken.taken)
      c.has_arrived-arrived.result c.busy-busy.result c.is_in_time-in_time.result
      c.looks_back.ensures.received c.looks_back.ensures.same c.bytes_spell_one_packet.ensures.written c.reading_is_spelling.ensures.read_for
      (record {
        packet_is = c.as_slice.ensures.value ∙ carried_packet setting past (held_by c.args.self.now) running c.args.number asked.0 asked.1 c.write_request_packet.new.packet.items c.write_request_packet.ensures;
        new_held = c.in_ok-taken.ensures.received.held;
        given_outcome = ap (λ message. answering message c.in_ok-taken.taken) c.deref.ensures.0 ∙ c.in_ok-taken.ensures.received.outcome_is;
        given_fits = c.in_ok-taken.ensures.received.fits;
        given_busy = c.busy-busy.ensures;
        given_arrived = c.has_arrived-arrived.ensures;
        given_in_time = c.is_in_time-in_time.ensures
            ∙ (λ i. soon i && (not c.has_arrived-arrived.result || list_any (λ other. other == id i) (take c.args.self.now.window (ids_at c.args.self.now.arrivals (source i)))));
        new_arrivals = λ s. c.in_ok-note.ensures s
            ∙ (λ i. if source i == s && (not c.has_arrived-arrived.result && not c.busy-busy.result) then renewed (λ id. id) (id i) (ids_at c.args.self.now.arrivals s) else ids_at c.args.self.now.arrivals s);
        new_entries = entered.entries;
        new_requests = entered.requests;
        same_count = entered.traffic.all;
        new_traffic = entered.traffic.each;
        new_order = entered.order;
        new_timely = entered.timely;
      });
  performs = λ terms past running may.
      let setting = setting_of (rules_of g.P.Platform.answer g.P.Platform.after g.P.Platform.sensed) terms in
      let len = c.len.ensures in
      let below = c.if-number-len.false in
      let count = running.counted in
      let within : c.args.number < count_of (world setting past).log = omega (arith, len, below, count) in
      let asked = asked_some (world setting past).log c.args.number within in
      subst (λ (cs : List Command). g.P.Platform.performed c.args.self.now.responder.platform cs c.receive_message.new.self.platform)
      (delivery_performs setting past (held_by c.args.self.now) running c.args.now c.args.number
      asked.0 asked.1 c.as_slice.result.now (c.as_slice.ensures.value ∙ carried_packet setting past (held_by c.args.self.now) running c.args.number asked.0 asked.1 c.write_request_packet.new.packet.items c.write_request_packet.ensures)
      c.bytes_spell_one_packet.ensures.written c.reading_is_spelling.ensures.read_for)
      c.in_ok-taken.ensures.received.performed;
}
