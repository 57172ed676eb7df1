-- A packet, by what came of it at the responder.
use Rattle.std.proofs.Common.{◌≡◌, refl, rules, ap, sym, subst, ◌∙◌}
use Rattle.std.specs.Io.KnownBytes.{Appends}
use Rattle.std.specs.List.{flat_map}
use Rattle.mctp_packet.specs.Pieces.{written_packets}
use Rattle.mctp_serial.specs.Frames.{frame}
use Rattle.pldm_line.proofs.PacketsHeard.{packet_heard}
use Rattle.pldm_line.proofs.SameResponder.{same_held}
use Rattle.pldm_line.specs.Events.{Sent}
use Rattle.pldm_line.specs.Heard.{shown}
use Rattle.pldm_line.specs.Serving.{answerers, in_step, moment_after, with_eid}
use Rattle.pldm_responder.specs.Performing.{rules_of}
use Rattle.pldm_responder.specs.ResponderViews.{held_of}
use Rattle.pldm_responder.specs.Steps.{received_commands, received_held, received_outcome}
use Rattle.pldm_responder.specs.declared.outcome.Outcome.TheVariants as outcome
use Rattle.pldm_line.proofs.served_line.hear_packet.Goals as goal

pub returns-in_ok-answer_drop-in-Dropped-clause-heard : goal.returns-in_ok-answer_drop-in-Dropped-clause-heard
returns-in_ok-answer_drop-in-Dropped-clause-heard g c =
    let device = rules_of g.P.Platform.answer g.P.Platform.after g.P.Platform.sensed in
    let held = held_of c.args.line.now.responder in
    let now = c.moment_after-now.result in
    let same : now ≡ moment_after held.last c.in-Ok.reading = search rules in
    let gives : received_outcome device held now c.args.packet.now ≡ outcome.Dropped c.in-Dropped.reason = search rules in
    let control = c.answer_drop.new.control in
    let received = received_held device held now c.args.packet.now in
    let moved : held_of c.keep_in_step.new.responder ≡ with_eid received now control.eid =
    same_held c.keep_in_step.ensures.held ∙ ap (λ h. with_eid h now control.eid) (same_held {held = received} c.in-Ok-receive_message.ensures.received.held) in
    let after = record c.args.line.now {
      responder = c.keep_in_step.new.responder;
      control = c.answer_drop.new.control;
      ticks = c.tick.new.self;
      watch = c.answer_drop.new.watch;
    } in
    packet_heard g.P.Platform.performed device g.L.Watch.sees (shown g.C.Ticks.to_come g.W.Write.contents c.args.line.now c.args.writer.now) c.args.packet.now
    (shown g.C.Ticks.to_come g.W.Write.contents after c.answer_drop.new.writer) c.in-Ok.reading now c.saw.new.self (outcome.Dropped c.in-Dropped.reason)
    same c.in-Ok.ensures.reading gives
    (ap (λ h. answerers h control) moved ∙ ap (in_step received now) c.in_ok-answer_drop-in-Dropped.ensures.control)
    c.in_ok-answer_drop-in-Dropped.ensures.bytes c.saw.ensures c.in_ok-answer_drop-in-Dropped.ensures.seen
    (subst (λ p. g.P.Platform.performed c.args.line.now.responder.platform (received_commands held now c.args.packet.now) p) (sym c.keep_in_step.ensures.platform) c.in-Ok-receive_message.ensures.received.performed)
    (c.keep_in_step.ensures.bounds ∙ c.in-Ok-receive_message.ensures.received.bounds)

pub returns-in_ok-send-in-Answered-clause-heard : goal.returns-in_ok-send-in-Answered-clause-heard
returns-in_ok-send-in-Answered-clause-heard g c =
    let device = rules_of g.P.Platform.answer g.P.Platform.after g.P.Platform.sensed in
    let held = held_of c.args.line.now.responder in
    let now = c.moment_after-now.result in
    let answer = outcome.Answered c.in-Answered.fresh c.in-Answered.changed (written_packets c.in-Answered.route c.receive_message.new.reply.items) in
    let same : now ≡ moment_after held.last c.in-Ok.reading = search rules in
    let gives : received_outcome device held now c.args.packet.now ≡ answer = search rules in
    let wrote : Appends (g.W.Write.contents c.args.writer.now.inner) (g.W.Write.contents c.send.new.writer.inner) (flat_map frame (written_packets c.in-Answered.route c.receive_message.new.reply.items)) = search rules in
    let sent : g.L.Watch.sees c.saw.new.self (Sent now (written_packets c.in-Answered.route c.receive_message.new.reply.items)) c.saw-in-Answered.new.self = search rules in
    let after = record c.args.line.now {
      responder = c.receive_message.new.self;
      ticks = c.tick.new.self;
      watch = c.saw-in-Answered.new.self;
    } in
    packet_heard g.P.Platform.performed device g.L.Watch.sees (shown g.C.Ticks.to_come g.W.Write.contents c.args.line.now c.args.writer.now) c.args.packet.now
    (shown g.C.Ticks.to_come g.W.Write.contents after c.send.new.writer) c.in-Ok.reading now c.saw.new.self answer
    same c.in-Ok.ensures.reading gives
    (ap (λ h. answerers h c.args.line.now.control) (same_held {held = received_held device held now c.args.packet.now} c.in-Ok-receive_message.ensures.received.held)) wrote c.saw.ensures (c.saw-in-Answered.new.self, sent, refl)
    c.in-Ok-receive_message.ensures.received.performed c.in-Ok-receive_message.ensures.received.bounds
