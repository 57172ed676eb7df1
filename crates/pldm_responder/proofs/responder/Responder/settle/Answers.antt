use Rattle.std.proofs.Common.{rules, ◌≡◌, ◌<◌, ◌∙◌, true, false, ap, length, subst}
use Rattle.pldm_wire.specs.Headers.{id_at}
use Rattle.pldm_responder.specs.Arrivals.{Whole}
use Rattle.pldm_responder.specs.Ends.{held_by, held_over}
use Rattle.pldm_responder.specs.ResponderStates.{IsHeld}
use Rattle.pldm_responder.specs.Looking.{end_finished, message_at}
use Rattle.pldm_responder.specs.Performing.{rules_of}
use Rattle.pldm_responder.specs.ResponderViews.{held_of}
use Rattle.pldm_responder.specs.Steps.{arrival_held, performs}
use Rattle.pldm_responder.specs.declared.arriving.RequestClass.TheVariants.{Fresh}
use Rattle.pldm_responder.proofs.KeptEntries.{all_answered, fresh_is_performed, not_performed, reply_has_bytes}
use Rattle.pldm_responder.proofs.QuietRequests.{not_true, still_held}
use Rattle.pldm_responder.proofs.ServedRequests.{served_where_performed}
use Rattle.pldm_responder.proofs.responder.Responder.settle.Goals as goal

pub returns-then-ne-clause-ok : goal.returns-then-ne-clause-ok
returns-then-ne-clause-ok g c =
    let r = c.args.request.now in
    let m = message_at c.args.now r in
    let done : c.standing.result ≡ Fresh → ⊥ = λ fresh. search rules in
    let some = reply_has_bytes (held_by c.self.inside.end) m c.standing.new.reply.items c.standing.result c.standing.ensures.standing c.standing.ensures.reply
    (all_answered (λ e. 0 < length e.answer) (id_at r.bytes) _ (c.self.invariant.1 r.source)) done in
    let none = not_performed (held_by c.self.inside.end) m c.standing.result c.standing.ensures.standing done in
    let device = rules_of g.P.Platform.answer g.P.Platform.after g.P.Platform.sensed in
    let quiet : performs (held_over (g.P.Platform.state c.self.inside.platform) c.self.inside.end) m ≡ false = not_true _ none in
    record {
      outcome_is = search rules;
      some = search (rules, some);
      held = subst (λ station. IsHeld (held_over (g.P.Platform.state c.self.inside.platform) c.finish.new.self) (record (arrival_held device (held_of station) (Whole m)) { open_messages = (end_finished station.end c.args.now r).open_messages; last = c.args.now }))
          c.self.view_is (still_held device (record { end = c.self.inside.end; platform = c.self.inside.platform; state = g.P.Platform.state c.self.inside.platform }) c.finish.new.self c.args.now r quiet c.finish.ensures);
      performed = search (rules, quiet, subst (λ station. performs (held_of station) m ≡ false) c.self.view_is quiet);
      fits = λ performed. absurd (none (search rules));
      room = search rules;
      bounds = search rules;
    }

pub returns-clause-ok : goal.returns-clause-ok
returns-clause-ok g c =
    let r = c.args.request.now in
    let m = message_at c.args.now r in
    let device = rules_of g.P.Platform.answer g.P.Platform.after g.P.Platform.sensed in
    let fresh : c.standing.result ≡ Fresh = search rules in
    served_where_performed g.P.Platform.performed c.args.self.now c.perform.new.self (record { end = c.finish-2.new.self; platform = c.self-2.inside.platform; state = g.P.Platform.state c.self-2.inside.platform }) c.args.now r device c.perform.new.reply.items c.in_ok-changed.changed
    (subst (λ station. performs (held_of station) m ≡ true) c.self.view_is (fresh_is_performed (held_over (g.P.Platform.state c.self.inside.platform) c.self.inside.end) m c.standing.result c.standing.ensures.standing fresh))
    c.in_ok-changed.ensures.ok
    (c.finish-2.ensures ∙ ap (λ s. end_finished s.end c.args.now r) c.self-2.view_is)
    (ap (λ s. s.platform) c.self-2.view_is) (ap (λ s. s.state) c.self-2.view_is)
