use Rattle.std.proofs.Common.{rules, ◌≡◌, false, subst}
use Rattle.pldm_wire.specs.Headers.{id_at}
use Rattle.pldm_responder.specs.Arrivals.{Whole}
use Rattle.pldm_responder.specs.Ends.{held_by}
use Rattle.pldm_responder.specs.ResponderStates.{IsHeld}
use Rattle.pldm_responder.specs.Looking.{end_finished, message_at}
use Rattle.pldm_responder.specs.declared.arriving.RequestClass.TheVariants.{Fresh}
use Rattle.pldm_responder.specs.Steps.{performs}
use Rattle.pldm_responder.proofs.KeptEntries.{not_performed, reply_has_bytes}
use Rattle.pldm_endpoint.specs.TwoSteps.{EndpointView, held_in, stepped}
use Rattle.pldm_endpoint.proofs.EndedMessages.{not_true}
use Rattle.pldm_endpoint.proofs.PendingGlue.{free_is_answered}
use Rattle.pldm_endpoint.proofs.QuietRequests.{still_held}
use Rattle.pldm_endpoint.proofs.endpoint.Endpoint.serve.Goals as goal

pub returns-then-ne-clause-served : goal.returns-then-ne-clause-served
returns-then-ne-clause-served c =
    let r = c.args.request.now in
    let m = message_at c.args.now r in
    let e : EndpointView = record { end = c.self.inside.end; handed_on = c.self.inside.handed_on; pending = c.self.inside.pending; count = c.self.inside.count; max_pending = c.self.inside.max_pending } in
    let done : c.standing.result ≡ Fresh → ⊥ = λ fresh. search rules in
    let some = reply_has_bytes (held_by c.self.inside.end) m c.standing.new.reply.items c.standing.result c.standing.ensures.standing c.standing.ensures.reply
    (free_is_answered c.self.inside.handed_on c.self.inside.end c.self.inside.pending c.self.inside.count c.self.inside.max_pending r.source (id_at m.bytes) c.self.invariant.0 (search rules)) done in
    let none : performs (held_in e) m ≡ false = not_true _ (not_performed (held_by c.self.inside.end) m c.standing.result c.standing.ensures.standing done) in
    let quiet = subst (λ (x : EndpointView). performs (held_in x) m ≡ false) c.self.view_is none in
    record {
      accepted = search (rules, quiet);
      step_is = search (rules, quiet);
      some = search (rules, some);
      command = search (rules, quiet);
      held = subst (λ (x : EndpointView). IsHeld (held_by c.finish.new.self) (record (stepped x.handed_on (held_in x) (Whole m)) { open_messages = (end_finished x.end c.args.now r).open_messages; last = c.args.now }))
          c.self.view_is (still_held e c.finish.new.self c.args.now r none c.finish.ensures);
      begun = search rules;
      pending = search (rules, quiet);
      count = search (rules, quiet);
      room = search (rules, quiet);
      settings = search rules;
    }
