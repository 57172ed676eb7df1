use Rattle.std.proofs.Common.{rules, ap, ◌∙◌}
use Rattle.pldm_responder.specs.Arrivals.{request_packet}
use Rattle.pldm_responder.specs.Ends.{End}
use Rattle.pldm_responder.specs.Performing.{rules_of}
use Rattle.pldm_responder.proofs.OpenUnended.{open_unended}
use Rattle.pldm_responder.proofs.RefusedMemory.{refused_part, refused_request}
use Rattle.pldm_responder.proofs.ServedRequests.{on_error, on_ok, received_where_served}
use Rattle.pldm_responder.proofs.responder.Responder.receive_message.Goals as goal

pub returns-in-Ok-Decided-Request-clause-refused : goal.returns-in-Ok-Decided-Request-clause-refused
returns-in-Ok-Decided-Request-clause-refused g c =
    let arrived = rw c.in-Ok-Decided-Request.field-0-0-is at (rw c.in-Ok-Decided-Request.field-0-is at c.in-Ok-Decided-Request.ensures) in
    on_error c.serve.result
    (refused_request g.P.Platform.performed _ c.args.self.now c.args.now c.args.bytes.now g.P.Platform.STEADY c.self.view_is _ _ c.in-Ok-Decided-Request.request
    (λ i. record { end = arrived.ok.left.0 i; platform = c.self.inside.platform; state = g.P.Platform.state c.self.inside.platform })
    arrived.ok.arrival)
    c.serve.ensures.err

pub returns-in-Err-clause-refused : goal.returns-in-Err-clause-refused
returns-in-Err-clause-refused g c =
    refused_part g.P.Platform.performed _ c.args.self.now c.args.now c.args.bytes.now g.P.Platform.STEADY c.self.view_is _
    c.in-Err.ensures.part c.in-Err.ensures.needs
    (λ i. record { end = c.in-Err.ensures.err i; platform = c.self.inside.platform; state = g.P.Platform.state c.self.inside.platform })
    (search rules)

pub returns-in-Ok-Decided-Dropped-clause-received : goal.returns-in-Ok-Decided-Dropped-clause-received
returns-in-Ok-Decided-Dropped-clause-received g c = search (rules, open_unended c.self.inside.end (request_packet c.self.inside.end.own c.args.bytes.now) c.self.invariant.0)

pub returns-in-Ok-Decided-Partial-clause-received : goal.returns-in-Ok-Decided-Partial-clause-received
returns-in-Ok-Decided-Partial-clause-received g c = search (rules, open_unended c.self.inside.end (request_packet c.self.inside.end.own c.args.bytes.now) c.self.invariant.0)

pub returns-in-Ok-Decided-Request-clause-received : goal.returns-in-Ok-Decided-Request-clause-received
returns-in-Ok-Decided-Request-clause-received g c =
    let arrived = rw c.in-Ok-Decided-Request.field-0-0-is at (rw c.in-Ok-Decided-Request.field-0-is at c.in-Ok-Decided-Request.ensures) in
    let open_messages =
    ap (λ (e : End). e.open_messages) arrived.ok.left.2
    ∙ open_unended c.self.inside.end (request_packet c.self.inside.end.own c.args.bytes.now) c.self.invariant.0 in
    on_ok c.serve.result
    (λ taken served. received_where_served g.P.Platform.performed _ _ c.args.self.now c.args.now c.args.bytes.now c.serve.new.self (rules_of g.P.Platform.answer g.P.Platform.after g.P.Platform.sensed)
    c.in-Ok-Decided-Request.request c.serve.new.reply.items taken
    (λ i. record { end = arrived.ok.left.0 i; platform = c.self.inside.platform; state = g.P.Platform.state c.self.inside.platform }) c.self.view_is
    arrived.ok.arrival open_messages served)
    c.serve.ensures.ok
