use Rattle.std.proofs.Common.{ap, ◌∙◌}
use Rattle.pldm_responder.specs.Arrivals.{request_packet}
use Rattle.pldm_responder.specs.Ends.{End}
use Rattle.pldm_responder.specs.Performing.{rules_of}
use Rattle.pldm_responder.specs.ResponderViews.{ResponderView}
use Rattle.pldm_responder.proofs.DroppedPackets.{arrived_in, received_where_dropped}
use Rattle.pldm_responder.proofs.OpenUnended.{open_unended}
use Rattle.pldm_responder.proofs.RefusedMemory.{refused_request}
use Rattle.pldm_responder.proofs.ServedRequests.{on_error, on_ok, received_where_served}
use Rattle.pldm_responder.proofs.responder.Responder.receive_last.Goals as goal

pub returns-in-Dropped-clause-received : goal.returns-in-Dropped-clause-received
returns-in-Dropped-clause-received g c = λ bytes read.
    let here = ap (λ (s : ResponderView _ _). request_packet s.end.own bytes) c.self.view_is ∙ read in
    let arrived = arrived_in _ _ bytes _ _ here c.in-Dropped.ensures in
    received_where_dropped g.P.Platform.performed _ c.args.self.now c.args.now bytes c.take_last.new.self (rules_of g.P.Platform.answer g.P.Platform.after g.P.Platform.sensed) c.in-Dropped.reason
    c.self.view_is arrived.arrival arrived.left
    (open_unended c.self.inside.end (request_packet c.self.inside.end.own bytes) c.self.invariant.0) (g.met.P.Platform.none_performed c.self.inside.platform)

pub returns-in-Request-clause-received : goal.returns-in-Request-clause-received
returns-in-Request-clause-received g c = λ bytes read.
    let here = ap (λ (s : ResponderView _ _). request_packet s.end.own bytes) c.self.view_is ∙ read in
    let arrived = arrived_in _ _ bytes _ _ here c.in-Request.ensures in
    let open_messages =
    ap (λ (e : End). e.open_messages) arrived.left.2
    ∙ open_unended c.self.inside.end (request_packet c.self.inside.end.own bytes) c.self.invariant.0 in
    on_ok c.serve.result
    (λ taken served. received_where_served g.P.Platform.performed _ _ c.args.self.now c.args.now bytes c.serve.new.self (rules_of g.P.Platform.answer g.P.Platform.after g.P.Platform.sensed)
    c.in-Request.request c.serve.new.reply.items taken
    (λ i. record { end = arrived.left.0 i; platform = c.self.inside.platform; state = g.P.Platform.state c.self.inside.platform }) c.self.view_is
    arrived.arrival open_messages served)
    c.serve.ensures.ok

pub returns-in-Request-clause-refused : goal.returns-in-Request-clause-refused
returns-in-Request-clause-refused g c = λ bytes read.
    let here = ap (λ (s : ResponderView _ _). request_packet s.end.own bytes) c.self.view_is ∙ read in
    let arrived = arrived_in _ _ bytes _ _ here c.in-Request.ensures in
    on_error c.serve.result
    (refused_request g.P.Platform.performed _ c.args.self.now c.args.now bytes g.P.Platform.STEADY c.self.view_is _ _ c.in-Request.request
    (λ i. record { end = arrived.left.0 i; platform = c.self.inside.platform; state = g.P.Platform.state c.self.inside.platform })
    arrived.arrival)
    c.serve.ensures.err
