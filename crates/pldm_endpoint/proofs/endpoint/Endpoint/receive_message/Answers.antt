use Rattle.pldm_endpoint.specs.TwoSteps.{EndpointView}
use Rattle.pldm_endpoint.proofs.EndedMessages.{dropped_is}
use Rattle.pldm_endpoint.proofs.RefusedRequests.{if_error, refused_packet}
use Rattle.pldm_endpoint.proofs.endpoint.Endpoint.receive_message.Goals as goal

pub returns-in-Ok-Decided-Request-clause-refused : goal.returns-in-Ok-Decided-Request-clause-refused
returns-in-Ok-Decided-Request-clause-refused c =
    let arrived = rw c.in-Ok-Decided-Request.field-0-0-is at (rw c.in-Ok-Decided-Request.field-0-is at c.in-Ok-Decided-Request.ensures) in
    let e : EndpointView = record { end = c.self.inside.end; handed_on = c.self.inside.handed_on; pending = c.self.inside.pending; count = c.self.inside.count; max_pending = c.self.inside.max_pending } in
    let taken : EndpointView = record { end = c.take.new.self; handed_on = c.self.inside.handed_on; pending = c.self.inside.pending; count = c.self.inside.count; max_pending = c.self.inside.max_pending } in
    if_error c.serve.result (λ refusal h.
    refused_packet e c.args.self.now taken c.serve.new.self c.args.now c.args.bytes.now c.in-Ok-Decided-Request.request refusal c.self.view_is
    (λ i. record { end = arrived.ok.left.0 i; handed_on = c.self.inside.handed_on; pending = c.self.inside.pending; count = c.self.inside.count; max_pending = c.self.inside.max_pending })
    arrived.ok.arrival (λ past. cc (arrived.open_messages.1 past)) h)
    c.serve.ensures.refused

pub returns-in-Ok-Decided-Dropped-clause-received : goal.returns-in-Ok-Decided-Dropped-clause-received
returns-in-Ok-Decided-Dropped-clause-received c =
    let arrived = rw c.in-Ok-Decided-Dropped.field-0-0-is at (rw c.in-Ok-Decided-Dropped.field-0-is at c.in-Ok-Decided-Dropped.ensures) in
    let e : EndpointView = record { end = c.self.inside.end; handed_on = c.self.inside.handed_on; pending = c.self.inside.pending; count = c.self.inside.count; max_pending = c.self.inside.max_pending } in
    dropped_is e c.args.self.now c.take.new.self c.args.now c.args.bytes.now c.in-Ok-Decided-Dropped.reason c.self.view_is
    arrived.ok.arrival arrived.ok.left (λ past. cc (arrived.open_messages.1 past))
