use Rattle.std.proofs.Common.{Some, Result, Ok, Err, IfOk, refl, subst}
use Rattle.pldm_endpoint.specs.declared.step.ReceiveRefusal.{ReceiveRefusal}
use Rattle.bus_endpoint.specs.declared.step.BusStep.{BusStep}
use Rattle.pldm_endpoint.specs.Stepping.{stepping}
use Rattle.bus_endpoint.specs.BusViews.{BusView}
use Rattle.bus_endpoint.specs.Coming.{HasCome, control_answer}
use Rattle.bus_endpoint.specs.declared.step.BusStep.TheVariants.{Pldm}
use Rattle.bus_endpoint.proofs.Come.{come_dropped, come_taken}
use Rattle.bus_endpoint.proofs.OneEid.{one_with, received_own}
use Rattle.bus_endpoint.proofs.bus_endpoint.BusEndpoint.receive_message.Goals as goal

pub invariant_of-self-in_default : goal.invariant_of-self-in_default
invariant_of-self-in_default c =
    let reply = c.receive_message.new.reply.items in
    one_with c.self.inside.endpoint c.receive_message.new.self c.self.inside.control
    (received_own c.self.inside.endpoint c.receive_message.new.self c.args.now c.args.bytes.now (stepping reply c.in_ok-step.step) c.in_ok-step.ensures.received)
    c.self.invariant

pub returns-in_default-clause-come : goal.returns-in_default-clause-come
returns-in_default-clause-come c =
    let reply = c.receive_message.new.reply.items in
    let old : BusView = record { endpoint = c.self.inside.endpoint; control = c.self.inside.control } in
    let new : BusView = record { endpoint = c.receive_message.new.self; control = c.self.inside.control } in
    subst (λ (v : BusView). HasCome v c.args.now c.args.bytes.now new reply (Pldm c.in_ok-step.step)) c.self.view_is
    (come_taken old c.args.now c.args.bytes.now reply c.receive_message.new.self c.in_ok-step.step c.in_ok-step.ensures.received (c.in_default.ensures reply))

pub invariant_of-self-2 : goal.invariant_of-self-2
invariant_of-self-2 c =
    let reply = c.receive_message.new.reply.items in
    one_with c.self.inside.endpoint c.receive_message.new.self c.self.inside.control
    (received_own c.self.inside.endpoint c.receive_message.new.self c.args.now c.args.bytes.now (stepping reply c.in_ok-step.step) c.in_ok-step.ensures.received)
    c.self.invariant

-- what holds of a step that was taken
come : {P Q : BusStep → Type 0} (result : Result BusStep ReceiveRefusal) → IfOk result P → ((step : BusStep) → P step → Q step) → IfOk result Q
come (Ok step) is more = more step is
come (Err refusal) is more = tt

pub returns-clause-come : goal.returns-clause-come
returns-clause-come c =
    let reply = c.receive_message.new.reply.items in
    let old : BusView = record { endpoint = c.self.inside.endpoint; control = c.self.inside.control } in
    let new : BusView = c.take_drop.new.self in
    let answer = control_answer c.self.inside.control c.args.now (Some c.in-Some.reason) c.args.bytes.now in
    come c.take_drop.result (c.take_drop.ensures.step reply)
    (λ step is. subst (λ (v : BusView). HasCome v c.args.now c.args.bytes.now new reply step) c.self.view_is
    (come_dropped old c.args.now c.args.bytes.now reply c.receive_message.new.self new.endpoint new.control (stepping reply c.in_ok-step.step) c.in-Some.reason
    answer step
    c.in_ok-step.ensures.received (c.in-Some.ensures reply) is
    refl c.take_drop.ensures.control c.take_drop.ensures.in_step))

pub returns-clause-some : goal.returns-clause-some
returns-clause-some c = c.take_drop.ensures.some c.receive_message.new.reply.items c.in_ok-step.ensures.some
