use Rattle.std.proofs.Common.{◌∙◌, ap, inl, inr, refl, rules}
use Rattle.pldm_responder.specs.Asked.{Answered}
use Rattle.pldm_responder.specs.Performing as task
use Rattle.pldm_endpoint.specs.declared.step.Step.TheVariants.{Perform, Respond}
use Rattle.fan_board.proofs.ServedSteps.{command_handed, idle_again, idle_done, served_asked, served_done, served_responded}
use Rattle.fan_board.proofs.service.serve.Goals as goal

pub returns-in-Ok-Done-clause-served : goal.returns-in-Ok-Done-clause-served
returns-in-Ok-Done-clause-served c =
    let received = rw c.in-Ok-Done.field-0-is at c.in-Ok-Done.ensures in
    served_done c.args.endpoint.now c.args.now c.args.packet.now c.requires.idle c.receive.new.self c.in-Ok-Done.outcome received.received c.args.board.now

pub returns-in-Ok-Done-clause-idle : goal.returns-in-Ok-Done-clause-idle
returns-in-Ok-Done-clause-idle c =
    let received = rw c.in-Ok-Done.field-0-is at c.in-Ok-Done.ensures in
    idle_done c.args.endpoint.now c.args.now c.args.packet.now c.requires.idle c.receive.new.self c.in-Ok-Done.outcome received.received

pub returns-clause-served : goal.returns-clause-served
returns-clause-served c =
    let received = rw c.in-Ok-Perform.field-0-is at c.in-Ok-Perform.ensures in
    let told = command_handed c.args.endpoint.now c.args.now c.args.packet.now c.requires.idle c.receive.new.self c.in-Ok-Perform.handle (Perform c.in-Ok-Perform.handle) (inl refl) received.received c.in-Some.command.now (search rules) in
    served_asked c.args.endpoint.now c.args.now c.args.packet.now c.requires.idle c.receive.new.self c.in-Ok-Perform.handle (Perform c.in-Ok-Perform.handle) (inl refl) received.received c.answers_come_in_turn.ensures.at_once
    c.args.board.now c.perform-answer.new.self c.answer.new.self (task.Perform c.in-Some.command.now) (Answered c.perform-answer.result) c.in-Ok.outcome
    told (ap Answered c.perform-answer.ensures.answer) c.perform-answer.ensures.after c.in-Ok.ensures.answered

pub returns-clause-idle : goal.returns-clause-idle
returns-clause-idle c =
    let received = rw c.in-Ok-Perform.field-0-is at c.in-Ok-Perform.ensures in
    c.in-Ok.ensures.answered.pending
    ∙ idle_again c.args.endpoint.now c.args.now c.args.packet.now c.requires.idle c.receive.new.self c.in-Ok-Perform.handle (Perform c.in-Ok-Perform.handle) (inl refl) received.received

pub returns-in-Ok-Respond-clause-served : goal.returns-in-Ok-Respond-clause-served
returns-in-Ok-Respond-clause-served c =
    let received = rw c.in-Ok-Respond.field-0-is at c.in-Ok-Respond.ensures in
    served_responded c.args.endpoint.now c.args.now c.args.packet.now c.requires.idle c.receive.new.self c.in-Ok-Respond.handle received.received c.answers_come_in_turn.ensures.at_once
    c.args.board.now c.respond.new.endpoint c.respond.result c.respond.ensures

pub returns-in-Ok-Respond-clause-idle : goal.returns-in-Ok-Respond-clause-idle
returns-in-Ok-Respond-clause-idle c =
    let received = rw c.in-Ok-Respond.field-0-is at c.in-Ok-Respond.ensures in
    c.respond.ensures.pending
    ∙ idle_again c.args.endpoint.now c.args.now c.args.packet.now c.requires.idle c.receive.new.self c.in-Ok-Respond.handle (Respond c.in-Ok-Respond.handle) (inr refl) received.received
