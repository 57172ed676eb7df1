use Rattle.std.proofs.Common.{◌≡◌, ◌≤◌, ℕ, true, rules, sym, subst, arith}
use Rattle.bus_endpoint.specs.BusViews.{BusView}
use Rattle.bus_endpoint.specs.declared.step.BusStep.{BusStep}
use Rattle.bus_endpoint.specs.declared.step.BusStep.TheVariants.{Pldm}
use Rattle.pldm_endpoint.specs.RequestKeys.{pending_at}
use Rattle.pldm_endpoint.specs.TwoSteps.{IsOfCommand}
use Rattle.pldm_endpoint.specs.declared.step.MessageStep.TheVariants.{Perform}
use Rattle.needleoat_c.proofs.ComeReports.{ReportsBus}
use Rattle.needleoat_c.proofs.TerminusReports.{answering_left, answering_reported, performed}
use Rattle.needleoat_c.specs.Termini.{IsLeftByComing, ReportsComingIn, is_next}
use Rattle.needleoat_c.specs.declared.reports.StepReport.{StepReport}
use Rattle.needleoat_c.proofs.terminus.receive.Goals as goal

pub put_command-requires : goal.put_command-requires
put_command-requires c =
    let is : c.in-Ok-Answering-Pldm.field-0-0 ≡ Pldm (Perform c.in-Perform.handle) = search rules in
    subst (λ (b : BusView). IsOfCommand (pending_at b.endpoint.pending c.in-Perform.handle)) (sym c.answering-in-Perform.ensures)
    (performed c.args.terminus.now c.receive_message.new.self c.in-Some.now c.args.packet.now c.receive_message.new.reply.items
    c.in-Ok-Answering-Pldm.field-0 c.in-Ok-Answering-Pldm.field-0-0 c.in-Perform.handle c.in-Ok-Answering-Pldm.field-0-is is c.in-Ok-Answering-Pldm.ensures.come)

pub returns-in-Ok-Answering-Control-clause-left : goal.returns-in-Ok-Answering-Control-clause-left
returns-in-Ok-Answering-Control-clause-left c =
    let r = c.answering.result in
    let some : 1 ≤ c.control_report.result.kind = omega (arith, c.control_report.ensures.0.0) in
    subst (λ (n : ℕ). IsLeftByComing n c.args.packet.now r c.args.terminus.now c.receive_message.new.self) c.in-Some.ensures.value
    (answering_left c.args.terminus.now c.receive_message.new.self c.in-Some.now c.args.packet.now c.receive_message.new.reply.items
    c.in-Ok-Answering-Control.field-0 c.in-Ok-Answering-Control.field-0-0 r c.in-Ok-Answering-Control.field-0-is c.in-Ok-Answering-Control.ensures.come
    (subst (λ (s : StepReport). 1 ≤ s.kind) (sym c.answering.ensures.step) some))

pub returns-after-step-clause-report : goal.returns-after-step-clause-report
returns-after-step-clause-report c =
    let reply = c.receive_message.new.reply.items in
    let r = c.answering-in-Ok-Answering-Pldm.result in
    let rooms = c.step_report.new.packets in
    let next : is_next c.in-Some.now c.args.terminus.now ≡ true =
    subst (λ (n : ℕ). is_next n c.args.terminus.now ≡ true) (sym c.in-Some.ensures.value) (sym c.in-Some.ensures.some) in
    subst (λ (n : ℕ). ReportsComingIn n c.args.packet.now r rooms c.args.terminus.now) c.in-Some.ensures.value
    (answering_reported c.args.terminus.now c.receive_message.new.self c.in-Some.now c.args.packet.now reply
    c.in-Ok-Answering-Pldm.field-0 c.in-Ok-Answering-Pldm.field-0-0 r rooms c.in-Ok-Answering-Pldm.field-0-is c.in-Ok-Answering-Pldm.ensures.come next
    (subst (λ (s : StepReport). ReportsBus reply c.in-Ok-Answering-Pldm.field-0-0 s rooms) (sym c.answering-in-Ok-Answering-Pldm.ensures.step)
    (subst (λ (s : BusStep). ReportsBus reply s c.step_report.result rooms) (sym c.in-Ok-Answering-Pldm.field-0-0-is) c.step_report.ensures.report))
    c.answering-in-Ok-Answering-Pldm.ensures.of)

pub returns-after-step-clause-left : goal.returns-after-step-clause-left
returns-after-step-clause-left c =
    let r = c.answering-in-Ok-Answering-Pldm.result in
    subst (λ (n : ℕ). IsLeftByComing n c.args.packet.now r c.args.terminus.now c.receive_message.new.self) c.in-Some.ensures.value
    (answering_left c.args.terminus.now c.receive_message.new.self c.in-Some.now c.args.packet.now c.receive_message.new.reply.items
    c.in-Ok-Answering-Pldm.field-0 c.in-Ok-Answering-Pldm.field-0-0 r c.in-Ok-Answering-Pldm.field-0-is c.in-Ok-Answering-Pldm.ensures.come
    (subst (λ (s : StepReport). 1 ≤ s.kind) (sym c.answering-in-Ok-Answering-Pldm.ensures.step) c.step_report.ensures.kind))
