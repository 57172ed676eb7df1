use Rattle.std.proofs.Common.{◌≡◌, ◌≤◌, ℕ, true, sym, subst, arith}
use Rattle.bus_endpoint.specs.declared.step.BusStep.{BusStep}
use Rattle.needleoat_c.proofs.ComeReports.{ReportsBus, come_left, come_reported}
use Rattle.needleoat_c.specs.Endpoints.{IsLeftByPacket, ReportsPacketIn, is_next}
use Rattle.needleoat_c.proofs.endpoint.receive.Goals as goal

pub returns-in-Ok-Control-clause-left : goal.returns-in-Ok-Control-clause-left
returns-in-Ok-Control-clause-left c =
    let some : 1 ≤ c.control_report.result.kind = omega (arith, c.control_report.ensures.0.0) in
    subst (λ (n : ℕ). IsLeftByPacket n c.args.packet.now c.control_report.result.kind c.args.endpoint.now c.receive_message.new.self) c.in-Some.ensures.value
    (come_left c.args.endpoint.now c.receive_message.new.self c.in-Some.now c.args.packet.now c.receive_message.new.reply.items c.in-Ok-Control.field-0 c.control_report.result.kind c.in-Ok-Control.ensures.come some)

pub returns-after-step-clause-report : goal.returns-after-step-clause-report
returns-after-step-clause-report c =
    let reply = c.receive_message.new.reply.items in
    let r = c.step_report.result in
    let next : is_next c.in-Some.now c.args.endpoint.now ≡ true =
    subst (λ (n : ℕ). is_next n c.args.endpoint.now ≡ true) (sym c.in-Some.ensures.value) (sym c.in-Some.ensures.some) in
    subst (λ (n : ℕ). ReportsPacketIn n c.args.packet.now r c.step_report.new.packets c.args.endpoint.now) c.in-Some.ensures.value
    (come_reported c.args.endpoint.now c.receive_message.new.self c.in-Some.now c.args.packet.now reply c.in-Ok-Pldm.field-0 r c.step_report.new.packets c.in-Ok-Pldm.ensures.come next
    (subst (λ (s : BusStep). ReportsBus reply s r c.step_report.new.packets) (sym c.in-Ok-Pldm.field-0-is) c.step_report.ensures.report))

pub returns-after-step-clause-left : goal.returns-after-step-clause-left
returns-after-step-clause-left c =
    subst (λ (n : ℕ). IsLeftByPacket n c.args.packet.now c.step_report.result.kind c.args.endpoint.now c.receive_message.new.self) c.in-Some.ensures.value
    (come_left c.args.endpoint.now c.receive_message.new.self c.in-Some.now c.args.packet.now c.receive_message.new.reply.items c.in-Ok-Pldm.field-0 c.step_report.result.kind c.in-Ok-Pldm.ensures.come c.step_report.ensures.kind)
