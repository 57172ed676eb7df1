use Rattle.std.proofs.Common.{ap, ◌∙◌}
use Rattle.mctp_packet.specs.declared.TheConstants.{MAX_PACKETS}
use Rattle.mctp_assembly.specs.Steps.{answer_to}
use Rattle.mctp_assembly.proofs.HeldEntries.{held_at}
use Rattle.mctp_assembly.proofs.assembler.Assembler.look_into.Goals as goal

pub returns-in-Some : goal.returns-in-Some
returns-in-Some c =
    c.look_into.ensures
    ∙ ap (λ o. answer_to MAX_PACKETS o c.args.packet.now)
    (c.in-Some.ensures ∙ held_at c.self.inside.messages c.args.self.now c.of.result _ c.number.result c.self.view_is c.of.ensures.range c.number.ensures.value c.of.ensures.value)

pub returns-in-None : goal.returns-in-None
returns-in-None c =
    c.look_alone.ensures
    ∙ ap (λ o. answer_to MAX_PACKETS o c.args.packet.now)
    (c.in-None.ensures ∙ held_at c.self.inside.messages c.args.self.now c.of.result _ c.number.result c.self.view_is c.of.ensures.range c.number.ensures.value c.of.ensures.value)
