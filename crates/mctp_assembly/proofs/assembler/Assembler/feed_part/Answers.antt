use Rattle.std.proofs.Common.{[], ap, ◌∙◌}
use Rattle.mctp_packet.specs.declared.TheConstants.{MAX_PACKETS}
use Rattle.mctp_assembly.specs.Steps.{answer_to}
use Rattle.mctp_assembly.proofs.HeldEntries.{held_at, left_in, gives_by, ok_by}
use Rattle.mctp_assembly.proofs.PacketEnds.{after_unended}
use Rattle.mctp_assembly.proofs.assembler.Assembler.feed_part.Goals as goal

pub returns-clause-fed : goal.returns-clause-fed
returns-clause-fed c =
    gives_by c.take_part.result _ _ _ (c.take_part.ensures.fed [])
    (ap (λ o. answer_to MAX_PACKETS o c.args.packet.now)
    (held_at c.self.inside.messages c.args.self.now c.of.result _ c.number.result c.self.view_is c.of.ensures.range c.number.ensures.value c.of.ensures.value))

pub returns-clause-ok : goal.returns-clause-ok
returns-clause-ok c =
    ok_by c.take_part.result c.take_part.ensures.ok
    (λ change. left_in c.self.inside.messages c.take_part.new.self c.args.self.now c.of.result c.number.result c.args.packet.now c.self.view_is c.of.ensures.range c.number.ensures.value c.of.ensures.value change
    ∙ after_unended c.args.self.now c.args.packet.now c.requires)
