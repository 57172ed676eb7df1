use Rattle.std.specs.FinMap as map
use Rattle.std.proofs.Common.{sym, ap, ◌∙◌}
use Rattle.mctp_assembly.proofs.HeldEntries.{small_held}
use Rattle.mctp_assembly.proofs.KeyNumbers.{len_held}
use Rattle.mctp_assembly.proofs.assembler.Assembler.pending.Goals as goal

pub returns-clause-value : goal.returns-clause-value
returns-clause-value c = c.len.ensures.value ∙ sym (len_held c.self.inside.messages c.len.ensures.differ) ∙ ap map.len c.self.view_is

pub returns-clause-small : goal.returns-clause-small
returns-clause-small c = small_held c.self.inside.messages c.args.self.now c.self.view_is c.len.ensures.opened
