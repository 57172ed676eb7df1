use Rattle.std.proofs.Common.{◌≤◌, length, subst}
use Rattle.mctp_assembly.specs.Numbered.{Numbered}
use Rattle.mctp_assembly.specs.declared.assembler.TheConstants.{MAX_ASSEMBLIES}
use Rattle.mctp_assembly.proofs.OpenPlaces.{few}
use Rattle.mctp_assembly.proofs.messages.Messages.len.Goals as goal

pub returns-clause-few : goal.returns-clause-few
returns-clause-few c = subst (λ (list : Numbered). length list ≤ MAX_ASSEMBLIES) c.self.view_is (few c.self.inside.list.items c.self.invariant.messages)
