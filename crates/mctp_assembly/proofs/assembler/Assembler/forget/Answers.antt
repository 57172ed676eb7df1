use Rattle.std.specs.FinMap as map
use Rattle.std.proofs.Common.{None, ap, subst, ◌∙◌}
use Rattle.mctp_assembly.specs.NumberLists.{Changes}
use Rattle.mctp_assembly.proofs.KeyNumbers.{removed_held}
use Rattle.mctp_assembly.proofs.assembler.Assembler.forget.Goals as goal

pub returns : goal.returns
returns c =
    removed_held c.self.inside.messages c.remove.new.self c.args.key c.number.ensures.range
    (subst (λ n. Changes c.self.inside.messages c.remove.new.self n None) c.number.ensures.value c.remove.ensures)
    ∙ ap (λ m. map.remove m c.args.key) c.self.view_is
