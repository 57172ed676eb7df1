-- A front that is too long ends the run, since no longer one divides.
use Rattle.std.proofs.Common.{◌+◌, ◌<◌, length, rules}
use Rattle.mctpctl_input.specs.declared.limits.TheConstants.{MAX_DIVIDER, MAX_DESCRIPTION}
use Rattle.mctpctl_engines.proofs.DescriptionGlue.{front_is_too_long}
use Rattle.mctpctl_engines.proofs.description_lines.DescriptionLines.check_front.Goals as goal

pub returns-then-saturating_add-clause-err : goal.returns-then-saturating_add-clause-err
returns-then-saturating_add-clause-err c = λ past.
    let long : MAX_DESCRIPTION + MAX_DIVIDER < length c.args.self.now.text.items + length c.args.front.now = search rules in
    front_is_too_long past c.args.self.now.text.items c.args.front.now long
