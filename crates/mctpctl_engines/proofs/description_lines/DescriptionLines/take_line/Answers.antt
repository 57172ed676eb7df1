-- A line of the description extends it, and at the line that divides it is read.
use Rattle.std.proofs.Common.{◌≡◌, ◌++◌, ◌∷◌, [], true, false, rules}
use Rattle.mctpctl_input.specs.TextLines.{is_divider}
use Rattle.mctpctl_engines.proofs.DescriptionGlue.{begins_past, divider_ends, stays_described}
use Rattle.mctpctl_engines.proofs.description_lines.DescriptionLines.take_line.Goals as goal

pub returns-in-Ok-clause-meets : goal.returns-in-Ok-clause-meets
returns-in-Ok-clause-meets c = λ past.
    let tested : is_divider c.args.line.now ≡ true = search rules in
    let reported : c.deref.result.now ≡ c.args.self.now.text.items = search rules in
    begins_past past c.args.self.now.text.items c.deref.result.now c.args.line.now c.in-Ok.description reported tested c.in-Ok.ensures.meets

pub returns-in-Err-clause-meets : goal.returns-in-Err-clause-meets
returns-in-Err-clause-meets c = λ past.
    let tested : is_divider c.args.line.now ≡ true = search rules in
    let reported : c.deref.result.now ≡ c.args.self.now.text.items = search rules in
    divider_ends past c.args.self.now.text.items c.deref.result.now c.args.line.now c.in-Err.fault reported tested c.in-Err.ensures.meets

pub returns-clause-meets : goal.returns-clause-meets
returns-clause-meets c = λ past.
    let tested : is_divider c.args.line.now ≡ false = search rules in
    let grown : c.push.new.self.items ≡ (c.args.self.now.text.items ++ c.args.line.now) ++ 10 ∷ [] = search rules in
    stays_described past c.args.self.now.text.items c.args.line.now c.push.new.self.items tested grown
