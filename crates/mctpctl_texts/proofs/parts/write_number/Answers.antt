-- A number below ten is one digit.
use Rattle.std.proofs.Common.{◌≡◌, ◌+◌, ◌<◌, ◌∷◌, [], sym, subst, ◌∙◌, arith, rules}
use Rattle.std.specs.Fmt.{decimal}
use Rattle.std.proofs.lemmas.Fmt.{decimal_digit}
use Rattle.mctpctl_texts.specs.Writers.{Wrote}
use Rattle.mctpctl_texts.proofs.parts.write_number.Goals as goal

pub returns-then-number-lt10 : goal.returns-then-number-lt10
returns-then-number-lt10 g c =
    let one : decimal c.args.number ≡ (48 + c.args.number) ∷ [] = decimal_digit c.args.number (omega (arith, c.if-number-lt10.true)) in
    subst (λ digits. Wrote g.O.TextWriter.contents g.O.TextWriter.failed g.O.TextWriter.refused c.args.out.now c.write_bytes.new.self digits c.write_bytes.result)
    (sym one)
    c.write_bytes.ensures.written
