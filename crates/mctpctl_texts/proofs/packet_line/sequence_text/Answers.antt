-- A sequence number is one digit.
use Rattle.std.proofs.Common.{◌++◌, codes, sym, ap, arith, ◌∙◌}
use Rattle.std.specs.Fmt.{decimal}
use Rattle.std.proofs.lemmas.Fmt.{decimal_digit}
use Rattle.mctpctl_texts.proofs.packet_line.sequence_text.Goals as goal

pub returns-in-0 : goal.returns-in-0
returns-in-0 c =
    ap (λ d. d ++ codes " len ") (sym (ap decimal (sym c.get.ensures.value ∙ c.in-0.is) ∙ decimal_digit 0 (omega arith)))

pub returns-in-1 : goal.returns-in-1
returns-in-1 c =
    ap (λ d. d ++ codes " len ") (sym (ap decimal (sym c.get.ensures.value ∙ c.in-1.is) ∙ decimal_digit 1 (omega arith)))

pub returns-in-2 : goal.returns-in-2
returns-in-2 c =
    ap (λ d. d ++ codes " len ") (sym (ap decimal (sym c.get.ensures.value ∙ c.in-2.is) ∙ decimal_digit 2 (omega arith)))

pub returns-in-3 : goal.returns-in-3
returns-in-3 c =
    ap (λ d. d ++ codes " len ") (sym (ap decimal (sym c.get.ensures.value ∙ c.in-3.is) ∙ decimal_digit 3 (omega arith)))
