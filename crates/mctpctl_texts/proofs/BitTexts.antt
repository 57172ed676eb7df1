-- A bit is one digit.
use Rattle.std.proofs.Common.{◌≡◌, ◌∷◌, ◌++◌, [], Bool, true, false, List, ℕ, codes, ap, arith, ◌∙◌}
use Rattle.std.specs.Fmt.{decimal}
use Rattle.std.proofs.lemmas.Fmt.{decimal_digit}
use Rattle.mctp_packet.specs.Bits.{bit}
use Rattle.mctpctl_texts.specs.ShownLines.{bits_text}

abbrev digit : Bool → List ℕ
digit true = 49 ∷ []
digit false = 48 ∷ []

one_digit : (b : Bool) → decimal (bit b) ≡ digit b
one_digit true = decimal_digit 1 (omega arith)
one_digit false = decimal_digit 0 (omega arith)

-- the three bits, spelled out
abbrev pub spelled_bits : Bool → Bool → Bool → List ℕ
spelled_bits owner start end =
    codes " to " ++ (digit owner ++ (codes " som " ++ (digit start ++ (codes " eom " ++ (digit end ++ codes " seq ")))))

pub bits_are : (owner start end : Bool) → bits_text owner start end ≡ spelled_bits owner start end
bits_are owner start end =
    ap (λ d. codes " to " ++ (d ++ (codes " som " ++ (decimal (bit start) ++ (codes " eom " ++ (decimal (bit end) ++ codes " seq ")))))) (one_digit owner)
    ∙ ap (λ d. codes " to " ++ (digit owner ++ (codes " som " ++ (d ++ (codes " eom " ++ (decimal (bit end) ++ codes " seq ")))))) (one_digit start)
    ∙ ap (λ d. codes " to " ++ (digit owner ++ (codes " som " ++ (digit start ++ (codes " eom " ++ (d ++ codes " seq ")))))) (one_digit end)
