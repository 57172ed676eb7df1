-- The constant of the source, a second time.
use Rattle.std.proofs.Common.{◌≡◌, refl}
use Rattle.line_words.specs.declared.numbers.TheConstants.{MAX_DIGITS}

most_digits : MAX_DIGITS ≡ 16
most_digits = refl
