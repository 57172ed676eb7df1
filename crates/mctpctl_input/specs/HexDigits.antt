-- What each byte is as a hex digit.
use Rattle.std.specs.Prelude.{◌≡◌, ◌<◌, ℕ, List, slice_index, Option, None, Some}
use Rattle.hex.specs.Hex.{hex_digit_value}
use Rattle.mctpctl_input.specs.declared.hex_digits.TheConstants.{NO_DIGIT}

-- the value of a digit, and a number above all values where there is none
abbrev pub value_or_none : Option ℕ → ℕ
value_or_none None = NO_DIGIT
value_or_none (Some value) = value

-- at the place of each byte stands its value as a digit
unfoldable pub HoldsDigits : List ℕ → Type 0
HoldsDigits values = (byte : ℕ) → byte < 256 → slice_index values byte ≡ value_or_none (hex_digit_value byte)
