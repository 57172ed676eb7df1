-- The value of a number of a numeric sensor or effecter, with its unit (DSP0248, "Numeric sensor PDR" and "Numeric
-- effecter PDR").
use Rattle.std.specs.Prelude.{ℕ, ℤ, pos, ◌-ℤ◌, List, ◌++◌, codes, Option, None, Some}
use Rattle.std.specs.Prelude.{if◌then◌else◌}
use Rattle.std.specs.Fmt.{signed_decimal}
use Rattle.pldm_pdr.specs.declared.conversion.Conversion.{Conversion}
use Rattle.pldm_pdr.specs.declared.units.Units.{Units}
use Rattle.mctpctl_table.specs.Decimals.{and_then, decimal_text, product, sum}
use Rattle.mctpctl_table.specs.Real32s.{real32_decimal}
use Rattle.mctpctl_table.specs.Units.{is_shown, unit_text}
use Rattle.mctpctl_table.specs.declared.decimal.Decimal.{Decimal}
use Rattle.mctpctl_table.specs.declared.value.Value.{Value}

-- number * resolution + offset, where that is a decimal that has room
abbrev pub converted : Conversion → ℤ → Option Decimal
converted conversion number =
    and_then (real32_decimal conversion.resolution) (λ resolution.
    and_then (real32_decimal conversion.offset) (λ offset.
    and_then (product number resolution) (λ left. sum left offset)))

-- times 10 ^ unit modifier
abbrev pub scaled : Units → Decimal → Value
scaled units d = record { number = d.number; exponent = units.unit_modifier -ℤ pos d.places }

-- the value, where values go with numbers in a line
unfoldable pub value_of : Conversion → Units → ℤ → Option Value
value_of conversion units number =
    if conversion.is_linear then and_then (converted conversion number) (λ d. Some (scaled units d)) else None

-- the number as it is
abbrev pub raw_text : ℤ → List ℕ
raw_text number = signed_decimal number ++ codes " raw"

abbrev pub text_of : Units → ℤ → Option Value → List ℕ
text_of units number None = raw_text number
text_of units number (Some value) =
    if is_shown units then decimal_text value.number value.exponent ++ unit_text units else raw_text number

-- the value with its unit, else the number as it is
unfoldable pub value_text : Conversion → Units → ℤ → List ℕ
value_text conversion units number = text_of units number (value_of conversion units number)
