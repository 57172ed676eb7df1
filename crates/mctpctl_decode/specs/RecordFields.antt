-- The parts of a line of a record: a space, and a field by name.
use Rattle.std.specs.Prelude.{ℕ, ◌%◌, ◌^◌, ℤ, Bool, true, false, List, [], ◌∷◌, ◌++◌, codes, Option}
use Rattle.std.specs.Int.{cast_unsigned, to_be_bytes, w32, w64}
use Rattle.hex.specs.Hex.{encode_lower}
use Rattle.mctpctl_decode.specs.FieldTexts.{field, named, signed_field, word}
use Rattle.mctpctl_decode.specs.Labels.{label_name, limit_name}
use Rattle.mctpctl_decode.specs.UnitNames.{rate_name, unit_name}
use Rattle.mctpctl_decode.specs.declared.label.Label.{Label}
use Rattle.mctpctl_decode.specs.declared.label.Limit.{Limit}
use Rattle.pldm_pdr.specs.declared.range_format.RangeFormat.{RangeFormat}
use Rattle.pldm_pdr.specs.declared.range_format.RangeFormat.TheVariants.{Number, Real32}

-- a number in decimal after its label
unfoldable pub number : Label → ℕ → List ℕ
number label value = field (label_name label) value

unfoldable pub signed_number : Label → ℤ → List ℕ
signed_number label value = signed_field (label_name label) value

unfoldable pub truth_text : Bool → List ℕ
truth_text false = codes "false"
truth_text true = codes "true"

-- whether something is so
unfoldable pub truth : Label → Bool → List ℕ
truth label is_so = word (label_name label) ++ word (truth_text is_so)

-- the bits of a real32 in hex
unfoldable pub real32_word : ℕ → List ℕ
real32_word bits = word (codes "0x" ++ encode_lower (to_be_bytes w32 bits))

unfoldable pub real32 : Label → ℕ → List ℕ
real32 label bits = word (label_name label) ++ real32_word bits

-- a code by its name, else by its number
unfoldable pub named_number : Label → Option (List ℕ) → ℕ → List ℕ
named_number label name value = word (label_name label) ++ named name value

-- a unit, and the time that one is taken per

unfoldable pub unit_of : Label → ℕ → List ℕ
unit_of label unit = named_number label (unit_name unit) unit

unfoldable pub rate_of : Label → ℕ → List ℕ
rate_of label rate = named_number label (rate_name rate) rate

-- the lowest 32 bits of a number
unfoldable pub low_bits : ℤ → ℕ
low_bits value = cast_unsigned w64 value % 2 ^ 32

-- a range field after its name: a number, or the bits of a real32
unfoldable pub range_number : RangeFormat → Limit → ℤ → List ℕ
range_number (Number size) limit value = signed_field (limit_name limit) value
range_number Real32 limit value = word (limit_name limit) ++ real32_word (low_bits value)

-- the name of a field or a threshold, where its bit is set
unfoldable pub limit_word : Limit → Bool → List ℕ
limit_word limit false = []
limit_word limit true = word (limit_name limit)

-- a line of a record, four spaces in
unfoldable pub record_line : List ℕ → List ℕ
record_line fields = codes "   " ++ (fields ++ 10 ∷ [])
