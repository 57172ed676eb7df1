-- What a numeric sensor or effecter measures in, and how its numbers become values, by name (DSP0248, "Numeric sensor
-- PDR" and "Numeric effecter PDR").
use Rattle.std.specs.Prelude.{ℕ, ℤ, List, ◌++◌, codes}
use Rattle.mctp_packet.specs.Bits.{is_set}
use Rattle.mctpctl_decode.specs.FieldTexts.{word}
use Rattle.mctpctl_decode.specs.RecordFields.{limit_word, number, range_number, rate_of, real32, signed_number}
use Rattle.mctpctl_decode.specs.RecordFields.{truth, unit_of}
use Rattle.mctpctl_decode.specs.declared.label.Label.TheVariants.{Accuracy, AuxModifier, AuxRate, AuxUnit, Container}
use Rattle.mctpctl_decode.specs.declared.label.Label.TheVariants.{Entity as EntityType, Instance, Linear, MinusTolerance}
use Rattle.mctpctl_decode.specs.declared.label.Label.TheVariants.{Modifier, Oem, Offset, PlusTolerance, Rate}
use Rattle.mctpctl_decode.specs.declared.label.Label.TheVariants.{Resolution, Unit as BaseUnit}
use Rattle.mctpctl_decode.specs.declared.label.Limit.TheVariants.{Nominal, NormalMax, NormalMin}
use Rattle.pldm_pdr.specs.declared.conversion.Conversion.{Conversion}
use Rattle.pldm_pdr.specs.declared.entity.Entity.{Entity}
use Rattle.pldm_pdr.specs.declared.range_format.RangeFormat.{RangeFormat}
use Rattle.pldm_pdr.specs.declared.range_format.RangeFormat.TheVariants.{Number, Real32}
use Rattle.pldm_pdr.specs.declared.units.Units.{Units}
use Rattle.pldm_wire.specs.SizeNames.{size_name}

unfoldable pub entity_text : Entity → List ℕ
entity_text entity =
    number EntityType entity.entity_type ++ number Instance entity.instance ++ number Container entity.container_id

-- a unit, the power of ten of it, the time that it is taken per, and the OEM unit that stands for it
unfoldable pub unit_text : Units → List ℕ
unit_text units =
    unit_of BaseUnit units.base_unit ++ signed_number Modifier units.unit_modifier ++ rate_of Rate units.rate_unit
    ++ number Oem units.base_oem_unit_handle

-- the same of the second unit
unfoldable pub auxiliary_unit_text : Units → List ℕ
auxiliary_unit_text units =
    unit_of AuxUnit units.auxiliary_unit ++ signed_number AuxModifier units.auxiliary_unit_modifier
    ++ rate_of AuxRate units.auxiliary_rate_unit

unfoldable pub size_text : Conversion → List ℕ
size_text conversion =
    truth Linear conversion.is_linear ++ word (codes "size") ++ word (size_name conversion.size)

unfoldable pub scale_text : Conversion → List ℕ
scale_text conversion = real32 Resolution conversion.resolution ++ real32 Offset conversion.offset

unfoldable pub accuracy_text : Conversion → List ℕ
accuracy_text conversion =
    number Accuracy conversion.accuracy ++ number PlusTolerance conversion.plus_tolerance
    ++ number MinusTolerance conversion.minus_tolerance

-- how numbers become values
abbrev pub conversion_text : Conversion → List ℕ
conversion_text conversion = size_text conversion ++ scale_text conversion ++ accuracy_text conversion

-- the format of range fields

unfoldable pub format_name : RangeFormat → List ℕ
format_name (Number size) = size_name size
format_name Real32 = codes "real32"

unfoldable pub format_text : RangeFormat → List ℕ
format_text format = word (codes "range") ++ word (format_name format)

-- the normal range, and which of its fields mean something (DSP0248, "rangeFieldSupport")

unfoldable pub normal_span_text : RangeFormat → ℤ → ℤ → List ℕ
normal_span_text format greatest least = range_number format NormalMax greatest ++ range_number format NormalMin least

unfoldable pub normal_text : RangeFormat → ℤ → ℤ → ℤ → List ℕ
normal_text format nominal greatest least =
    range_number format Nominal nominal ++ normal_span_text format greatest least

unfoldable pub normal_support_text : ℕ → List ℕ
normal_support_text support =
    word (codes "support") ++ limit_word Nominal (is_set support 0) ++ limit_word NormalMax (is_set support 1)
    ++ limit_word NormalMin (is_set support 2)
