-- The lines of a numeric effecter (DSP0248, "Numeric effecter PDR").
use Rattle.std.specs.Prelude.{ℕ, List, ◌++◌}
use Rattle.mctp_packet.specs.Bits.{is_set}
use Rattle.mctpctl_decode.specs.MeasureTexts.{auxiliary_unit_text, conversion_text, entity_text, format_text}
use Rattle.mctpctl_decode.specs.MeasureTexts.{normal_support_text, normal_text, unit_text}
use Rattle.mctpctl_decode.specs.RecordFields.{limit_word, number, range_number, real32, record_line, signed_number}
use Rattle.mctpctl_decode.specs.RecordFields.{truth}
use Rattle.mctpctl_decode.specs.declared.label.Label.TheVariants.{AuxiliaryNames, AuxOem, Effecter, Init, MaxSettable}
use Rattle.mctpctl_decode.specs.declared.label.Label.TheVariants.{MinSettable, Semantic, StateTransition, Terminus}
use Rattle.mctpctl_decode.specs.declared.label.Label.TheVariants.{Transition}
use Rattle.mctpctl_decode.specs.declared.label.Limit.TheVariants.{RatedMax, RatedMin}
use Rattle.pldm_pdr.specs.declared.effecter_range.EffecterRange.{EffecterRange}
use Rattle.pldm_pdr.specs.declared.numeric_effecter.NumericEffecter.{NumericEffecter}

-- which effecter it is, and what it sets

unfoldable pub identity_text : NumericEffecter → List ℕ
identity_text effecter =
    number Terminus effecter.terminus_handle ++ number Effecter effecter.effecter_id ++ entity_text effecter.entity

unfoldable pub effecter_text : NumericEffecter → List ℕ
effecter_text effecter =
    identity_text effecter ++ number Semantic effecter.semantic_id ++ number Init effecter.init
    ++ truth AuxiliaryNames effecter.has_auxiliary_names

unfoldable pub units_text : NumericEffecter → List ℕ
units_text effecter =
    unit_text effecter.units ++ auxiliary_unit_text effecter.units
    ++ number AuxOem effecter.auxiliary_oem_unit_handle

-- the numbers that it can be set to, and how long that takes
unfoldable pub settable_text : NumericEffecter → List ℕ
settable_text effecter =
    signed_number MaxSettable effecter.max_settable ++ signed_number MinSettable effecter.min_settable
    ++ real32 StateTransition effecter.state_transition_interval ++ real32 Transition effecter.transition_interval

-- the normal range

unfoldable pub normal_range_text : EffecterRange → List ℕ
normal_range_text range = normal_text range.format range.nominal range.normal_max range.normal_min

-- the rated range, and which of the range fields mean something (DSP0248, "rangeFieldSupport")

unfoldable pub rated_text : EffecterRange → List ℕ
rated_text range =
    range_number range.format RatedMax range.rated_max ++ range_number range.format RatedMin range.rated_min

unfoldable pub support_text : ℕ → List ℕ
support_text support =
    normal_support_text support ++ limit_word RatedMax (is_set support 3) ++ limit_word RatedMin (is_set support 4)

-- the normal and the rated range, numbers in one format
unfoldable pub range_text : EffecterRange → List ℕ
range_text range =
    format_text range.format ++ normal_range_text range ++ rated_text range ++ support_text range.support

unfoldable pub effecter_lines : NumericEffecter → List ℕ
effecter_lines effecter =
    record_line (effecter_text effecter) ++ record_line (units_text effecter)
    ++ record_line (conversion_text effecter.conversion) ++ record_line (settable_text effecter)
    ++ record_line (range_text effecter.range)
