-- The lines of a numeric sensor (DSP0248, "Numeric sensor PDR").
use Rattle.std.specs.Prelude.{ℕ, List, ◌++◌, codes}
use Rattle.mctp_packet.specs.Bits.{is_set}
use Rattle.mctpctl_decode.specs.FieldTexts.{word}
use Rattle.mctpctl_decode.specs.MeasureTexts.{auxiliary_unit_text, conversion_text, entity_text, format_text}
use Rattle.mctpctl_decode.specs.MeasureTexts.{normal_support_text, normal_text, unit_text}
use Rattle.mctpctl_decode.specs.RecordFields.{limit_word, number, range_number, real32, record_line, signed_number}
use Rattle.mctpctl_decode.specs.RecordFields.{truth}
use Rattle.mctpctl_decode.specs.declared.label.Label.TheVariants.{AuxiliaryNames, AuxOem, Hysteresis, Init, MaxReadable}
use Rattle.mctpctl_decode.specs.declared.label.Label.TheVariants.{MinReadable, Rel, Sensor, StateTransition, Terminus}
use Rattle.mctpctl_decode.specs.declared.label.Label.TheVariants.{Update, Volatility}
use Rattle.mctpctl_decode.specs.declared.label.Limit.TheVariants.{CriticalHigh, CriticalLow, FatalHigh, FatalLow}
use Rattle.mctpctl_decode.specs.declared.label.Limit.TheVariants.{LowerCritical, LowerFatal, LowerWarning, UpperCritical}
use Rattle.mctpctl_decode.specs.declared.label.Limit.TheVariants.{UpperFatal, UpperWarning, WarningHigh, WarningLow}
use Rattle.pldm_pdr.specs.declared.numeric_sensor.NumericSensor.{NumericSensor}
use Rattle.pldm_pdr.specs.declared.sensor_range.SensorRange.{SensorRange}

-- which sensor it is, and what it measures
unfoldable pub sensor_text : NumericSensor → List ℕ
sensor_text sensor =
    number Terminus sensor.terminus_handle ++ number Sensor sensor.sensor_id ++ entity_text sensor.entity
    ++ number Init sensor.init ++ truth AuxiliaryNames sensor.has_auxiliary_names

unfoldable pub units_text : NumericSensor → List ℕ
units_text sensor =
    unit_text sensor.units ++ auxiliary_unit_text sensor.units ++ number Rel sensor.rel
    ++ number AuxOem sensor.auxiliary_oem_unit_handle

-- the numbers that it can give, and how it changes

unfoldable pub span_text : NumericSensor → List ℕ
span_text sensor = signed_number MaxReadable sensor.max_readable ++ signed_number MinReadable sensor.min_readable

unfoldable pub reading_text : NumericSensor → List ℕ
reading_text sensor = span_text sensor ++ signed_number Hysteresis sensor.hysteresis

unfoldable pub timing_text : NumericSensor → List ℕ
timing_text sensor =
    real32 StateTransition sensor.state_transition_interval ++ real32 Update sensor.update_interval
    ++ number Volatility sensor.threshold_and_hysteresis_volatility

-- the thresholds that can be set (DSP0248, "supportedThresholds")

unfoldable pub upper_text : ℕ → List ℕ
upper_text supported =
    limit_word UpperWarning (is_set supported 0) ++ limit_word UpperCritical (is_set supported 1)
    ++ limit_word UpperFatal (is_set supported 2)

unfoldable pub lower_text : ℕ → List ℕ
lower_text supported =
    limit_word LowerWarning (is_set supported 3) ++ limit_word LowerCritical (is_set supported 4)
    ++ limit_word LowerFatal (is_set supported 5)

unfoldable pub thresholds_text : ℕ → List ℕ
thresholds_text supported = word (codes "thresholds") ++ upper_text supported ++ lower_text supported

unfoldable pub readable_text : NumericSensor → List ℕ
readable_text sensor = reading_text sensor ++ timing_text sensor ++ thresholds_text sensor.supported_thresholds

-- the normal range

unfoldable pub normal_range_text : SensorRange → List ℕ
normal_range_text range = normal_text range.format range.nominal range.normal_max range.normal_min

-- the thresholds in the format of the range

unfoldable pub warning_text : SensorRange → List ℕ
warning_text range =
    range_number range.format WarningHigh range.warning_high ++ range_number range.format WarningLow range.warning_low

unfoldable pub critical_text : SensorRange → List ℕ
critical_text range =
    range_number range.format CriticalHigh range.critical_high
    ++ range_number range.format CriticalLow range.critical_low

unfoldable pub fatal_text : SensorRange → List ℕ
fatal_text range =
    range_number range.format FatalHigh range.fatal_high ++ range_number range.format FatalLow range.fatal_low

unfoldable pub limits_text : SensorRange → List ℕ
limits_text range = warning_text range ++ critical_text range ++ fatal_text range

-- which of the range fields mean something (DSP0248, "rangeFieldSupport")

unfoldable pub limit_support_text : ℕ → List ℕ
limit_support_text support =
    limit_word CriticalHigh (is_set support 3) ++ limit_word CriticalLow (is_set support 4)
    ++ limit_word FatalHigh (is_set support 5) ++ limit_word FatalLow (is_set support 6)

unfoldable pub support_text : ℕ → List ℕ
support_text support = normal_support_text support ++ limit_support_text support

-- the normal range and the thresholds, numbers in one format
unfoldable pub range_text : SensorRange → List ℕ
range_text range =
    format_text range.format ++ normal_range_text range ++ limits_text range ++ support_text range.support

unfoldable pub sensor_lines : NumericSensor → List ℕ
sensor_lines sensor =
    record_line (sensor_text sensor) ++ record_line (units_text sensor)
    ++ record_line (conversion_text sensor.conversion) ++ record_line (readable_text sensor)
    ++ record_line (range_text sensor.range)
