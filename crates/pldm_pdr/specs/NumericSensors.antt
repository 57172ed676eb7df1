-- The numeric sensor record (DSP0248, "Numeric sensor PDR").
use Rattle.std.specs.Prelude.{ℕ, ℤ, Bool, ◌&&◌, IsTrue, List, [], ◌∷◌, ◌++◌, Ok}
use Rattle.byteorder.specs.Endian.{little_bytes}
use Rattle.pldm_wire.specs.Numbers.{IsU8, IsU16, IsU32}
use Rattle.pldm_pdr.specs.declared.sensor_range.SensorRange.{SensorRange}
use Rattle.pldm_pdr.specs.declared.numeric_sensor.NumericSensor.{NumericSensor}
use Rattle.pldm_pdr.specs.Fields.{◌>>=◌, Field, all_fit, byte, byte_at, flag, flag_at, number_at, sized_bytes, sized_at}
use Rattle.pldm_pdr.specs.Entities.{entity_bytes, IsEntity, entity_at}
use Rattle.pldm_pdr.specs.Measures.{units_bytes, IsUnits, units_at, conversion_bytes, IsConversion, conversion_at}
use Rattle.pldm_pdr.specs.RangeFormats.{bits_size, format_code, format_at}

-- the format, which fields mean something, and the fields in the format
abbrev pub sensor_range_bytes : SensorRange → List ℕ
sensor_range_bytes range =
    let size = bits_size range.format in
    byte (format_code range.format) ++ byte range.support
    ++ sized_bytes size range.nominal ++ sized_bytes size range.normal_max ++ sized_bytes size range.normal_min
    ++ sized_bytes size range.warning_high ++ sized_bytes size range.warning_low
    ++ sized_bytes size range.critical_high ++ sized_bytes size range.critical_low
    ++ sized_bytes size range.fatal_high ++ sized_bytes size range.fatal_low

-- the fields in the format, and whether they fit it

abbrev pub range_fields : SensorRange → List ℤ
range_fields range =
    range.nominal ∷ range.normal_max ∷ range.normal_min ∷ range.warning_high ∷ range.warning_low
    ∷ range.critical_high ∷ range.critical_low ∷ range.fatal_high ∷ range.fatal_low ∷ []

abbrev pub range_fits : SensorRange → Bool
range_fits range = all_fit (bits_size range.format) (range_fields range)

unfoldable pub sensor_range_at : List ℕ → Field SensorRange
sensor_range_at bytes = do
  format ← format_at bytes
  support ← byte_at format.1
  nominal ← sized_at (bits_size format.0) support.1
  normal_max ← sized_at (bits_size format.0) nominal.1
  normal_min ← sized_at (bits_size format.0) normal_max.1
  warning_high ← sized_at (bits_size format.0) normal_min.1
  warning_low ← sized_at (bits_size format.0) warning_high.1
  critical_high ← sized_at (bits_size format.0) warning_low.1
  critical_low ← sized_at (bits_size format.0) critical_high.1
  fatal_high ← sized_at (bits_size format.0) critical_low.1
  fatal_low ← sized_at (bits_size format.0) fatal_high.1
  Ok (
    record {
      format = format.0;
      support = support.0;
      nominal = nominal.0;
      normal_max = normal_max.0;
      normal_min = normal_min.0;
      warning_high = warning_high.0;
      warning_low = warning_low.0;
      critical_high = critical_high.0;
      critical_low = critical_low.0;
      fatal_high = fatal_high.0;
      fatal_low = fatal_low.0;
    },
    fatal_low.1,
  )

abbrev pub numeric_sensor_bytes : NumericSensor → List ℕ
numeric_sensor_bytes sensor =
    let size = sensor.conversion.size in
    little_bytes 2 sensor.terminus_handle ++ little_bytes 2 sensor.sensor_id ++ entity_bytes sensor.entity
    ++ byte sensor.init ++ flag sensor.has_auxiliary_names ++ units_bytes sensor.units ++ byte sensor.rel
    ++ byte sensor.auxiliary_oem_unit_handle ++ conversion_bytes sensor.conversion
    ++ sized_bytes size sensor.hysteresis ++ byte sensor.supported_thresholds
    ++ byte sensor.threshold_and_hysteresis_volatility ++ little_bytes 4 sensor.state_transition_interval
    ++ little_bytes 4 sensor.update_interval ++ sized_bytes size sensor.max_readable
    ++ sized_bytes size sensor.min_readable ++ sensor_range_bytes sensor.range

-- the numbers in the data size; whether they fit it, and the range fields their format

abbrev pub readings : NumericSensor → List ℤ
readings sensor = sensor.hysteresis ∷ sensor.max_readable ∷ sensor.min_readable ∷ []

abbrev pub numeric_sensor_fits : NumericSensor → Bool
numeric_sensor_fits sensor = all_fit sensor.conversion.size (readings sensor) && range_fits sensor.range

abbrev pub IsNumericSensor : NumericSensor → Type 0
IsNumericSensor sensor =
    IsU16 sensor.terminus_handle × IsU16 sensor.sensor_id × IsEntity sensor.entity × IsU8 sensor.init
    × IsUnits sensor.units × IsU8 sensor.rel × IsU8 sensor.auxiliary_oem_unit_handle × IsConversion sensor.conversion
    × IsU8 sensor.supported_thresholds × IsU8 sensor.threshold_and_hysteresis_volatility
    × IsU32 sensor.state_transition_interval × IsU32 sensor.update_interval × IsU8 sensor.range.support
    × IsTrue (numeric_sensor_fits sensor)

unfoldable pub numeric_sensor_at : List ℕ → Field NumericSensor
numeric_sensor_at bytes = do
  handle ← number_at 2 bytes
  id ← number_at 2 handle.1
  entity ← entity_at id.1
  init ← byte_at entity.1
  names ← flag_at init.1
  units ← units_at names.1
  rel ← byte_at units.1
  oem ← byte_at rel.1
  conversion ← conversion_at oem.1
  hysteresis ← sized_at conversion.0.size conversion.1
  thresholds ← byte_at hysteresis.1
  volatility ← byte_at thresholds.1
  transition ← number_at 4 volatility.1
  update ← number_at 4 transition.1
  max_readable ← sized_at conversion.0.size update.1
  min_readable ← sized_at conversion.0.size max_readable.1
  range ← sensor_range_at min_readable.1
  Ok (
    record {
      terminus_handle = handle.0;
      sensor_id = id.0;
      entity = entity.0;
      init = init.0;
      has_auxiliary_names = names.0;
      units = units.0;
      rel = rel.0;
      auxiliary_oem_unit_handle = oem.0;
      conversion = conversion.0;
      hysteresis = hysteresis.0;
      supported_thresholds = thresholds.0;
      threshold_and_hysteresis_volatility = volatility.0;
      state_transition_interval = transition.0;
      update_interval = update.0;
      max_readable = max_readable.0;
      min_readable = min_readable.0;
      range = range.0;
    },
    range.1,
  )
