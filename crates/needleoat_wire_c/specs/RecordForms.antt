-- The platform data record that a struct of fields is (DSP0248, "Common PDR format" and the types after it), where its
-- fields are in range.
use Rattle.std.specs.Prelude.{ℕ, ◌==◌, nat_le, Bool, true, false, ◌&&◌, List, [], ◌∷◌, length, map, take}
use Rattle.std.specs.Prelude.{Option, Some, None, option_map, if◌then◌else◌}
use Rattle.pldm_wire.specs.Sizes.{size_of}
use Rattle.pldm_wire.specs.declared.size.Size.{Size}
use Rattle.pldm_pdr.specs.Records.{PlatformRecord, bytes_of, data_fits, platform_record}
use Rattle.pldm_pdr.specs.StateSets.{kept}
use Rattle.pldm_pdr.specs.declared.conversion.Conversion.{Conversion}
use Rattle.pldm_pdr.specs.declared.data.RecordData.{RecordData}
use Rattle.pldm_pdr.specs.declared.data.RecordData.TheVariants.{NumericEffecter as NumericEffecterData}
use Rattle.pldm_pdr.specs.declared.data.RecordData.TheVariants.{NumericSensor as NumericSensorData}
use Rattle.pldm_pdr.specs.declared.data.RecordData.TheVariants.{StateEffecter as StateEffecterData}
use Rattle.pldm_pdr.specs.declared.data.RecordData.TheVariants.{StateSensor as StateSensorData}
use Rattle.pldm_pdr.specs.declared.data.RecordData.TheVariants.{TerminusLocator as TerminusLocatorData}
use Rattle.pldm_pdr.specs.declared.effecter_range.EffecterRange.{EffecterRange}
use Rattle.pldm_pdr.specs.declared.entity.Entity.{Entity}
use Rattle.pldm_pdr.specs.declared.locator.TerminusLocator.{TerminusLocator}
use Rattle.pldm_pdr.specs.declared.numeric_effecter.NumericEffecter.{NumericEffecter}
use Rattle.pldm_pdr.specs.declared.numeric_sensor.NumericSensor.{NumericSensor}
use Rattle.pldm_pdr.specs.declared.possible_states.PossibleStates.{PossibleStates}
use Rattle.pldm_pdr.specs.declared.range_format.RangeFormat.{RangeFormat}
use Rattle.pldm_pdr.specs.declared.range_format.RangeFormat.TheVariants.{Number, Real32}
use Rattle.pldm_pdr.specs.declared.sensor_range.SensorRange.{SensorRange}
use Rattle.pldm_pdr.specs.declared.state_effecter.StateEffecter.{StateEffecter}
use Rattle.pldm_pdr.specs.declared.state_sensor.StateSensor.{StateSensor}
use Rattle.pldm_pdr.specs.declared.units.Units.{Units}
use Rattle.needleoat_forms.specs.States.{is_count}
use Rattle.needleoat_wire_c.specs.declared.record_forms.ConversionFields.{ConversionFields}
use Rattle.needleoat_wire_c.specs.declared.record_forms.EffecterRangeFields.{EffecterRangeFields}
use Rattle.needleoat_wire_c.specs.declared.record_forms.EntityFields.{EntityFields}
use Rattle.needleoat_wire_c.specs.declared.record_forms.NumericEffecterFields.{NumericEffecterFields}
use Rattle.needleoat_wire_c.specs.declared.record_forms.NumericSensorFields.{NumericSensorFields}
use Rattle.needleoat_wire_c.specs.declared.record_forms.PossibleStatesFields.{PossibleStatesFields}
use Rattle.needleoat_wire_c.specs.declared.record_forms.SensorRangeFields.{SensorRangeFields}
use Rattle.needleoat_wire_c.specs.declared.record_forms.StateEffecterFields.{StateEffecterFields}
use Rattle.needleoat_wire_c.specs.declared.record_forms.StateSensorFields.{StateSensorFields}
use Rattle.needleoat_wire_c.specs.declared.record_forms.TerminusLocatorFields.{TerminusLocatorFields}
use Rattle.needleoat_wire_c.specs.declared.record_forms.UnitsFields.{UnitsFields}
use Rattle.needleoat_wire_c.specs.declared.record_forms.TheConstants.{STATE_BYTES}
use Rattle.needleoat_wire_c.specs.declared.record_writing.TheConstants.{NO_RECORD}

-- the record with this handle, change number and data, where the data fits; 0 is no record's handle
abbrev pub record_in : ℕ → ℕ → Option RecordData → Option PlatformRecord
record_in handle change_number None = None
record_in handle change_number (Some contents) =
    if handle == NO_RECORD then None
    else if data_fits contents then Some (platform_record handle change_number contents)
    else None

-- its bytes, where a room of so many has place for them
abbrev pub bytes_in_room : ℕ → Option PlatformRecord → Option (List ℕ)
bytes_in_room room None = None
bytes_in_room room (Some pdr) = if nat_le (length (bytes_of pdr)) room then Some (bytes_of pdr) else None

-- 0 no, 1 yes
abbrev pub flag_in : ℕ → Option Bool
flag_in flag = if flag == 0 then Some false else if flag == 1 then Some true else None

abbrev pub entity_in : EntityFields → Entity
entity_in f = record { entity_type = f.entity_type; instance = f.instance; container_id = f.container_id }

abbrev pub units_in : UnitsFields → Units
units_in f =
    record {
      base_unit = f.base_unit;
      unit_modifier = f.unit_modifier;
      rate_unit = f.rate_unit;
      base_oem_unit_handle = f.base_oem_unit_handle;
      auxiliary_unit = f.auxiliary_unit;
      auxiliary_unit_modifier = f.auxiliary_unit_modifier;
      auxiliary_rate_unit = f.auxiliary_rate_unit;
    }

abbrev pub conversion_with : ConversionFields → Option Bool → Option Size → Option Conversion
conversion_with f None size = None
conversion_with f (Some is_linear) None = None
conversion_with f (Some is_linear) (Some size) =
    Some (record {
      is_linear = is_linear;
      size = size;
      resolution = f.resolution;
      offset = f.offset;
      accuracy = f.accuracy;
      plus_tolerance = f.plus_tolerance;
      minus_tolerance = f.minus_tolerance;
    })

abbrev pub conversion_in : ConversionFields → Option Conversion
conversion_in f = conversion_with f (flag_in f.is_linear) (size_of f.size)

abbrev pub format_in : ℕ → Option RangeFormat
format_in code = if code == 6 then Some Real32 else option_map (λ size. Number size) (size_of code)

abbrev pub sensor_range_with : SensorRangeFields → RangeFormat → SensorRange
sensor_range_with f format =
    record {
      format = format;
      support = f.support;
      nominal = f.nominal;
      normal_max = f.normal_max;
      normal_min = f.normal_min;
      warning_high = f.warning_high;
      warning_low = f.warning_low;
      critical_high = f.critical_high;
      critical_low = f.critical_low;
      fatal_high = f.fatal_high;
      fatal_low = f.fatal_low;
    }

abbrev pub sensor_range_in : SensorRangeFields → Option SensorRange
sensor_range_in f = option_map (sensor_range_with f) (format_in f.format)

abbrev pub effecter_range_with : EffecterRangeFields → RangeFormat → EffecterRange
effecter_range_with f format =
    record {
      format = format;
      support = f.support;
      nominal = f.nominal;
      normal_max = f.normal_max;
      normal_min = f.normal_min;
      rated_max = f.rated_max;
      rated_min = f.rated_min;
    }

abbrev pub effecter_range_in : EffecterRangeFields → Option EffecterRange
effecter_range_in f = option_map (effecter_range_with f) (format_in f.format)

-- the terminus locator

abbrev pub locator_with : TerminusLocatorFields → Bool → TerminusLocator
locator_with f is_valid =
    record {
      terminus_handle = f.terminus_handle;
      is_valid = is_valid;
      tid = f.tid;
      container_id = f.container_id;
      eid = f.eid;
    }

abbrev pub locator_in : TerminusLocatorFields → Option TerminusLocator
locator_in f = option_map (locator_with f) (flag_in f.is_valid)

abbrev pub terminus_locator_record : TerminusLocatorFields → Option PlatformRecord
terminus_locator_record f =
    record_in f.record_handle f.change_number (option_map (λ r. TerminusLocatorData r) (locator_in f))

-- the numeric sensor

abbrev pub numeric_sensor_with : NumericSensorFields → Option Bool → Option Conversion → Option SensorRange
    → Option NumericSensor
numeric_sensor_with f None conversion range = None
numeric_sensor_with f (Some has_auxiliary_names) None range = None
numeric_sensor_with f (Some has_auxiliary_names) (Some conversion) None = None
numeric_sensor_with f (Some has_auxiliary_names) (Some conversion) (Some range) =
    Some (record {
      terminus_handle = f.terminus_handle;
      sensor_id = f.sensor_id;
      entity = entity_in f.entity;
      init = f.init;
      has_auxiliary_names = has_auxiliary_names;
      units = units_in f.units;
      rel = f.rel;
      auxiliary_oem_unit_handle = f.auxiliary_oem_unit_handle;
      conversion = conversion;
      hysteresis = f.hysteresis;
      supported_thresholds = f.supported_thresholds;
      threshold_and_hysteresis_volatility = f.threshold_and_hysteresis_volatility;
      state_transition_interval = f.state_transition_interval;
      update_interval = f.update_interval;
      max_readable = f.max_readable;
      min_readable = f.min_readable;
      range = range;
    })

abbrev pub numeric_sensor_in : NumericSensorFields → Option NumericSensor
numeric_sensor_in f =
    numeric_sensor_with f (flag_in f.has_auxiliary_names) (conversion_in f.conversion) (sensor_range_in f.range)

abbrev pub numeric_sensor_record : NumericSensorFields → Option PlatformRecord
numeric_sensor_record f =
    record_in f.record_handle f.change_number (option_map (λ r. NumericSensorData r) (numeric_sensor_in f))

-- the numeric effecter

abbrev pub numeric_effecter_with : NumericEffecterFields → Option Bool → Option Conversion → Option EffecterRange
    → Option NumericEffecter
numeric_effecter_with f None conversion range = None
numeric_effecter_with f (Some has_auxiliary_names) None range = None
numeric_effecter_with f (Some has_auxiliary_names) (Some conversion) None = None
numeric_effecter_with f (Some has_auxiliary_names) (Some conversion) (Some range) =
    Some (record {
      terminus_handle = f.terminus_handle;
      effecter_id = f.effecter_id;
      entity = entity_in f.entity;
      semantic_id = f.semantic_id;
      init = f.init;
      has_auxiliary_names = has_auxiliary_names;
      units = units_in f.units;
      auxiliary_oem_unit_handle = f.auxiliary_oem_unit_handle;
      conversion = conversion;
      state_transition_interval = f.state_transition_interval;
      transition_interval = f.transition_interval;
      max_settable = f.max_settable;
      min_settable = f.min_settable;
      range = range;
    })

abbrev pub numeric_effecter_in : NumericEffecterFields → Option NumericEffecter
numeric_effecter_in f =
    numeric_effecter_with f (flag_in f.has_auxiliary_names) (conversion_in f.conversion) (effecter_range_in f.range)

abbrev pub numeric_effecter_record : NumericEffecterFields → Option PlatformRecord
numeric_effecter_record f =
    record_in f.record_handle f.change_number (option_map (λ r. NumericEffecterData r) (numeric_effecter_in f))

-- The possible states of each sensor or effecter of a composite one: the first of eight places, as many as the count
-- says, each in as many of its bytes as its size says.

abbrev pub states_in : PossibleStatesFields → PossibleStates
states_in f = record { state_set = f.state_set; bits = kept (take f.size f.states) }

abbrev pub sizes_fit : List PossibleStatesFields → Bool
sizes_fit [] = true
sizes_fit (f ∷ sets) = nat_le f.size STATE_BYTES && sizes_fit sets

abbrev pub are_sets : ℕ → List PossibleStatesFields → Bool
are_sets count sets = is_count count && sizes_fit (take count sets)

abbrev pub sets_in : ℕ → List PossibleStatesFields → Option (List PossibleStates)
sets_in count sets = if are_sets count sets then Some (map states_in (take count sets)) else None

-- the state sensor

abbrev pub state_sensor_with : StateSensorFields → Option Bool → Option (List PossibleStates) → Option StateSensor
state_sensor_with f None sets = None
state_sensor_with f (Some has_auxiliary_names) None = None
state_sensor_with f (Some has_auxiliary_names) (Some sets) =
    Some (record {
      terminus_handle = f.terminus_handle;
      sensor_id = f.sensor_id;
      entity = entity_in f.entity;
      init = f.init;
      has_auxiliary_names = has_auxiliary_names;
      sets = kept sets;
    })

abbrev pub state_sensor_in : StateSensorFields → Option StateSensor
state_sensor_in f = state_sensor_with f (flag_in f.has_auxiliary_names) (sets_in f.count f.sets)

abbrev pub state_sensor_record : StateSensorFields → Option PlatformRecord
state_sensor_record f =
    record_in f.record_handle f.change_number (option_map (λ r. StateSensorData r) (state_sensor_in f))

-- the state effecter

abbrev pub state_effecter_with : StateEffecterFields → Option Bool → Option (List PossibleStates)
    → Option StateEffecter
state_effecter_with f None sets = None
state_effecter_with f (Some has_description) None = None
state_effecter_with f (Some has_description) (Some sets) =
    Some (record {
      terminus_handle = f.terminus_handle;
      effecter_id = f.effecter_id;
      entity = entity_in f.entity;
      semantic_id = f.semantic_id;
      init = f.init;
      has_description = has_description;
      sets = kept sets;
    })

abbrev pub state_effecter_in : StateEffecterFields → Option StateEffecter
state_effecter_in f = state_effecter_with f (flag_in f.has_description) (sets_in f.count f.sets)

abbrev pub state_effecter_record : StateEffecterFields → Option PlatformRecord
state_effecter_record f =
    record_in f.record_handle f.change_number (option_map (λ r. StateEffecterData r) (state_effecter_in f))
