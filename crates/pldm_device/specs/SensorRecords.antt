-- The records of sensors: what is said of a sensor comes from the device and from the keys of its entry (DSP0248,
-- "Numeric sensor PDR" and "State sensor PDR").
use Rattle.std.specs.Prelude.{ℕ, ◌+◌, ℤ, pos, true, Bool, List, [], ◌∷◌, length, map, Option, Some, None, is_some}
use Rattle.std.specs.Prelude.{Result, Ok, if◌then◌else◌}
use Rattle.std.specs.Option.{ok_or}
use Rattle.toml.specs.Data.{Members}
use Rattle.pldm_wire.specs.Sizes.{greatest, least}
use Rattle.pldm_wire.specs.declared.size.Size.{Size}
use Rattle.pldm_wire.specs.declared.state_fields.SensorStateField.{SensorStateField}
use Rattle.pldm_pdr.specs.StateSets.{bits_in, kept, last_byte}
use Rattle.pldm_pdr.specs.declared.conversion.Conversion.{Conversion}
use Rattle.pldm_pdr.specs.declared.data.RecordData.{RecordData}
use Rattle.pldm_pdr.specs.declared.data.RecordData.TheVariants as records
use Rattle.pldm_pdr.specs.declared.entity.Entity.{Entity}
use Rattle.pldm_pdr.specs.declared.numeric_sensor.NumericSensor as pldm_pdr
use Rattle.pldm_pdr.specs.declared.possible_states.PossibleStates.{PossibleStates}
use Rattle.pldm_pdr.specs.declared.range_format.RangeFormat.TheVariants.{Number}
use Rattle.pldm_pdr.specs.declared.sensor_range.SensorRange.{SensorRange}
use Rattle.pldm_pdr.specs.declared.state_sensor.StateSensor.{StateSensor}
use Rattle.pldm_pdr.specs.declared.units.Units.{Units}
use Rattle.pldm_records.specs.ById.{ById, with_id}
use Rattle.pldm_device.specs.Entries.{id_at}
use Rattle.pldm_device.specs.KeyValues.{◌>>=◌}
use Rattle.pldm_device.specs.MadeRecords.{with_made}
use Rattle.pldm_device.specs.RecordKeys.{entity_at, name_at, normal_range_at, number_or, state_set_at, thresholds_at, units_at}
use Rattle.pldm_device.specs.RecordNames.{name_of_first}
use Rattle.pldm_device.specs.declared.description_fault.FileFault.{FileFault}
use Rattle.pldm_device.specs.declared.description_fault.FileFault.TheVariants.{MissingKey}
use Rattle.pldm_device.specs.declared.limits.TheConstants.{ONE, TERMINUS_HANDLE}
use Rattle.pldm_device.specs.declared.made_records.MadeRecords.{MadeRecords}
use Rattle.simulated_device.specs.declared.numeric.NumericSensor.{NumericSensor}
use Rattle.pldm_device.specs.declared.record_keys.NormalRange.{NormalRange}
use Rattle.pldm_device.specs.declared.record_keys.Thresholds.{Thresholds}

-- the bit, where there is a number
abbrev pub bit_if : ℕ → Option ℤ → ℕ
bit_if bit number = if is_some number then bit else 0

-- which thresholds there are
abbrev pub supported_thresholds : Thresholds → ℕ
supported_thresholds thresholds =
    bit_if 1 thresholds.warning_high + bit_if 2 thresholds.critical_high + bit_if 4 thresholds.fatal_high
    + bit_if 8 thresholds.warning_low + bit_if 16 thresholds.critical_low + bit_if 32 thresholds.fatal_low

-- which range fields mean something; the warning thresholds have no bit
abbrev pub normal_support : NormalRange → ℕ
normal_support normal = bit_if 1 normal.nominal + bit_if 2 normal.normal_max + bit_if 4 normal.normal_min

abbrev pub range_support : Thresholds → NormalRange → ℕ
range_support thresholds normal =
    normal_support normal + bit_if 8 thresholds.critical_high + bit_if 16 thresholds.critical_low
    + bit_if 32 thresholds.fatal_high + bit_if 64 thresholds.fatal_low

-- the range in the data size; 0 where nothing is said
abbrev pub sensor_range : Size → Thresholds → NormalRange → SensorRange
sensor_range size thresholds normal = record {
  format = Number size;
  support = range_support thresholds normal;
  nominal = number_or (pos 0) normal.nominal;
  normal_max = number_or (pos 0) normal.normal_max;
  normal_min = number_or (pos 0) normal.normal_min;
  warning_high = number_or (pos 0) thresholds.warning_high;
  warning_low = number_or (pos 0) thresholds.warning_low;
  critical_high = number_or (pos 0) thresholds.critical_high;
  critical_low = number_or (pos 0) thresholds.critical_low;
  fatal_high = number_or (pos 0) thresholds.fatal_high;
  fatal_low = number_or (pos 0) thresholds.fatal_low;
}

-- numbers of the size, each the value itself but for the units' power of ten
abbrev pub conversion_of : Size → Conversion
conversion_of size = record {
  is_linear = true;
  size = size;
  resolution = ONE;
  offset = 0;
  accuracy = 0;
  plus_tolerance = 0;
  minus_tolerance = 0;
}

-- the record of a numeric sensor with the ID and the data size: it can report each number of the size
abbrev pub numeric_sensor_of :
    ℕ → Size → Entity → Bool → Units → Thresholds → NormalRange → pldm_pdr.NumericSensor
numeric_sensor_of id size entity has_name units thresholds normal = record {
  terminus_handle = TERMINUS_HANDLE;
  sensor_id = id;
  entity = entity;
  init = 0;
  has_auxiliary_names = has_name;
  units = units;
  rel = 0;
  auxiliary_oem_unit_handle = 0;
  conversion = conversion_of size;
  hysteresis = pos 0;
  supported_thresholds = supported_thresholds thresholds;
  threshold_and_hysteresis_volatility = 0;
  state_transition_interval = 0;
  update_interval = ONE;
  max_readable = greatest size;
  min_readable = least size;
  range = sensor_range size thresholds normal;
}

abbrev pub numeric_sensor_data : ℕ → Size → Entity → Bool → Members → Result RecordData FileFault
numeric_sensor_data id size entity has_name entry = do
  units ← units_at entry
  thresholds ← thresholds_at size entry
  normal ← normal_range_at size entry
  Ok (records.NumericSensor (numeric_sensor_of id size entity has_name units thresholds normal))

-- the record of a sensor's name, where it has one
abbrev pub sensor_named : ℕ → ℕ → Option (List ℕ) → MadeRecords → Result MadeRecords FileFault
sensor_named id count None made = Ok made
sensor_named id count (Some name) made =
    with_made (records.SensorNames (record {
      terminus_handle = TERMINUS_HANDLE;
      sensor_id = id;
      names = kept (name_of_first count name);
    })) made

-- the records of a thing: its own, of its entity and where it has a name, and that of its name
abbrev pub thing_made :
    Entity → Members → (Entity → Bool → Result RecordData FileFault)
    → (Option (List ℕ) → MadeRecords → Result MadeRecords FileFault) → MadeRecords → Result MadeRecords FileFault
thing_made default entry own named made = do
  name ← name_at entry
  entity ← entity_at default entry
  contents ← own entity (is_some name)
  more ← with_made contents made
  named name more

-- the records of an entry: of the sensor with its ID, and of its name
abbrev pub numeric_sensor_made : ById NumericSensor → Entity → Members → MadeRecords → Result MadeRecords FileFault
numeric_sensor_made sensors default entry made = do
  id ← id_at entry
  sensor ← ok_or (with_id id sensors) MissingKey
  thing_made default entry (λ entity has_name. numeric_sensor_data id sensor.reading.size entity has_name entry)
      (sensor_named id 1) made

-- the states that a field of a sensor reports
abbrev pub states_of_field : SensorStateField → List ℕ
states_of_field field = field.present ∷ field.previous ∷ field.event ∷ []

-- these states of the state set
abbrev pub possible : ℕ → List ℕ → PossibleStates
possible state_set states =
    record { state_set = state_set; bits = kept (bits_in states (last_byte states + 1)) }

-- the record of a state sensor with the ID: its possible states are those that its fields report
abbrev pub state_sensor_of : ℕ → List SensorStateField → Entity → Bool → ℕ → StateSensor
state_sensor_of id fields entity has_name state_set = record {
  terminus_handle = TERMINUS_HANDLE;
  sensor_id = id;
  entity = entity;
  init = 0;
  has_auxiliary_names = has_name;
  sets = kept (map (λ field. possible state_set (states_of_field field)) fields);
}

abbrev pub state_sensor_data : ℕ → List SensorStateField → Entity → Bool → Members → Result RecordData FileFault
state_sensor_data id fields entity has_name entry = do
  state_set ← state_set_at entry
  Ok (records.StateSensor (state_sensor_of id fields entity has_name state_set))

abbrev pub state_sensor_made :
    ById (List SensorStateField) → Entity → Members → MadeRecords → Result MadeRecords FileFault
state_sensor_made sensors default entry made = do
  id ← id_at entry
  fields ← ok_or (with_id id sensors) MissingKey
  thing_made default entry (λ entity has_name. state_sensor_data id fields entity has_name entry)
      (sensor_named id (length fields)) made
