-- The sensors of a description.
use Rattle.std.specs.Prelude.{ℕ, false, codes, List, [], ◌∷◌, ◌++◌, Result, Ok, Err}
use Rattle.toml.specs.Data.{Data, Items, no_items, item, Members}
use Rattle.pldm_wire.specs.declared.state_fields.SensorStateField.{SensorStateField}
use Rattle.pldm_records.specs.ById.{ById, has_id}
use Rattle.pldm_device.specs.KeyValues.{◌>>=◌, value_at, table_in}
use Rattle.pldm_device.specs.NumberLists.{few_numbers, few_lists, composite_of}
use Rattle.pldm_device.specs.SizeNames.{size_in, sized_in}
use Rattle.pldm_device.specs.Entries.{entries_at, id_at, things_after}
use Rattle.pldm_device.specs.declared.limits.TheConstants.{MAX_SENSOR_STATE, MAX_BYTE}
use Rattle.simulated_device.specs.declared.numeric.NumericSensor.{NumericSensor}
use Rattle.pldm_device.specs.declared.description_fault.FileFault.{FileFault}
use Rattle.pldm_device.specs.declared.description_fault.FileFault.TheVariants.{OutOfRange}

-- three states: present, previous and event
abbrev pub three_of : List ℕ → Result (ℕ × ℕ × ℕ) FileFault
three_of (present ∷ previous ∷ event ∷ []) = Ok (present, previous, event)
three_of _ = Err OutOfRange

abbrev pub three_states_in : Data → Result (ℕ × ℕ × ℕ) FileFault
three_states_in value = few_numbers MAX_SENSOR_STATE value >>= three_of

abbrev pub numeric_sensor_in : Members → Result (ℕ × NumericSensor) FileFault
numeric_sensor_in entry = do
  id ← id_at entry
  size ← value_at (codes "size") entry >>= size_in
  states ← value_at (codes "states") entry >>= three_states_in
  reading ← value_at (codes "value") entry >>= sized_in size
  Ok (id, record { present = states.0; previous = states.1; event = states.2; reading = reading })

abbrev pub numeric_sensor_of : Data → Result (ℕ × NumericSensor) FileFault
numeric_sensor_of value = table_in value >>= numeric_sensor_in

abbrev pub numeric_sensors_after : ById NumericSensor → Items → Result (ById NumericSensor) FileFault
numeric_sensors_after before entries = things_after numeric_sensor_of (λ id. false) before entries

abbrev pub numeric_sensors_in : Members → Result (ById NumericSensor) FileFault
numeric_sensors_in document = entries_at (codes "numeric_sensor") document >>= numeric_sensors_after []

-- four states: operational, present, previous and event
abbrev pub field_of : List ℕ → Result SensorStateField FileFault
field_of (operational ∷ present ∷ previous ∷ event ∷ []) =
    Ok (record { operational = operational; present = present; previous = previous; event = event })
field_of _ = Err OutOfRange

abbrev pub field_in : Data → Result SensorStateField FileFault
field_in value = few_numbers MAX_BYTE value >>= field_of

-- the fields before, and those of the lists after them
abbrev pub fields_after : List SensorStateField → Items → Result (List SensorStateField) FileFault
fields_after before no_items = Ok before
fields_after before (item value rest) = field_in value >>= λ field. fields_after (before ++ field ∷ []) rest

abbrev pub fields_in : Data → Result (List SensorStateField) FileFault
fields_in value = few_lists value >>= fields_after [] >>= composite_of

abbrev pub state_sensor_in : Members → Result (ℕ × List SensorStateField) FileFault
state_sensor_in entry = do
  id ← id_at entry
  fields ← value_at (codes "fields") entry >>= fields_in
  Ok (id, fields)

abbrev pub state_sensor_of : Data → Result (ℕ × List SensorStateField) FileFault
state_sensor_of value = table_in value >>= state_sensor_in

-- no ID is that of a numeric sensor
abbrev pub state_sensors_after :
    ById NumericSensor → ById (List SensorStateField) → Items → Result (ById (List SensorStateField)) FileFault
state_sensors_after numeric before entries = things_after state_sensor_of (λ id. has_id id numeric) before entries

abbrev pub state_sensors_in : ById NumericSensor → Members → Result (ById (List SensorStateField)) FileFault
state_sensors_in numeric document = entries_at (codes "state_sensor") document >>= state_sensors_after numeric []
