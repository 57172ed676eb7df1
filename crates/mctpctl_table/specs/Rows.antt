-- The rows of a sensor or an effecter.
use Rattle.std.specs.Prelude.{ℕ, zero, suc, ◌+◌, List, [], ◌∷◌, ◌++◌, length, slice_get, Option, None, Some, Result, Ok, Err}
use Rattle.std.specs.Prelude.{option_map, unwrap_or}
use Rattle.pldm_pdr.specs.Records.{PlatformRecord, record_of}
use Rattle.pldm_pdr.specs.declared.conversion.Conversion.{Conversion}
use Rattle.pldm_pdr.specs.declared.data.RecordData.{RecordData}
use Rattle.pldm_pdr.specs.declared.data.RecordData.TheVariants.{NumericSensor, StateSensor, NumericEffecter}
use Rattle.pldm_pdr.specs.declared.data.RecordData.TheVariants.{StateEffecter}
use Rattle.pldm_pdr.specs.declared.fault.RecordFault.{RecordFault}
use Rattle.pldm_pdr.specs.declared.possible_states.PossibleStates.{PossibleStates}
use Rattle.pldm_pdr.specs.declared.units.Units.{Units}
use Rattle.mctpctl_table.specs.NameRecords.{names_of}
use Rattle.mctpctl_table.specs.Names.{name_text}
use Rattle.mctpctl_table.specs.Replies.{numeric_reading, reply_to, state_reading}
use Rattle.mctpctl_table.specs.States.{missing_text, numeric_kind, operation_text, state_kind, state_value_text}
use Rattle.mctpctl_table.specs.States.{states_text, what_text}
use Rattle.mctpctl_table.specs.Tables.{Cells, cells}
use Rattle.mctpctl_table.specs.Values.{value_text}
use Rattle.mctpctl_table.specs.declared.reading.NumericReading.{NumericReading}
use Rattle.mctpctl_table.specs.declared.reading.StateReading.{StateReading}
use Rattle.mctpctl_table.specs.declared.reply.Reply.{Reply}
use Rattle.mctpctl_table.specs.declared.identifier.Identifier.{Identifier}
use Rattle.mctpctl_table.specs.declared.identifier.Identifier.TheVariants.{Sensor, Effecter}

-- The name of the sensor or effecter at a place of a composite one: the first of the first record that has its names; a
-- dash where there is none.
unfoldable pub name_cell : Identifier → ℕ → List (List ℕ) → List ℕ
name_cell identifier place [] = 45 ∷ []
name_cell identifier place (bytes ∷ records) =
    unwrap_or (option_map (name_text place) (names_of identifier bytes)) (name_cell identifier place records)

-- the names at its first places, so many
abbrev pub first_names : Identifier → ℕ → List (List ℕ) → List (List ℕ)
first_names identifier zero records = []
first_names identifier (suc place) records = first_names identifier place records ++ name_cell identifier place records ∷ []

abbrev pub name_at : List (List ℕ) → ℕ → List ℕ
name_at names place = unwrap_or (slice_get names place) []

-- what a record holds, and the names of the fields of the sensor or effecter that it describes
pub record Described : Type 0 where
  pub contents : RecordData
  pub names : List (List ℕ)

abbrev pub names_for : RecordData → List (List ℕ) → List (List ℕ)
names_for (NumericSensor sensor) records = first_names (Sensor sensor.terminus_handle sensor.sensor_id) 1 records
names_for (NumericEffecter effecter) records =
    first_names (Effecter effecter.terminus_handle effecter.effecter_id) 1 records
names_for (StateSensor sensor) records =
    first_names (Sensor sensor.terminus_handle sensor.sensor_id) (length sensor.sets.items) records
names_for (StateEffecter effecter) records =
    first_names (Effecter effecter.terminus_handle effecter.effecter_id) (length effecter.sets.items) records
names_for contents records = []

abbrev pub described_in : Result PlatformRecord RecordFault → List (List ℕ) → Option Described
described_in (Ok r) records = Some (record { contents = r.contents; names = names_for r.contents records })
described_in (Err fault) records = None

-- of the bytes of a record, with the names that stand in these records
unfoldable pub described_of : List ℕ → List (List ℕ) → Option Described
described_of bytes records = described_in (record_of bytes) records

-- a numeric sensor or effecter

abbrev pub numeric_value : Conversion → Units → Option NumericReading → List ℕ
numeric_value conversion units None = 45 ∷ []
numeric_value conversion units (Some reading) = value_text conversion units reading.value

abbrev pub numeric_state : Identifier → Reply → Option NumericReading → List ℕ
numeric_state identifier reply None = missing_text (numeric_kind identifier) reply
numeric_state identifier reply (Some reading) = states_text identifier reading.state reading.operational

unfoldable pub numeric_row : Identifier → Conversion → Units → List (List ℕ) → Reply → Cells
numeric_row identifier conversion units names reply =
    cells (what_text identifier) (name_at names 0) (numeric_value conversion units (numeric_reading reply))
    (numeric_state identifier reply (numeric_reading reply))

-- one field of a state sensor or effecter, which has so many

abbrev pub field_value : PossibleStates → Option StateReading → List ℕ
field_value states None = 45 ∷ []
field_value states (Some reading) = state_value_text states reading.state

abbrev pub field_state : Identifier → Reply → Option StateReading → List ℕ
field_state identifier reply None = missing_text (state_kind identifier) reply
field_state identifier reply (Some reading) = operation_text identifier reading.operational

unfoldable pub field_row : Identifier → ℕ → ℕ → PossibleStates → List (List ℕ) → Reply → Cells
field_row identifier count place states names reply =
    cells (what_text identifier) (name_at names place) (field_value states (state_reading count place reply))
    (field_state identifier reply (state_reading count place reply))

-- each field, from a place on
unfoldable pub field_rows : Identifier → ℕ → ℕ → List PossibleStates → List (List ℕ) → Reply → List Cells
field_rows identifier count place [] names reply = []
field_rows identifier count place (states ∷ sets) names reply =
    field_row identifier count place states names reply ∷ field_rows identifier count (place + 1) sets names reply

-- what a record describes, the names of its fields, and the message that came for it

abbrev pub numeric_rows : Identifier → Conversion → Units → List (List ℕ) → Option (List ℕ) → List Cells
numeric_rows identifier conversion units names message =
    numeric_row identifier conversion units names (reply_to (numeric_kind identifier) message) ∷ []

abbrev pub state_rows : Identifier → List PossibleStates → List (List ℕ) → Option (List ℕ) → List Cells
state_rows identifier sets names message =
    field_rows identifier (length sets) 0 sets names (reply_to (state_kind identifier) message)

unfoldable pub data_rows : RecordData → List (List ℕ) → Option (List ℕ) → List Cells
data_rows (NumericSensor sensor) names message =
    numeric_rows (Sensor sensor.terminus_handle sensor.sensor_id) sensor.conversion sensor.units names message
data_rows (NumericEffecter effecter) names message =
    numeric_rows (Effecter effecter.terminus_handle effecter.effecter_id) effecter.conversion effecter.units names
    message
data_rows (StateSensor sensor) names message =
    state_rows (Sensor sensor.terminus_handle sensor.sensor_id) sensor.sets.items names message
data_rows (StateEffecter effecter) names message =
    state_rows (Effecter effecter.terminus_handle effecter.effecter_id) effecter.sets.items names message
data_rows contents names message = []

-- the rows by what a record describes: none where it is no record of a sensor or an effecter
abbrev pub rows_by : Option Described → Option (List ℕ) → List Cells
rows_by None message = []
rows_by (Some described) message = data_rows described.contents described.names message

-- the rows of the bytes of a record, with the names that stand in these records
abbrev pub rows_of : List ℕ → List (List ℕ) → Option (List ℕ) → List Cells
rows_of bytes records message = rows_by (described_of bytes records) message
