-- A platform data record: a header, and the data that it counts (DSP0248, "Common PDR format").
use Rattle.std.specs.Prelude.{◌≡◌, ℕ, ◌==◌, nat_lt, not, Bool, true, List, ◌++◌, length}
use Rattle.std.specs.Prelude.{Result, Ok, Err, if◌then◌else◌}
use Rattle.byteorder.specs.Endian.{little_bytes}
use Rattle.pldm_wire.specs.Numbers.{IsU16, IsU32}
use Rattle.pldm_pdr.specs.declared.limits.TheConstants.{HEADER_VERSION, RECORD_HEADER, TERMINUS_LOCATOR, NUMERIC_SENSOR}
use Rattle.pldm_pdr.specs.declared.limits.TheConstants.{STATE_SENSOR, NUMERIC_EFFECTER, STATE_EFFECTER, SENSOR_NAMES}
use Rattle.pldm_pdr.specs.declared.limits.TheConstants.{EFFECTER_NAMES, ENTITY_NAMES}
use Rattle.pldm_pdr.specs.declared.fault.RecordFault.{RecordFault}
use Rattle.pldm_pdr.specs.declared.fault.RecordFault.TheVariants.{Length, Version, OtherType, LeftOver}
use Rattle.pldm_pdr.specs.declared.data.RecordData.{RecordData}
use Rattle.pldm_pdr.specs.declared.data.RecordData.TheVariants.{TerminusLocator, NumericSensor, StateSensor}
use Rattle.pldm_pdr.specs.declared.data.RecordData.TheVariants.{NumericEffecter, StateEffecter, SensorNames}
use Rattle.pldm_pdr.specs.declared.data.RecordData.TheVariants.{EffecterNames, EntityNames}
use Rattle.pldm_pdr.specs.Fields.{◌>>=◌, Field, byte, byte_at, number_at, refused}
use Rattle.pldm_pdr.specs.TerminusLocators.{terminus_locator_bytes, IsTerminusLocator, terminus_locator_at}
use Rattle.pldm_pdr.specs.NumericSensors.{numeric_sensor_bytes, numeric_sensor_fits, IsNumericSensor, numeric_sensor_at}
use Rattle.pldm_pdr.specs.StateSets.{composite_fits}
use Rattle.pldm_pdr.specs.StateSensors.{state_sensor_bytes, IsStateSensor, state_sensor_at}
use Rattle.pldm_pdr.specs.NumericEffecters.{numeric_effecter_bytes, numeric_effecter_fits, IsNumericEffecter, numeric_effecter_at}
use Rattle.pldm_pdr.specs.Names.{are_all_names, are_names}
use Rattle.pldm_pdr.specs.NameRecords.{sensor_names_bytes, IsSensorNames, sensor_names_at}
use Rattle.pldm_pdr.specs.NameRecords.{effecter_names_bytes, IsEffecterNames, effecter_names_at}
use Rattle.pldm_pdr.specs.NameRecords.{entity_names_bytes, IsEntityNames, entity_names_at}
use Rattle.pldm_pdr.specs.StateEffecters.{state_effecter_bytes, IsStateEffecter, state_effecter_at}

pub record PlatformRecord : Type 0 where
  pub handle : ℕ
  pub change_number : ℕ
  pub contents : RecordData

abbrev pub platform_record : ℕ → ℕ → RecordData → PlatformRecord
platform_record handle change_number contents =
    record { handle = handle; change_number = change_number; contents = contents }

-- the type of a record

abbrev pub type_of : RecordData → ℕ
type_of (TerminusLocator locator) = TERMINUS_LOCATOR
type_of (NumericSensor sensor) = NUMERIC_SENSOR
type_of (StateSensor sensor) = STATE_SENSOR
type_of (NumericEffecter effecter) = NUMERIC_EFFECTER
type_of (StateEffecter effecter) = STATE_EFFECTER
type_of (SensorNames names) = SENSOR_NAMES
type_of (EffecterNames names) = EFFECTER_NAMES
type_of (EntityNames names) = ENTITY_NAMES

-- the bytes after the header

abbrev pub data_bytes : RecordData → List ℕ
data_bytes (TerminusLocator locator) = terminus_locator_bytes locator
data_bytes (NumericSensor sensor) = numeric_sensor_bytes sensor
data_bytes (StateSensor sensor) = state_sensor_bytes sensor
data_bytes (NumericEffecter effecter) = numeric_effecter_bytes effecter
data_bytes (StateEffecter effecter) = state_effecter_bytes effecter
data_bytes (SensorNames names) = sensor_names_bytes names
data_bytes (EffecterNames names) = effecter_names_bytes names
data_bytes (EntityNames names) = entity_names_bytes names

-- handle, version, type, change number, and how many bytes follow
abbrev pub header_bytes : ℕ → ℕ → ℕ → ℕ → List ℕ
header_bytes handle type_number change_number count =
    little_bytes 4 handle ++ byte HEADER_VERSION ++ byte type_number ++ little_bytes 2 change_number
    ++ little_bytes 2 count

abbrev pub bytes_of : PlatformRecord → List ℕ
bytes_of r =
    header_bytes r.handle (type_of r.contents) r.change_number (length (data_bytes r.contents)) ++ data_bytes r.contents

-- whether what the data's types leave open fits: numbers their sizes, how many states there are, and whole names

abbrev pub data_fits : RecordData → Bool
data_fits (TerminusLocator locator) = true
data_fits (NumericSensor sensor) = numeric_sensor_fits sensor
data_fits (StateSensor sensor) = composite_fits sensor.sets.items
data_fits (NumericEffecter effecter) = numeric_effecter_fits effecter
data_fits (StateEffecter effecter) = composite_fits effecter.sets.items
data_fits (SensorNames names) = are_all_names names.names.items
data_fits (EffecterNames names) = are_all_names names.names.items
data_fits (EntityNames names) = are_names names.names.items

-- the ranges of a record's fields

abbrev pub IsData : RecordData → Type 0
IsData (TerminusLocator locator) = IsTerminusLocator locator
IsData (NumericSensor sensor) = IsNumericSensor sensor
IsData (StateSensor sensor) = IsStateSensor sensor
IsData (NumericEffecter effecter) = IsNumericEffecter effecter
IsData (StateEffecter effecter) = IsStateEffecter effecter
IsData (SensorNames names) = IsSensorNames names
IsData (EffecterNames names) = IsEffecterNames names
IsData (EntityNames names) = IsEntityNames names

abbrev pub IsRecord : PlatformRecord → Type 0
IsRecord r = IsU32 r.handle × IsU16 r.change_number × IsData r.contents

-- the bytes spell the record
abbrev pub IsRead : List ℕ → PlatformRecord → Type 0
IsRead bytes r = IsRecord r × (bytes ≡ bytes_of r)

-- data of one type, where its fields were read
abbrev pub as_data : {A : Type 0} → (A → RecordData) → Field A → Field RecordData
as_data variant field = do
  x ← field
  Ok (variant x.0, x.1)

-- the names of a record of this type that stand in the bytes
abbrev pub names_data_at : ℕ → List ℕ → Field RecordData
names_data_at type_number bytes =
    if type_number == SENSOR_NAMES then as_data (λ names. SensorNames names) (sensor_names_at bytes)
    else if type_number == EFFECTER_NAMES then as_data (λ names. EffecterNames names) (effecter_names_at bytes)
    else if type_number == ENTITY_NAMES then as_data (λ names. EntityNames names) (entity_names_at bytes)
    else Err OtherType

-- the data of a record of this type that stands in the bytes
abbrev pub data_at : ℕ → List ℕ → Field RecordData
data_at type_number bytes =
    if type_number == TERMINUS_LOCATOR then as_data (λ locator. TerminusLocator locator) (terminus_locator_at bytes)
    else if type_number == NUMERIC_SENSOR then as_data (λ sensor. NumericSensor sensor) (numeric_sensor_at bytes)
    else if type_number == STATE_SENSOR then as_data (λ sensor. StateSensor sensor) (state_sensor_at bytes)
    else if type_number == NUMERIC_EFFECTER then as_data (λ effecter. NumericEffecter effecter) (numeric_effecter_at bytes)
    else if type_number == STATE_EFFECTER then as_data (λ effecter. StateEffecter effecter) (state_effecter_at bytes)
    else names_data_at type_number bytes

-- all of the bytes
abbrev pub whole : {A : Type 0} → Field A → Result A RecordFault
whole field = do
  x ← field
  refused (not (length x.1 == 0)) LeftOver (Ok x.0)

-- a header and the data that it counts
abbrev pub header_at : List ℕ → Result PlatformRecord RecordFault
header_at bytes = do
  handle ← number_at 4 bytes
  version ← byte_at handle.1
  type_number ← byte_at version.1
  change_number ← number_at 2 type_number.1
  count ← number_at 2 change_number.1
  refused (not (length count.1 == count.0)) Length (refused (not (version.0 == HEADER_VERSION)) Version (do
    contents ← whole (data_at type_number.0 count.1)
    Ok (platform_record handle.0 change_number.0 contents)))

-- The record that the bytes are, or the first fault: of the length, the version and the type, then of the fields in
-- their order, then of what is left over.
abbrev pub record_of : List ℕ → Result PlatformRecord RecordFault
record_of bytes = refused (nat_lt (length bytes) RECORD_HEADER) Length (header_at bytes)
