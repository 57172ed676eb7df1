-- Laws of records over the definitions alone.
use Rattle.std.specs.Prelude.{◌≡◌, ℕ, ◌≤◌, IsTrue, List, ◌++◌, length, Ok}
use Rattle.pldm_pdr.specs.declared.limits.TheConstants.{MAX_RECORD_BYTES}
use Rattle.pldm_pdr.specs.declared.locator.TerminusLocator.{TerminusLocator}
use Rattle.pldm_pdr.specs.declared.numeric_sensor.NumericSensor.{NumericSensor}
use Rattle.pldm_pdr.specs.declared.state_sensor.StateSensor.{StateSensor}
use Rattle.pldm_pdr.specs.declared.numeric_effecter.NumericEffecter.{NumericEffecter}
use Rattle.pldm_pdr.specs.declared.state_effecter.StateEffecter.{StateEffecter}
use Rattle.pldm_pdr.specs.TerminusLocators.{terminus_locator_bytes, IsTerminusLocator, terminus_locator_at}
use Rattle.pldm_pdr.specs.NumericSensors.{numeric_sensor_bytes, IsNumericSensor, numeric_sensor_at}
use Rattle.pldm_pdr.specs.StateSensors.{state_sensor_bytes, IsStateSensor, state_sensor_at}
use Rattle.pldm_pdr.specs.NumericEffecters.{numeric_effecter_bytes, IsNumericEffecter, numeric_effecter_at}
use Rattle.pldm_pdr.specs.StateEffecters.{state_effecter_bytes, IsStateEffecter, state_effecter_at}
use Rattle.pldm_pdr.specs.declared.names.SensorNames.{SensorNames}
use Rattle.pldm_pdr.specs.declared.names.EffecterNames.{EffecterNames}
use Rattle.pldm_pdr.specs.declared.names.EntityNames.{EntityNames}
use Rattle.pldm_pdr.specs.declared.limits.TheConstants.{MAX_NAME_BYTES}
use Rattle.pldm_pdr.specs.Names.{Name, names_bytes, all_names_bytes, AreNames, AreAllNames, are_names, are_all_names}
use Rattle.pldm_pdr.specs.NameRecords.{AreBytes, sensor_names_bytes, IsSensorNames, sensor_names_at}
use Rattle.pldm_pdr.specs.NameRecords.{effecter_names_bytes, IsEffecterNames, effecter_names_at}
use Rattle.pldm_pdr.specs.NameRecords.{entity_names_bytes, IsEntityNames, entity_names_at}
use Rattle.pldm_pdr.specs.Records.{PlatformRecord, IsRecord, IsRead, bytes_of, record_of}

-- what a record is written as is read as the record
abbrev pub RecordReadBack : Type 0
RecordReadBack = (r : PlatformRecord) → IsRecord r → record_of (bytes_of r) ≡ Ok r

-- no bytes are two records
abbrev pub OneRecord : Type 0
OneRecord = (bytes : List ℕ) (r other : PlatformRecord) → IsRead bytes r → IsRead bytes other → r ≡ other

-- and none has more bytes than fit
abbrev pub RecordFits : Type 0
RecordFits = (r : PlatformRecord) → IsRecord r → length (bytes_of r) ≤ MAX_RECORD_BYTES

-- the fields of each type are read back from what they are written as, whatever follows

abbrev pub TerminusLocatorReadBack : Type 0
TerminusLocatorReadBack =
    (locator : TerminusLocator) (rest : List ℕ) → IsTerminusLocator locator
    → terminus_locator_at (terminus_locator_bytes locator ++ rest) ≡ Ok (locator, rest)

abbrev pub NumericSensorReadBack : Type 0
NumericSensorReadBack =
    (sensor : NumericSensor) (rest : List ℕ) → IsNumericSensor sensor
    → numeric_sensor_at (numeric_sensor_bytes sensor ++ rest) ≡ Ok (sensor, rest)

abbrev pub StateSensorReadBack : Type 0
StateSensorReadBack =
    (sensor : StateSensor) (rest : List ℕ) → IsStateSensor sensor
    → state_sensor_at (state_sensor_bytes sensor ++ rest) ≡ Ok (sensor, rest)

abbrev pub NumericEffecterReadBack : Type 0
NumericEffecterReadBack =
    (effecter : NumericEffecter) (rest : List ℕ) → IsNumericEffecter effecter
    → numeric_effecter_at (numeric_effecter_bytes effecter ++ rest) ≡ Ok (effecter, rest)

abbrev pub StateEffecterReadBack : Type 0
StateEffecterReadBack =
    (effecter : StateEffecter) (rest : List ℕ) → IsStateEffecter effecter
    → state_effecter_at (state_effecter_bytes effecter ++ rest) ≡ Ok (effecter, rest)

abbrev pub SensorNamesReadBack : Type 0
SensorNamesReadBack =
    (names : SensorNames) (rest : List ℕ) → IsSensorNames names
    → sensor_names_at (sensor_names_bytes names ++ rest) ≡ Ok (names, rest)

abbrev pub EffecterNamesReadBack : Type 0
EffecterNamesReadBack =
    (names : EffecterNames) (rest : List ℕ) → IsEffecterNames names
    → effecter_names_at (effecter_names_bytes names ++ rest) ≡ Ok (names, rest)

abbrev pub EntityNamesReadBack : Type 0
EntityNamesReadBack =
    (names : EntityNames) (rest : List ℕ) → IsEntityNames names
    → entity_names_at (entity_names_bytes names ++ rest) ≡ Ok (names, rest)

-- what a record takes for the names of an entity is spelled as names, and what is spelled so is taken

abbrev pub NamesAreSpelled : Type 0
NamesAreSpelled =
    (text : List ℕ) → AreBytes text → IsTrue (are_names text)
    → (names : List Name) × AreNames names × (text ≡ names_bytes names)

abbrev pub NamesAreTaken : Type 0
NamesAreTaken =
    (names : List Name) → AreNames names → length (names_bytes names) ≤ MAX_NAME_BYTES
    → IsTrue (are_names (names_bytes names))

-- the same for the names of each sensor or effecter of a composite one

abbrev pub AllNamesAreSpelled : Type 0
AllNamesAreSpelled =
    (text : List ℕ) → AreBytes text → IsTrue (are_all_names text)
    → (sets : List (List Name)) × AreAllNames sets × (text ≡ all_names_bytes sets)

abbrev pub AllNamesAreTaken : Type 0
AllNamesAreTaken =
    (sets : List (List Name)) → AreAllNames sets → length (all_names_bytes sets) ≤ MAX_NAME_BYTES
    → IsTrue (are_all_names (all_names_bytes sets))
