-- What made records say of the device.
use Rattle.std.specs.Prelude.{◌≡◌, ◌≢◌, ℕ, ℤ, ◌||◌, ◌≤ℤ◌, ◌↔◌, IsTrue, List, ◌++◌, length, map, slice_get, Some, Ok}
use Rattle.std.specs.List.{All, AllPairs, sum_by}
use Rattle.toml.specs.Data.{Members}
use Rattle.pldm_wire.specs.EffecterNumbers.{two_numbers}
use Rattle.pldm_wire.specs.Sizes.{Fits}
use Rattle.pldm_wire.specs.declared.answer.Answer.TheVariants as answers
use Rattle.pldm_wire.specs.declared.command.Command.TheVariants as commands
use Rattle.pldm_wire.specs.declared.state_fields.SensorStateField.{SensorStateField}
use Rattle.pldm_pdr.specs.Records.{bytes_of, platform_record}
use Rattle.pldm_pdr.specs.StateSets.{has_state, is_among}
use Rattle.pldm_pdr.specs.declared.data.RecordData.{RecordData}
use Rattle.pldm_pdr.specs.declared.data.RecordData.TheVariants as records
use Rattle.pldm_pdr.specs.declared.numeric_effecter.NumericEffecter as effecter_record
use Rattle.pldm_pdr.specs.declared.numeric_sensor.NumericSensor as sensor_record
use Rattle.pldm_pdr.specs.declared.possible_states.PossibleStates.{PossibleStates}
use Rattle.pldm_pdr.specs.declared.state_effecter.StateEffecter.{StateEffecter}
use Rattle.pldm_pdr.specs.declared.state_sensor.StateSensor.{StateSensor}
use Rattle.pldm_records.specs.ById.{has_id, with_id}
use Rattle.pldm_records.specs.Records.{handle_of, largest_record_size}
use Rattle.pldm_records.specs.declared.limits.TheConstants.{NO_TRANSFER_TIMEOUT, REPOSITORY_AVAILABLE}
use Rattle.pldm_device.specs.Descriptions.{description_of}
use Rattle.simulated_device.specs.DeviceAnswers.{answer}
use Rattle.simulated_device.specs.Devices.{Device}
use Rattle.simulated_device.specs.EffecterAnswers.{effecter_field}
use Rattle.pldm_device.specs.RecordTables.{with_records}
use Rattle.pldm_device.specs.SensorRecords.{states_of_field}
use Rattle.simulated_device.specs.StateEffecters.{FieldsOfStates}
use Rattle.pldm_device.specs.declared.description.Description.{Description}
use Rattle.simulated_device.specs.declared.limits.TheConstants.{EFFECTER_ENABLED, NO_EVENTS, SENSOR_ENABLED}
use Rattle.simulated_device.specs.declared.numeric.NumericEffecter.{NumericEffecter}
use Rattle.simulated_device.specs.declared.numeric.NumericSensor.{NumericSensor}

-- The device answers for the sensor of the record with a reading of the record's data size, each number of which is in
-- the record's range.
pub record DescribesNumericSensor (device : Device) (pdr : sensor_record.NumericSensor) : Type 0 where
  pub sensor : NumericSensor
  pub answered :
      (rearm : ℕ) → answer device (commands.GetSensorReading pdr.sensor_id rearm)
      ≡ answers.GetSensorReading SENSOR_ENABLED NO_EVENTS sensor.present sensor.previous sensor.event sensor.reading
  pub size : sensor.reading.size ≡ pdr.conversion.size
  pub range :
      (number : ℤ) → Fits sensor.reading.size number ↔ ((pdr.min_readable ≤ℤ number) × (number ≤ℤ pdr.max_readable))

-- The device answers for the effecter of the record with a value of the record's data size, and takes the record's
-- range.
pub record DescribesNumericEffecter (device : Device) (pdr : effecter_record.NumericEffecter) : Type 0 where
  pub effecter : NumericEffecter
  pub found : with_id pdr.effecter_id device.numeric_effecters ≡ Some effecter
  pub answered :
      answer device (commands.GetNumericEffecterValue pdr.effecter_id)
      ≡ answers.GetNumericEffecterValue EFFECTER_ENABLED (two_numbers effecter.value effecter.value)
  pub size : effecter.value.size ≡ pdr.conversion.size
  pub min : effecter.min ≡ pdr.min_settable
  pub max : effecter.max ≡ pdr.max_settable

-- the set has these states and no others
abbrev pub HasStates : List ℕ → PossibleStates → Type 0
HasStates states set = (state : ℕ) → has_state set.bits.items state ≡ is_among states state

-- there are as many sets as lists, and each has the states of its list
pub record HaveStates (lists : List (List ℕ)) (sets : List PossibleStates) : Type 0 where
  pub count : length sets ≡ length lists
  pub states :
      (place : ℕ) (list : List ℕ) (set : PossibleStates) → slice_get lists place ≡ Some list
      → slice_get sets place ≡ Some set → HasStates list set

-- The device answers for the sensor of the record with these fields, whose states are the possible ones.
pub record DescribesStateSensor (device : Device) (pdr : StateSensor) : Type 0 where
  pub fields : List SensorStateField
  pub answered :
      (rearm : ℕ) → answer device (commands.GetStateSensorReadings pdr.sensor_id rearm)
      ≡ answers.GetStateSensorReadings fields
  pub possible : HaveStates (map states_of_field fields) pdr.sets.items

-- The device answers for the effecter of the record, whose fields can take the possible states.
pub record DescribesStateEffecter (device : Device) (pdr : StateEffecter) : Type 0 where
  pub effecter : FieldsOfStates
  pub found : with_id pdr.effecter_id device.state_effecters ≡ Some effecter
  pub answered :
      answer device (commands.GetStateEffecterStates pdr.effecter_id)
      ≡ answers.GetStateEffecterStates (map effecter_field effecter.states)
  pub possible : HaveStates effecter.allowed pdr.sets.items

-- A record names an ID that the device answers, and says of it what the device does. That of the terminus names its ID
-- as the device answers it before any SetTID, and this endpoint ID.
abbrev pub Describes : ℕ → Device → RecordData → Type 0
Describes eid device (records.TerminusLocator pdr) =
    (answer device commands.GetTid ≡ answers.GetTid pdr.tid) × (pdr.eid ≡ eid)
Describes eid device (records.NumericSensor pdr) = DescribesNumericSensor device pdr
Describes eid device (records.StateSensor pdr) = DescribesStateSensor device pdr
Describes eid device (records.SensorNames pdr) =
    IsTrue (has_id pdr.sensor_id device.numeric_sensors || has_id pdr.sensor_id device.state_sensors)
Describes eid device (records.NumericEffecter pdr) = DescribesNumericEffecter device pdr
Describes eid device (records.StateEffecter pdr) = DescribesStateEffecter device pdr
Describes eid device (records.EffecterNames pdr) =
    IsTrue (has_id pdr.effecter_id device.numeric_effecters || has_id pdr.effecter_id device.state_effecters)
Describes eid device (records.EntityNames pdr) = Unit {0}

-- the bytes spell such a record
pub record IsRecordOf (eid : ℕ) (device : Device) (bytes : List ℕ) : Type 0 where
  pub handle : ℕ
  pub contents : RecordData
  pub spelled : bytes ≡ bytes_of (platform_record handle 0 contents)
  pub described : Describes eid device contents

-- handles are distinct: each is another than all before it

abbrev pub HaveOtherHandles : List ℕ → List ℕ → Type 0
HaveOtherHandles pdr other = handle_of pdr ≢ handle_of other

abbrev pub HandlesDiffer : List (List ℕ) → Type 0
HandlesDiffer records = AllPairs HaveOtherHandles records

-- the device has these records after those before, and each describes it
pub record HasMade (eid : ℕ) (before : List (List ℕ)) (made : Device) : Type 0 where
  pub more : List (List ℕ)
  pub joined : made.records ≡ before ++ more
  pub described : All (IsRecordOf eid made) more

-- The records that a description has made come after those that it states, and each describes the device, at the
-- endpoint ID of the description.
abbrev pub MadeRecordsDescribe : Type 0
MadeRecordsDescribe =
    (eid : ℕ) (document : Members) (device made : Device) → with_records eid document device ≡ Ok made
    → HasMade eid device.records made

-- No two records of a description's device have one handle.
abbrev pub DescribedHandlesDiffer : Type 0
DescribedHandlesDiffer =
    (document : Members) (description : Description) → description_of document ≡ Ok description
    → HandlesDiffer description.device.records

-- The repository reports how many records there are, the made ones among them, and the bytes of all.
abbrev pub RecordsAreCounted : Type 0
RecordsAreCounted =
    (device : Device) → answer device commands.GetPdrRepositoryInfo
    ≡ answers.GetPdrRepositoryInfo REPOSITORY_AVAILABLE device.update_time device.oem_update_time
    (length device.records) (sum_by length device.records) (largest_record_size device.records) NO_TRANSFER_TIMEOUT
