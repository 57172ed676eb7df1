-- The simulated device: its terminus ID, its sensors, its effecters and its records, and what it reports
-- of itself.
use Rattle.std.specs.Prelude.{ℕ, List}
use Rattle.pldm_wire.specs.declared.state_fields.SensorStateField.{SensorStateField}
use Rattle.pldm_records.specs.ById.{ById}
use Rattle.simulated_device.specs.declared.numeric.NumericSensor.{NumericSensor}
use Rattle.simulated_device.specs.declared.numeric.NumericEffecter.{NumericEffecter}
use Rattle.simulated_device.specs.StateEffecters.{FieldsOfStates}

pub record Device : Type 0 where
  pub tid : ℕ
  pub base_versions : List ℕ
  pub platform_versions : List ℕ
  pub update_time : List ℕ
  pub oem_update_time : List ℕ
  pub numeric_sensors : ById NumericSensor
  pub state_sensors : ById (List SensorStateField)
  pub numeric_effecters : ById NumericEffecter
  pub state_effecters : ById FieldsOfStates
  pub records : List (List ℕ)

-- the device with these records
abbrev pub recorded : Device → List (List ℕ) → Device
recorded device records = record device { records = records }
