-- The commands of sensors (DSP0248), and the setting of a reading.
use Rattle.std.specs.Prelude.{ℕ, ℤ, List, Option, Some, None, Result, Ok, Err, if◌then◌else◌}
use Rattle.pldm_wire.specs.Numbers.{sized}
use Rattle.pldm_wire.specs.Sizes.{fits}
use Rattle.pldm_wire.specs.declared.state_fields.SensorStateField.{SensorStateField}
use Rattle.pldm_wire.specs.declared.answer.Answer.{Answer}
use Rattle.pldm_wire.specs.declared.answer.Answer.TheVariants.{Refused, GetSensorReading, GetStateSensorReadings}
use Rattle.pldm_records.specs.ById.{change_at}
use Rattle.pldm_platform.specs.Changes.{made_of}
use Rattle.simulated_device.specs.Devices.{Device}
use Rattle.simulated_device.specs.declared.limits.TheConstants.{SENSOR_ENABLED, NO_EVENTS}
use Rattle.pldm_platform.specs.declared.refusals.TheConstants.{INVALID_SENSOR_ID}
use Rattle.simulated_device.specs.declared.numeric.NumericSensor.{NumericSensor}
use Rattle.pldm_platform.specs.declared.platform.ReadingFault.{ReadingFault}
use Rattle.pldm_platform.specs.declared.platform.ReadingFault.TheVariants.{NoSuchSensor, OutOfSize}

abbrev pub numeric_sensor_answered : Option NumericSensor → Answer
numeric_sensor_answered None = Refused INVALID_SENSOR_ID
numeric_sensor_answered (Some sensor) =
    GetSensorReading SENSOR_ENABLED NO_EVENTS sensor.present sensor.previous sensor.event sensor.reading

abbrev pub state_sensor_answered : Option (List SensorStateField) → Answer
state_sensor_answered None = Refused INVALID_SENSOR_ID
state_sensor_answered (Some fields) = GetStateSensorReadings fields

-- the sensor with the reading, which has to fit its size
abbrev pub sense : ℤ → NumericSensor → Result NumericSensor ReadingFault
sense value sensor =
    if fits sensor.reading.size value then Ok (record sensor { reading = sized sensor.reading.size value })
    else Err OutOfSize

-- the device with the sensor's reading, or why it isn't set
abbrev pub sensed : Device → ℕ → ℤ → Result Device ReadingFault
sensed device id value =
    made_of (λ sensors. record device { numeric_sensors = sensors })
    (change_at NoSuchSensor (sense value) id device.numeric_sensors)
