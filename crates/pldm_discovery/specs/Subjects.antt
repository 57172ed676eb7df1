-- The sensors and effecters that records describe (DSP0248, "PDR formats"), and what is asked of each.
use Rattle.std.specs.Prelude.{ℕ, List, Option, Some, None, Result, Ok, Err}
use Rattle.pldm_pdr.specs.Records.{PlatformRecord, record_of}
use Rattle.pldm_pdr.specs.declared.data.RecordData.{RecordData}
use Rattle.pldm_pdr.specs.declared.data.RecordData.TheVariants as contents
use Rattle.pldm_pdr.specs.declared.fault.RecordFault.{RecordFault}
use Rattle.pldm_wire.specs.declared.command.Command.{Command}
use Rattle.pldm_wire.specs.declared.command.Command.TheVariants.{GetSensorReading, GetStateSensorReadings}
use Rattle.pldm_wire.specs.declared.command.Command.TheVariants.{GetNumericEffecterValue, GetStateEffecterStates}
use Rattle.pldm_discovery.specs.declared.limits.TheConstants.{NO_REARM}
use Rattle.pldm_discovery.specs.declared.discovered.Discovered.{Discovered}
use Rattle.pldm_discovery.specs.declared.discovered.SensorOrEffecter.{SensorOrEffecter}
use Rattle.pldm_discovery.specs.declared.discovered.SensorOrEffecter.TheVariants.{NumericSensor, StateSensor}
use Rattle.pldm_discovery.specs.declared.discovered.SensorOrEffecter.TheVariants.{NumericEffecter, StateEffecter}

-- the command that asks for a reading, a value or states
abbrev pub question : SensorOrEffecter → Command
question (NumericSensor sensor) = GetSensorReading sensor NO_REARM
question (StateSensor sensor) = GetStateSensorReadings sensor NO_REARM
question (NumericEffecter effecter) = GetNumericEffecterValue effecter
question (StateEffecter effecter) = GetStateEffecterStates effecter

-- something of a terminus, described by the record at a place
abbrev pub found_as : SensorOrEffecter → ℕ → ℕ → Discovered
found_as subject terminus place = record { subject = subject; terminus = terminus; place = place }

-- what the record at a place describes, which has this data
abbrev pub found_in : ℕ → RecordData → Option Discovered
found_in place (contents.NumericSensor sensor) =
    Some (found_as (NumericSensor sensor.sensor_id) sensor.terminus_handle place)
found_in place (contents.StateSensor sensor) =
    Some (found_as (StateSensor sensor.sensor_id) sensor.terminus_handle place)
found_in place (contents.NumericEffecter effecter) =
    Some (found_as (NumericEffecter effecter.effecter_id) effecter.terminus_handle place)
found_in place (contents.StateEffecter effecter) =
    Some (found_as (StateEffecter effecter.effecter_id) effecter.terminus_handle place)
found_in place _ = None

abbrev pub found_read : ℕ → Result PlatformRecord RecordFault → Option Discovered
found_read place (Ok r) = found_in place r.contents
found_read place (Err fault) = None

-- what the record at a place describes, where it can be read
unfoldable pub found_of : ℕ → List ℕ → Option Discovered
found_of place pdr = found_read place (record_of pdr)
