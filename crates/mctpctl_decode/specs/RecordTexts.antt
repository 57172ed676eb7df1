-- The lines of a platform data record that a GetPDR answer has whole (DSP0248, "Common PDR format").
use Rattle.std.specs.Prelude.{ℕ, List, [], ◌++◌, codes, slice_get, Option, None, Some, Result, Ok, Err}
use Rattle.mctpctl_decode.specs.FieldTexts.{word}
use Rattle.mctpctl_decode.specs.NameTexts.{effecter_names_lines, entity_names_lines, sensor_names_lines}
use Rattle.mctpctl_decode.specs.NumericEffecterTexts as numeric_effecters
use Rattle.mctpctl_decode.specs.NumericSensorTexts as numeric_sensors
use Rattle.mctpctl_decode.specs.RecordFields.{named_number, number, record_line, truth}
use Rattle.mctpctl_decode.specs.RecordNames.{fault_name, type_name}
use Rattle.mctpctl_decode.specs.StateRecordTexts as state_records
use Rattle.mctpctl_decode.specs.declared.label.Label.TheVariants.{Change, Container, Eid, Record, Terminus, Tid, RecordType}
use Rattle.mctpctl_decode.specs.declared.label.Label.TheVariants.{Valid, Version}
use Rattle.mctpctl_decode.specs.declared.record_text.TheConstants.{TYPE_PLACE}
use Rattle.pldm_pdr.specs.Records.{PlatformRecord, record_of, type_of}
use Rattle.pldm_pdr.specs.declared.data.RecordData.{RecordData}
use Rattle.pldm_pdr.specs.declared.data.RecordData.TheVariants.{TerminusLocator, NumericSensor, StateSensor}
use Rattle.pldm_pdr.specs.declared.data.RecordData.TheVariants.{NumericEffecter, StateEffecter, SensorNames}
use Rattle.pldm_pdr.specs.declared.data.RecordData.TheVariants.{EffecterNames, EntityNames}
use Rattle.pldm_pdr.specs.declared.fault.RecordFault.{RecordFault}
use Rattle.pldm_pdr.specs.declared.limits.TheConstants.{HEADER_VERSION}
use Rattle.pldm_pdr.specs.declared.locator.TerminusLocator as locators
use Rattle.pldm_wire.specs.declared.answer.Answer.{Answer}
use Rattle.pldm_wire.specs.declared.answer.Answer.TheVariants.{GetPdr}
use Rattle.pldm_wire.specs.declared.transfer_flag.TransferFlag.{TransferFlag}
use Rattle.pldm_wire.specs.declared.transfer_flag.TransferFlag.TheVariants.{StartAndEnd}

-- the type of a record by its name, else by its number
unfoldable pub type_text : ℕ → List ℕ
type_text code = named_number RecordType (type_name code) code

-- record handle, version, type and change number
unfoldable pub header_text : PlatformRecord → List ℕ
header_text r =
    number Record r.handle ++ number Version HEADER_VERSION ++ type_text (type_of r.contents)
    ++ number Change r.change_number

unfoldable pub locator_text : locators.TerminusLocator → List ℕ
locator_text locator =
    number Terminus locator.terminus_handle ++ truth Valid locator.is_valid ++ number Tid locator.tid
    ++ number Container locator.container_id ++ number Eid locator.eid

abbrev pub data_lines : RecordData → List ℕ
data_lines (TerminusLocator locator) = record_line (locator_text locator)
data_lines (NumericSensor sensor) = numeric_sensors.sensor_lines sensor
data_lines (StateSensor sensor) = state_records.sensor_lines sensor
data_lines (NumericEffecter effecter) = numeric_effecters.effecter_lines effecter
data_lines (StateEffecter effecter) = state_records.effecter_lines effecter
data_lines (SensorNames names) = sensor_names_lines names
data_lines (EffecterNames names) = effecter_names_lines names
data_lines (EntityNames names) = entity_names_lines names

-- the type that stands in a header, where the bytes reach so far
unfoldable pub unread_type_text : Option ℕ → List ℕ
unread_type_text None = []
unread_type_text (Some number) = type_text number

-- that bytes are no record that is read, and the name of the fault
unfoldable pub unread_name : List ℕ → List ℕ
unread_name fault = word (codes "record unread") ++ word fault

-- the same, and the type
unfoldable pub unread_text : List ℕ → List ℕ → List ℕ
unread_text bytes fault = unread_name fault ++ unread_type_text (slice_get bytes TYPE_PLACE)

abbrev pub lines_of_read : List ℕ → Result PlatformRecord RecordFault → List ℕ
lines_of_read bytes (Ok r) = record_line (header_text r) ++ data_lines r.contents
lines_of_read bytes (Err fault) = record_line (unread_text bytes (fault_name fault))

-- the lines of the bytes of a record
abbrev pub record_lines : List ℕ → List ℕ
record_lines bytes = lines_of_read bytes (record_of bytes)

-- a part that is the whole record has lines
abbrev pub part_lines : TransferFlag → List ℕ → List ℕ
part_lines StartAndEnd bytes = record_lines bytes
part_lines flag bytes = []

-- the lines of the record that an answer has whole
unfoldable pub carried_lines : Answer → List ℕ
carried_lines (GetPdr next_record next_transfer part) = part_lines part.flag part.bytes
carried_lines answer = []
