-- The fields of an answer by name, as DSP0240 and DSP0248 name them.
use Rattle.std.specs.Prelude.{ℕ, ◌-◌, ◌==◌, nat_lt, Bool, ◌&&◌, if◌then◌else◌, List, [], ◌∷◌, ◌++◌, length, take, drop}
use Rattle.std.specs.Prelude.{codes, Option, None, Some}
use Rattle.byteorder.specs.Endian.{little_number}
use Rattle.pldm_wire.specs.Crc32.{crc32}
use Rattle.pldm_wire.specs.declared.limits.TheConstants.{VERSION_BYTES}
use Rattle.std.specs.List.{flat_map}
use Rattle.mctpctl_decode.specs.CodeNames.{code_name}
use Rattle.mctpctl_decode.specs.FieldTexts.{bits_from, code_word, field, hex_field, named, signed_field, word}
use Rattle.mctpctl_decode.specs.StateNames.{effecter_state_name, events_name, repository_state_name}
use Rattle.mctpctl_decode.specs.StateNames.{sensor_operation_name, sensor_state_name}
use Rattle.pldm_wire.specs.EffecterNumbers.{TwoNumbers}
use Rattle.pldm_wire.specs.Kinds.{TypeAndCommand}
use Rattle.pldm_wire.specs.Numbers.{SizedNumber}
use Rattle.pldm_wire.specs.RecordParts.{Part}
use Rattle.pldm_wire.specs.SizeNames.{size_name}
use Rattle.pldm_wire.specs.declared.answer.Answer.{Answer}
use Rattle.pldm_wire.specs.declared.answer.Answer.TheVariants.{Refused, SetTid, GetTid, GetPldmVersion}
use Rattle.pldm_wire.specs.declared.answer.Answer.TheVariants.{GetPldmTypes, GetPldmCommands, GetSensorReading}
use Rattle.pldm_wire.specs.declared.answer.Answer.TheVariants.{GetStateSensorReadings, SetNumericEffecterValue}
use Rattle.pldm_wire.specs.declared.answer.Answer.TheVariants.{GetNumericEffecterValue, SetStateEffecterStates}
use Rattle.pldm_wire.specs.declared.answer.Answer.TheVariants.{GetStateEffecterStates, GetPdrRepositoryInfo, GetPdr}
use Rattle.pldm_wire.specs.declared.state_fields.EffecterStateField.{EffecterStateField}
use Rattle.pldm_wire.specs.declared.state_fields.SensorStateField.{SensorStateField}
use Rattle.pldm_wire.specs.declared.transfer_flag.TransferFlag.{TransferFlag}
use Rattle.pldm_wire.specs.declared.transfer_flag.TransferFlag.TheVariants.{Start, Middle, BaseMiddle, End, StartAndEnd}

abbrev pub refused_text : TypeAndCommand → ℕ → List ℕ
refused_text kind code = word (codes "refused") ++ code_word (code_name kind code) code

abbrev pub state_text : ℕ → List ℕ
state_text state = named (sensor_state_name state) state

-- a state of a numeric sensor after its name
abbrev pub state_field : List ℕ → ℕ → List ℕ
state_field name state = word name ++ state_text state

-- a number's data size, and the number after its name
abbrev pub sized_text : List ℕ → SizedNumber → List ℕ
sized_text name number = word (size_name number.size) ++ signed_field name number.value

-- a numeric sensor's reading, and its present, previous and event state
abbrev pub reading_text : SizedNumber → ℕ → ℕ → ℕ → List ℕ
reading_text reading present previous event =
    sized_text (codes "reading") reading ++ state_text present ++ state_field (codes "previous") previous
    ++ state_field (codes "event") event

abbrev pub operation_text : ℕ → ℕ → List ℕ
operation_text operational enable =
    word (codes "operational") ++ named (sensor_operation_name operational) operational
    ++ word (codes "events") ++ named (events_name enable) enable

abbrev pub sensor_field_text : SensorStateField → List ℕ
sensor_field_text f =
    field (codes "state") f.present ++ field (codes "previous") f.previous ++ field (codes "event") f.event
    ++ word (codes "operational") ++ named (sensor_operation_name f.operational) f.operational

-- the operational state of an effecter
abbrev pub effecter_operation_text : ℕ → List ℕ
effecter_operation_text operational =
    word (codes "operational") ++ named (effecter_state_name operational) operational

abbrev pub values_text : ℕ → TwoNumbers → List ℕ
values_text operational values =
    sized_text (codes "value") values.present ++ signed_field (codes "pending") values.pending.value
    ++ effecter_operation_text operational

abbrev pub effecter_field_text : EffecterStateField → List ℕ
effecter_field_text f =
    field (codes "state") f.present ++ field (codes "pending") f.pending ++ effecter_operation_text f.operational

-- how many records a repository has, its size and that of its largest record, in bytes
abbrev pub sizes_text : ℕ → ℕ → ℕ → List ℕ
sizes_text records size largest =
    field (codes "records") records ++ field (codes "bytes") size ++ field (codes "largest") largest

abbrev pub transfer_text : TransferFlag → List ℕ
transfer_text Start = codes "Start"
transfer_text Middle = codes "Middle"
transfer_text BaseMiddle = codes "Middle"
transfer_text End = codes "End"
transfer_text StartAndEnd = codes "StartAndEnd"

abbrev pub checksum_text : Option ℕ → List ℕ
checksum_text None = []
checksum_text (Some crc) = hex_field (codes "crc") (crc ∷ [])

abbrev pub part_of_record_text : Part → List ℕ
part_of_record_text part =
    word (transfer_text part.flag) ++ field (codes "count") (length part.bytes) ++ hex_field (codes "data") part.bytes
    ++ checksum_text part.transfer_crc

-- whether four bytes are the checksum of some before them
abbrev pub is_checksum_of : List ℕ → List ℕ → Bool
is_checksum_of last front =
    nat_lt 0 (length front) && (length last == VERSION_BYTES) && (little_number 4 last == crc32 front)

-- versions, and their checksum apart
abbrev pub versions_text : List ℕ → List ℕ
versions_text versions =
    let count = length versions - VERSION_BYTES in
    if is_checksum_of (drop count versions) (take count versions)
    then hex_field (codes "versions") (take count versions) ++ hex_field (codes "crc32") (drop count versions)
    else hex_field (codes "versions") versions

-- the fields of an answer to a command of this kind, a space before each
abbrev pub answer_text : TypeAndCommand → Answer → List ℕ
answer_text kind (Refused code) = refused_text kind code
answer_text kind SetTid = word (codes "SUCCESS")
answer_text kind (GetTid tid) = field (codes "tid") tid
answer_text kind (GetPldmVersion next versions) = versions_text versions ++ field (codes "next") next
answer_text kind (GetPldmTypes types) = word (codes "types") ++ bits_from 0 types
answer_text kind (GetPldmCommands commands) = word (codes "commands") ++ bits_from 0 commands
answer_text kind (GetSensorReading operational enable present previous event reading) =
    reading_text reading present previous event ++ operation_text operational enable
answer_text kind (GetStateSensorReadings fields) = flat_map sensor_field_text fields
answer_text kind SetNumericEffecterValue = word (codes "SUCCESS")
answer_text kind (GetNumericEffecterValue operational values) = values_text operational values
answer_text kind SetStateEffecterStates = word (codes "SUCCESS")
answer_text kind (GetStateEffecterStates fields) = flat_map effecter_field_text fields
answer_text kind (GetPdrRepositoryInfo state update_time oem_update_time records size largest timeout) =
    word (codes "state") ++ named (repository_state_name state) state ++ sizes_text records size largest
    ++ hex_field (codes "updated") update_time ++ hex_field (codes "oem") oem_update_time
    ++ field (codes "timeout") timeout
answer_text kind (GetPdr next_record next_transfer part) =
    field (codes "next") next_record ++ field (codes "transfer") next_transfer ++ part_of_record_text part
