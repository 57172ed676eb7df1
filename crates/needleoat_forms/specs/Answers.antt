-- The answer that a struct of fields is, one row each (DSP0240, DSP0248). Reading fills a struct that
-- is the answer which was read; writing writes the answer that the struct is.
use Rattle.std.specs.Prelude.{ℕ, ◌==◌, nat_le, nat_lt, ◌&&◌, List, take, Option, Some, None, option_map}
use Rattle.std.specs.Prelude.{if◌then◌else◌}
use Rattle.pldm_wire.specs.Answers.{answer_message}
use Rattle.pldm_wire.specs.EffecterNumbers.{TwoNumbers, two_numbers}
use Rattle.pldm_wire.specs.Kinds.{TypeAndCommand, of_type}
use Rattle.pldm_wire.specs.Numbers.{sized}
use Rattle.pldm_wire.specs.RecordParts.{Part, part}
use Rattle.pldm_wire.specs.Sizes.{fits, size_of}
use Rattle.pldm_wire.specs.TransferFlags.{flag_of, is_end}
use Rattle.pldm_wire.specs.Versions.{is_version_data}
use Rattle.pldm_wire.specs.declared.assigned.TheConstants.{BASE, PLATFORM, SET_TID, GET_TID, GET_PLDM_VERSION}
use Rattle.pldm_wire.specs.declared.assigned.TheConstants.{GET_PLDM_TYPES, GET_PLDM_COMMANDS, GET_SENSOR_READING}
use Rattle.pldm_wire.specs.declared.assigned.TheConstants.{GET_STATE_SENSOR_READINGS, SET_NUMERIC_EFFECTER_VALUE}
use Rattle.pldm_wire.specs.declared.assigned.TheConstants.{GET_NUMERIC_EFFECTER_VALUE, SET_STATE_EFFECTER_STATES}
use Rattle.pldm_wire.specs.declared.assigned.TheConstants.{GET_STATE_EFFECTER_STATES, GET_PDR_REPOSITORY_INFO, GET_PDR}
use Rattle.pldm_wire.specs.declared.assigned.TheConstants.{INSTANCE_IDS, SUCCESS}
use Rattle.pldm_wire.specs.declared.limits.TheConstants.{MAX_PART_BYTES}
use Rattle.pldm_wire.specs.declared.answer.Answer.{Answer}
use Rattle.pldm_wire.specs.declared.answer.Answer.TheVariants.{Refused, SetTid, GetTid, GetPldmVersion}
use Rattle.pldm_wire.specs.declared.answer.Answer.TheVariants.{GetPldmTypes, GetPldmCommands, GetSensorReading}
use Rattle.pldm_wire.specs.declared.answer.Answer.TheVariants.{GetStateSensorReadings, SetNumericEffecterValue}
use Rattle.pldm_wire.specs.declared.answer.Answer.TheVariants.{GetNumericEffecterValue, SetStateEffecterStates}
use Rattle.pldm_wire.specs.declared.answer.Answer.TheVariants.{GetStateEffecterStates, GetPdrRepositoryInfo, GetPdr}
use Rattle.pldm_wire.specs.declared.size.Size.{Size}
use Rattle.pldm_wire.specs.declared.transfer_flag.TransferFlag.{TransferFlag}
use Rattle.needleoat_forms.specs.Commands.{number_in}
use Rattle.needleoat_forms.specs.States.{sensor_states_in, effecter_states_in}
use Rattle.needleoat_forms.specs.declared.answer.AnswerFields.{AnswerFields}

-- which command it answers
abbrev pub kind_in : AnswerFields → TypeAndCommand
kind_in f = of_type f.pldm_type f.command

-- as many bytes as the length says, where there are so many
abbrev pub bytes_in : AnswerFields → Option (List ℕ)
bytes_in f = if nat_le f.length MAX_PART_BYTES then Some (take f.length f.bytes) else None

-- the answer to GetPLDMVersion with these bytes
abbrev pub version_answer_in : AnswerFields → Option (List ℕ) → Option Answer
version_answer_in f None = None
version_answer_in f (Some versions) =
    if is_version_data versions then Some (GetPldmVersion f.next_data_transfer_handle versions) else None

-- the answers to the commands of messaging control and discovery
abbrev pub base_answer_in : AnswerFields → Option Answer
base_answer_in f =
    if f.command == SET_TID then Some SetTid
    else if f.command == GET_TID then Some (GetTid f.tid)
    else if f.command == GET_PLDM_VERSION then version_answer_in f (bytes_in f)
    else if f.command == GET_PLDM_TYPES then Some (GetPldmTypes f.types)
    else if f.command == GET_PLDM_COMMANDS then Some (GetPldmCommands f.commands)
    else None

-- the pending and the present value, both of this size
abbrev pub effecter_values_in : Option Size → AnswerFields → Option TwoNumbers
effecter_values_in None f = None
effecter_values_in (Some size) f =
    if fits size f.pending_value && fits size f.value then
    Some (two_numbers (sized size f.pending_value) (sized size f.value))
    else None

-- the checksum, where it follows a part with this flag
abbrev pub checksum_in : TransferFlag → ℕ → Option ℕ
checksum_in flag checksum = if is_end flag then Some checksum else None

-- the part of a record with this flag and these bytes
abbrev pub part_in : AnswerFields → Option TransferFlag → Option (List ℕ) → Option Part
part_in f None bytes = None
part_in f (Some flag) None = None
part_in f (Some flag) (Some bytes) = Some (part flag bytes (checksum_in flag f.transfer_crc))

-- the answer to GetPDR
abbrev pub part_answer_in : AnswerFields → Option Answer
part_answer_in f =
    option_map (λ part. GetPdr f.next_record_handle f.next_data_transfer_handle part)
    (part_in f (flag_of f.transfer_flag) (bytes_in f))

-- the answers to the commands of platform monitoring and control
abbrev pub platform_answer_in : AnswerFields → Option Answer
platform_answer_in f =
    if f.command == GET_SENSOR_READING then
    option_map (λ reading. GetSensorReading f.operational f.sensor_event_message_enable f.present f.previous f.event
    reading) (number_in f.size f.value)
    else if f.command == GET_STATE_SENSOR_READINGS then
    option_map (λ fields. GetStateSensorReadings fields) (sensor_states_in f.count f.sensor_states)
    else if f.command == SET_NUMERIC_EFFECTER_VALUE then Some SetNumericEffecterValue
    else if f.command == GET_NUMERIC_EFFECTER_VALUE then
    option_map (λ values. GetNumericEffecterValue f.operational values) (effecter_values_in (size_of f.size) f)
    else if f.command == SET_STATE_EFFECTER_STATES then Some SetStateEffecterStates
    else if f.command == GET_STATE_EFFECTER_STATES then
    option_map (λ fields. GetStateEffecterStates fields) (effecter_states_in f.count f.effecter_states)
    else if f.command == GET_PDR_REPOSITORY_INFO then
    Some (GetPdrRepositoryInfo f.repository_state f.update_time f.oem_update_time f.record_count f.repository_size
    f.largest_record_size f.timeout)
    else if f.command == GET_PDR then part_answer_in f
    else None

-- the answer after SUCCESS
abbrev pub success_in : AnswerFields → Option Answer
success_in f =
    if f.pldm_type == BASE then base_answer_in f
    else if f.pldm_type == PLATFORM then platform_answer_in f
    else None

-- the answer: a refusal of any command whose type has six bits, or the answer of its own command
unfoldable pub answer_in : AnswerFields → Option Answer
answer_in f =
    if nat_lt f.pldm_type 64 then (if f.code == SUCCESS then success_in f else Some (Refused f.code)) else None

-- its response, where the instance ID is one
abbrev pub response_in : AnswerFields → Option (List ℕ)
response_in f =
    if nat_lt f.instance_id INSTANCE_IDS then option_map (answer_message f.instance_id (kind_in f)) (answer_in f)
    else None
