-- The answers by the table: which row an answer is of, its completion code, and its fields as the values of that row's
-- answer.
use Rattle.std.specs.Prelude.{◌≡◌, ℕ, List, length, Option, Some, None, IfSome}
use Rattle.pldm_wire.specs.Codes.{IsCode}
use Rattle.pldm_wire.specs.CommandTable.{Data, Row, no_data, set_tid, get_tid, get_pldm_version, get_pldm_types}
use Rattle.pldm_wire.specs.CommandTable.{get_pldm_commands, get_sensor_reading, get_state_sensor_readings}
use Rattle.pldm_wire.specs.CommandTable.{set_numeric_effecter_value, get_numeric_effecter_value}
use Rattle.pldm_wire.specs.CommandTable.{set_state_effecter_states, get_state_effecter_states}
use Rattle.pldm_wire.specs.CommandTable.{get_pdr_repository_info, get_pdr}
use Rattle.pldm_wire.specs.Kinds.{TypeAndCommand}
use Rattle.pldm_wire.specs.Layouts.{Values, bytes_of, AllInRange, StandIn}
use Rattle.pldm_wire.specs.Messages.{response_message}
use Rattle.pldm_wire.specs.declared.assigned.TheConstants.{START_AND_END, SUCCESS}
use Rattle.pldm_wire.specs.declared.answer.Answer.{Answer}
use Rattle.pldm_wire.specs.declared.answer.Answer.TheVariants.{Refused, SetTid, GetTid, GetPldmVersion}
use Rattle.pldm_wire.specs.declared.answer.Answer.TheVariants.{GetPldmTypes, GetPldmCommands, GetSensorReading}
use Rattle.pldm_wire.specs.declared.answer.Answer.TheVariants.{GetStateSensorReadings, SetNumericEffecterValue}
use Rattle.pldm_wire.specs.declared.answer.Answer.TheVariants.{GetNumericEffecterValue, SetStateEffecterStates}
use Rattle.pldm_wire.specs.declared.answer.Answer.TheVariants.{GetStateEffecterStates, GetPdrRepositoryInfo, GetPdr}

-- the one command that it answers, if there is one, the data, and values of it
pub data AnswerEntry : Type 0 where
  answers : Option TypeAndCommand → (contents : Data Answer) → Values contents.layout → AnswerEntry

abbrev pub answer : (row : Row) → Values row.answer.layout → AnswerEntry
answer row values = answers (Some row.kind) row.answer values

-- a refusal is to any command, and has no data
abbrev pub answer_entry : Answer → AnswerEntry
answer_entry (Refused code) = answers None (no_data (Refused code)) tt
answer_entry SetTid = answer set_tid tt
answer_entry (GetTid tid) = answer get_tid (tid, tt)
answer_entry (GetPldmVersion next_data_transfer_handle versions) =
    answer get_pldm_version (next_data_transfer_handle, (START_AND_END, versions))
answer_entry (GetPldmTypes types) = answer get_pldm_types (types, tt)
answer_entry (GetPldmCommands commands) = answer get_pldm_commands (commands, tt)
answer_entry (GetSensorReading operational sensor_event_message_enable present previous event reading) =
    answer get_sensor_reading (
      reading.size,
      (operational, (sensor_event_message_enable, (present, (previous, (event, (reading.value, tt)))))),
    )
answer_entry (GetStateSensorReadings fields) = answer get_state_sensor_readings (length fields, (fields, tt))
answer_entry SetNumericEffecterValue = answer set_numeric_effecter_value tt
answer_entry (GetNumericEffecterValue operational values) =
    answer get_numeric_effecter_value
    (values.pending.size, (operational, (values.pending.value, (values.present.value, tt))))
answer_entry SetStateEffecterStates = answer set_state_effecter_states tt
answer_entry (GetStateEffecterStates fields) = answer get_state_effecter_states (length fields, (fields, tt))
answer_entry (GetPdrRepositoryInfo state update_time oem_update_time record_count repository_size
    largest_record_size timeout) =
    answer get_pdr_repository_info (
      state,
      (update_time, (oem_update_time, (record_count, (repository_size, (largest_record_size, (timeout, tt)))))),
    )
answer_entry (GetPdr next_record_handle next_data_transfer_handle part) =
    answer get_pdr (
      next_record_handle,
      (next_data_transfer_handle, (part.flag, (length part.bytes, (part.bytes, (part.transfer_crc, tt))))),
    )

abbrev pub kind_in : AnswerEntry → Option TypeAndCommand
kind_in (answers kind contents values) = kind

-- what the values make; they stand in the bytes, are in their ranges, and are written as bytes
abbrev pub made_of : AnswerEntry → Answer
made_of (answers kind contents values) = contents.make values

abbrev pub EntryStands : AnswerEntry → List ℕ → Type 0
EntryStands (answers kind contents values) bytes = StandIn contents.layout values bytes

abbrev pub EntryInRange : AnswerEntry → Type 0
EntryInRange (answers kind contents values) = AllInRange contents.layout values

abbrev pub entry_bytes : AnswerEntry → List ℕ
entry_bytes (answers kind contents values) = bytes_of contents.layout values

-- the one command that the answer is to
abbrev pub answered_kind : Answer → Option TypeAndCommand
answered_kind a = kind_in (answer_entry a)

abbrev pub IsAnswerTo : TypeAndCommand → Answer → Type 0
IsAnswerTo kind a = IfSome (answered_kind a) (λ k. kind ≡ k)

-- the values are all of the answer: of two numbers of one data size, say, neither has another
abbrev pub IsMadeOfValues : Answer → Type 0
IsMadeOfValues a = made_of (answer_entry a) ≡ a

-- the answer's fields stand in this completion code and these bytes; after a code other than
-- SUCCESS the bytes may be any
abbrev pub HasAnswerFields : Answer → ℕ → List ℕ → Type 0
HasAnswerFields (Refused refusal) code bytes = (code ≡ refusal) × IsCode refusal
HasAnswerFields a code bytes =
    (code ≡ SUCCESS) × IsMadeOfValues a × EntryStands (answer_entry a) bytes

-- a response of this kind with this completion code and these bytes of data is the answer
pub record AnswerFields (answer : Answer) (kind : TypeAndCommand) (code : ℕ) (bytes : List ℕ) : Type 0 where
  pub kind_is : IsAnswerTo kind answer
  pub fields : HasAnswerFields answer code bytes

-- the completion code of a refusal is one of a refusal
abbrev pub HasCode : Answer → Type 0
HasCode (Refused refusal) = IsCode refusal
HasCode _ = Unit {0}

-- the ranges of an answer's fields
abbrev pub IsAnswer : Answer → Type 0
IsAnswer (Refused refusal) = IsCode refusal
IsAnswer a = IsMadeOfValues a × EntryInRange (answer_entry a)

-- the completion code that an answer is written with
abbrev pub code_of : Answer → ℕ
code_of (Refused code) = code
code_of _ = SUCCESS

-- the data that an answer is written with
abbrev pub answer_data : Answer → List ℕ
answer_data a = entry_bytes (answer_entry a)

-- the response that an answer is written as: its reserved bit is 0
abbrev pub answer_message : ℕ → TypeAndCommand → Answer → List ℕ
answer_message id kind a = response_message 0 id kind (code_of a) (answer_data a)
