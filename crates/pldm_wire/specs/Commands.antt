-- The commands by the table: which row a command is of, and its fields as the values of that row's request.
use Rattle.std.specs.Prelude.{◌≡◌, ℕ, Bool, List, length}
use Rattle.pldm_wire.specs.CommandTable.{Row, set_tid, get_tid, get_pldm_version, get_pldm_types, get_pldm_commands}
use Rattle.pldm_wire.specs.CommandTable.{get_sensor_reading, get_state_sensor_readings, set_numeric_effecter_value}
use Rattle.pldm_wire.specs.CommandTable.{get_numeric_effecter_value, set_state_effecter_states}
use Rattle.pldm_wire.specs.CommandTable.{get_state_effecter_states, get_pdr_repository_info, get_pdr}
use Rattle.pldm_wire.specs.Kinds.{TypeAndCommand}
use Rattle.pldm_wire.specs.Layouts.{Values, bytes_of, AllInRange, StandIn}
use Rattle.pldm_wire.specs.Messages.{request_message}
use Rattle.pldm_wire.specs.declared.command.Command.{Command}
use Rattle.pldm_wire.specs.declared.command.Command.TheVariants.{SetTid, GetTid, GetPldmVersion}
use Rattle.pldm_wire.specs.declared.command.Command.TheVariants.{GetPldmTypes, GetPldmCommands, GetSensorReading}
use Rattle.pldm_wire.specs.declared.command.Command.TheVariants.{GetStateSensorReadings, SetNumericEffecterValue}
use Rattle.pldm_wire.specs.declared.command.Command.TheVariants.{GetNumericEffecterValue, SetStateEffecterStates}
use Rattle.pldm_wire.specs.declared.command.Command.TheVariants.{GetStateEffecterStates, GetPdrRepositoryInfo, GetPdr}

-- a row, and values of its request
pub data CommandEntry : Type 0 where
  entry : (row : Row) → Values row.request.layout → CommandEntry

abbrev pub entry_of : Command → CommandEntry
entry_of (SetTid tid) = entry set_tid (tid, tt)
entry_of GetTid = entry get_tid tt
entry_of (GetPldmVersion data_transfer_handle transfer_operation_flag pldm_type) =
    entry get_pldm_version (data_transfer_handle, (transfer_operation_flag, (pldm_type, tt)))
entry_of GetPldmTypes = entry get_pldm_types tt
entry_of (GetPldmCommands pldm_type version) = entry get_pldm_commands (pldm_type, (version, tt))
entry_of (GetSensorReading sensor rearm) = entry get_sensor_reading (sensor, (rearm, tt))
entry_of (GetStateSensorReadings sensor rearm) = entry get_state_sensor_readings (sensor, (rearm, (tt, tt)))
entry_of (SetNumericEffecterValue effecter value) =
    entry set_numeric_effecter_value (effecter, (value.size, (value.value, tt)))
entry_of (GetNumericEffecterValue effecter) = entry get_numeric_effecter_value (effecter, tt)
entry_of (SetStateEffecterStates effecter fields) =
    entry set_state_effecter_states (effecter, (length fields, (fields, tt)))
entry_of (GetStateEffecterStates effecter) = entry get_state_effecter_states (effecter, tt)
entry_of GetPdrRepositoryInfo = entry get_pdr_repository_info tt
entry_of (GetPdr record_handle data_transfer_handle transfer_operation_flag request_count record_change_number) =
    entry get_pdr
    (record_handle, (data_transfer_handle, (transfer_operation_flag, (request_count, (record_change_number, tt)))))

abbrev pub row_in : CommandEntry → Row
row_in (entry row values) = row

abbrev pub kind_of : Command → TypeAndCommand
kind_of command = (row_in (entry_of command)).kind

-- whether a command sets something in the terminus
abbrev pub sets : Command → Bool
sets command = (row_in (entry_of command)).sets

-- the values stand in the bytes, are in their ranges, and are written as bytes
abbrev pub EntryStands : CommandEntry → List ℕ → Type 0
EntryStands (entry row values) bytes = StandIn row.request.layout values bytes

abbrev pub EntryInRange : CommandEntry → Type 0
EntryInRange (entry row values) = AllInRange row.request.layout values

abbrev pub entry_bytes : CommandEntry → List ℕ
entry_bytes (entry row values) = bytes_of row.request.layout values

-- a request of this kind with these bytes of data is the command
pub record CommandFields (command : Command) (kind : TypeAndCommand) (bytes : List ℕ) : Type 0 where
  pub kind_is : kind ≡ kind_of command
  pub fields : EntryStands (entry_of command) bytes

-- the ranges of a command's fields
abbrev pub IsCommand : Command → Type 0
IsCommand command = EntryInRange (entry_of command)

-- the data that a command is written with: reserved bytes 0, and no ignored ones
abbrev pub command_data : Command → List ℕ
command_data command = entry_bytes (entry_of command)

-- the request that a command is written as: its reserved bit is 0
abbrev pub command_message : ℕ → Command → List ℕ
command_message id command = request_message 0 id (kind_of command) (command_data command)
