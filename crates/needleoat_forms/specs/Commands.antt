-- The command that a struct of fields is, one row each (DSP0240, DSP0248). Reading fills a struct
-- that is the command which was read; writing writes the command that the struct is.
use Rattle.std.specs.Prelude.{◌≡◌, ℕ, ◌==◌, nat_lt, ℤ, List, Option, Some, None, option_map, Result, Ok, Err}
use Rattle.std.specs.Prelude.{if◌then◌else◌}
use Rattle.mctp_packet.specs.Reasons.{number_of}
use Rattle.mctp_packet.specs.declared.reason.Reason.{Reason}
use Rattle.pldm_wire.specs.CommandReading.{command_of}
use Rattle.pldm_wire.specs.Commands.{command_message}
use Rattle.pldm_wire.specs.Numbers.{SizedNumber, sized}
use Rattle.pldm_wire.specs.Requests.{Request}
use Rattle.pldm_wire.specs.Sizes.{fits, size_of}
use Rattle.pldm_wire.specs.declared.assigned.TheConstants.{BASE, PLATFORM, SET_TID, GET_TID, GET_PLDM_VERSION}
use Rattle.pldm_wire.specs.declared.assigned.TheConstants.{GET_PLDM_TYPES, GET_PLDM_COMMANDS, GET_SENSOR_READING}
use Rattle.pldm_wire.specs.declared.assigned.TheConstants.{GET_STATE_SENSOR_READINGS, SET_NUMERIC_EFFECTER_VALUE}
use Rattle.pldm_wire.specs.declared.assigned.TheConstants.{GET_NUMERIC_EFFECTER_VALUE, SET_STATE_EFFECTER_STATES}
use Rattle.pldm_wire.specs.declared.assigned.TheConstants.{GET_STATE_EFFECTER_STATES, GET_PDR_REPOSITORY_INFO, GET_PDR}
use Rattle.pldm_wire.specs.declared.assigned.TheConstants.{INSTANCE_IDS}
use Rattle.pldm_wire.specs.declared.command.Command.{Command}
use Rattle.pldm_wire.specs.declared.command.Command.TheVariants.{SetTid, GetTid, GetPldmVersion}
use Rattle.pldm_wire.specs.declared.command.Command.TheVariants.{GetPldmTypes, GetPldmCommands, GetSensorReading}
use Rattle.pldm_wire.specs.declared.command.Command.TheVariants.{GetStateSensorReadings, SetNumericEffecterValue}
use Rattle.pldm_wire.specs.declared.command.Command.TheVariants.{GetNumericEffecterValue, SetStateEffecterStates}
use Rattle.pldm_wire.specs.declared.command.Command.TheVariants.{GetStateEffecterStates, GetPdrRepositoryInfo, GetPdr}
use Rattle.pldm_wire.specs.declared.size.Size.{Size}
use Rattle.needleoat_forms.specs.States.{sets_in}
use Rattle.needleoat_forms.specs.declared.command.CommandFields.{CommandFields}
use Rattle.needleoat_forms.specs.declared.command_reading.CommandReading.{CommandReading}

-- the number of a data size and a value, where there is such a size and the value fits it

abbrev pub number_of_size : Option Size → ℤ → Option SizedNumber
number_of_size None value = None
number_of_size (Some size) value = if fits size value then Some (sized size value) else None

abbrev pub number_in : ℕ → ℤ → Option SizedNumber
number_in size value = number_of_size (size_of size) value

-- the commands of messaging control and discovery
abbrev pub base_command_in : CommandFields → Option Command
base_command_in f =
    if f.command == SET_TID then Some (SetTid f.tid)
    else if f.command == GET_TID then Some GetTid
    else if f.command == GET_PLDM_VERSION then
    Some (GetPldmVersion f.data_transfer_handle f.transfer_operation_flag f.asked_type)
    else if f.command == GET_PLDM_TYPES then Some GetPldmTypes
    else if f.command == GET_PLDM_COMMANDS then Some (GetPldmCommands f.asked_type f.version)
    else None

-- the commands of platform monitoring and control
abbrev pub platform_command_in : CommandFields → Option Command
platform_command_in f =
    if f.command == GET_SENSOR_READING then Some (GetSensorReading f.sensor f.rearm)
    else if f.command == GET_STATE_SENSOR_READINGS then Some (GetStateSensorReadings f.sensor f.rearm)
    else if f.command == SET_NUMERIC_EFFECTER_VALUE then
    option_map (λ value. SetNumericEffecterValue f.effecter value) (number_in f.size f.value)
    else if f.command == GET_NUMERIC_EFFECTER_VALUE then Some (GetNumericEffecterValue f.effecter)
    else if f.command == SET_STATE_EFFECTER_STATES then
    option_map (λ fields. SetStateEffecterStates f.effecter fields) (sets_in f.count f.sets)
    else if f.command == GET_STATE_EFFECTER_STATES then Some (GetStateEffecterStates f.effecter)
    else if f.command == GET_PDR_REPOSITORY_INFO then Some GetPdrRepositoryInfo
    else if f.command == GET_PDR then
    Some (GetPdr f.record_handle f.data_transfer_handle f.transfer_operation_flag f.request_count
    f.record_change_number)
    else None

-- the command, where there is one of this type and number and its fields are in range
unfoldable pub command_in : CommandFields → Option Command
command_in f =
    if f.pldm_type == BASE then base_command_in f
    else if f.pldm_type == PLATFORM then platform_command_in f
    else None

-- its request, where the instance ID is one
abbrev pub request_in : CommandFields → Option (List ℕ)
request_in f =
    if nat_lt f.instance_id INSTANCE_IDS then option_map (command_message f.instance_id) (command_in f) else None

-- a request's command was read, or its refusal, with the struct as it was before
abbrev pub IsRead : ℕ → Result Command ℕ → CommandReading → CommandFields → CommandFields → Type 0
IsRead id (Ok command) reading old new =
    (reading.reason ≡ 0) × (reading.code ≡ 0) × (new.instance_id ≡ id) × (command_in new ≡ Some command)
IsRead id (Err code) reading old new = (reading.reason ≡ 0) × (reading.code ≡ code) × (new ≡ old)

-- the same of a message, which may be no request
abbrev pub IsCommandRead : Result Request Reason → CommandReading → CommandFields → CommandFields → Type 0
IsCommandRead (Ok q) reading old new = IsRead q.id (command_of q.kind q.rest) reading old new
IsCommandRead (Err reason) reading old new = (reading.reason ≡ number_of reason) × (reading.code ≡ 0) × (new ≡ old)
