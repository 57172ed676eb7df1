-- The commands of PLDM messaging control and discovery (DSP0240).
use Rattle.std.specs.Prelude.{ℕ, ◌+◌, ◌/◌, ◌%◌, ◌^◌, ◌==◌, ◌||◌, nat_lt, zero, suc, sum, map}
use Rattle.std.specs.Prelude.{List, [], ◌∷◌, Option, Some, None, Result, Ok, Err, if◌then◌else◌}
use Rattle.pldm_wire.specs.declared.assigned.TheConstants.{BASE, PLATFORM, SET_TID, GET_TID, GET_PLDM_VERSION, GET_PLDM_TYPES, GET_PLDM_COMMANDS, GET_SENSOR_READING, GET_STATE_SENSOR_READINGS, SET_NUMERIC_EFFECTER_VALUE, GET_NUMERIC_EFFECTER_VALUE, SET_STATE_EFFECTER_STATES, GET_STATE_EFFECTER_STATES, GET_PDR_REPOSITORY_INFO, GET_PDR, ERROR_INVALID_DATA}
use Rattle.pldm_wire.specs.declared.limits.TheConstants.{TYPES_BYTES, COMMANDS_BYTES, GET_NEXT_PART, GET_FIRST_PART}
use Rattle.pldm_wire.specs.declared.answer.Answer.{Answer}
use Rattle.pldm_wire.specs.declared.answer.Answer.TheVariants.{Refused, GetPldmVersion, GetPldmCommands}
use Rattle.simulated_device.specs.Devices.{Device}
use Rattle.simulated_device.specs.declared.limits.TheConstants.{UNASSIGNED_TID, RESERVED_TID}
use Rattle.pldm_platform.specs.declared.refusals.TheConstants.{INVALID_DATA_TRANSFER_HANDLE}
use Rattle.pldm_platform.specs.declared.refusals.TheConstants.{INVALID_TRANSFER_OPERATION, INVALID_PLDM_TYPE}

-- the device with the terminus ID, or the refusal of an ID that no terminus has
abbrev pub tid_set : ℕ → Device → Result Device ℕ
tid_set tid device =
    if (tid == UNASSIGNED_TID) || (tid == RESERVED_TID) then Err ERROR_INVALID_DATA
    else Ok (record device { tid = tid })

-- the versions of a PLDM type, if the device has it
abbrev pub versions_of : ℕ → Device → Option (List ℕ)
versions_of pldm_type device =
    if pldm_type == BASE then Some device.base_versions
    else if pldm_type == PLATFORM then Some device.platform_versions
    else None

abbrev pub versions_answered : Option (List ℕ) → Answer
versions_answered None = Refused INVALID_PLDM_TYPE
versions_answered (Some versions) = GetPldmVersion 0 versions

-- all versions stand in the first part
abbrev pub version_answer : ℕ → ℕ → Device → Answer
version_answer transfer_operation_flag pldm_type device =
    if nat_lt GET_FIRST_PART transfer_operation_flag then Refused INVALID_TRANSFER_OPERATION
    else if transfer_operation_flag == GET_NEXT_PART then Refused INVALID_DATA_TRANSFER_HANDLE
    else versions_answered (versions_of pldm_type device)

-- the byte at a place of a list of bits: number n is bit n mod 8 of byte n / 8
abbrev pub byte_of_bits : List ℕ → ℕ → ℕ
byte_of_bits numbers place = sum (map (λ n. if n / 8 == place then 2 ^ (n % 8) else 0) numbers)

-- so many bytes of bits, the first of them at a place
abbrev pub bytes_of_bits : List ℕ → ℕ → ℕ → List ℕ
bytes_of_bits numbers place zero = []
bytes_of_bits numbers place (suc count) = byte_of_bits numbers place ∷ bytes_of_bits numbers (place + 1) count

unfoldable pub types : List ℕ
types = bytes_of_bits (BASE ∷ PLATFORM ∷ []) 0 TYPES_BYTES

unfoldable pub base_commands : List ℕ
base_commands =
    bytes_of_bits (SET_TID ∷ GET_TID ∷ GET_PLDM_VERSION ∷ GET_PLDM_TYPES ∷ GET_PLDM_COMMANDS ∷ []) 0 COMMANDS_BYTES

unfoldable pub platform_commands : List ℕ
platform_commands =
    bytes_of_bits (GET_SENSOR_READING ∷ GET_STATE_SENSOR_READINGS ∷ SET_NUMERIC_EFFECTER_VALUE
    ∷ GET_NUMERIC_EFFECTER_VALUE ∷ SET_STATE_EFFECTER_STATES ∷ GET_STATE_EFFECTER_STATES
    ∷ GET_PDR_REPOSITORY_INFO ∷ GET_PDR ∷ []) 0 COMMANDS_BYTES

-- the commands of a PLDM type, whatever its version
abbrev pub commands_answer : ℕ → Answer
commands_answer pldm_type =
    if pldm_type == BASE then GetPldmCommands base_commands
    else if pldm_type == PLATFORM then GetPldmCommands platform_commands
    else Refused INVALID_PLDM_TYPE
