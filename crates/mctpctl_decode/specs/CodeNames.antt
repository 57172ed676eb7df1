-- The names of completion codes, as DSP0240 and DSP0248 spell them; other codes have none.
use Rattle.std.specs.Prelude.{ℕ, ◌==◌, nat_lt, List, codes, Option, Some, None, if◌then◌else◌}
use Rattle.pldm_wire.specs.Kinds.{TypeAndCommand}
use Rattle.pldm_wire.specs.declared.assigned.TheConstants.{BASE, PLATFORM, GET_PLDM_VERSION, GET_PLDM_COMMANDS}
use Rattle.pldm_wire.specs.declared.assigned.TheConstants.{GET_SENSOR_READING, GET_STATE_SENSOR_READINGS}
use Rattle.pldm_wire.specs.declared.assigned.TheConstants.{SET_NUMERIC_EFFECTER_VALUE, GET_NUMERIC_EFFECTER_VALUE}
use Rattle.pldm_wire.specs.declared.assigned.TheConstants.{SET_STATE_EFFECTER_STATES, GET_STATE_EFFECTER_STATES, GET_PDR}
use Rattle.mctpctl_decode.specs.SharedCodes.{shared_code_name}

-- the generic codes (DSP0240, "Generic PLDM completion codes")
abbrev pub general_code_name : ℕ → Option (List ℕ)
general_code_name code =
    if code == 5 then Some (codes "ERROR_UNSUPPORTED_PLDM_CMD")
    else if code == 32 then Some (codes "ERROR_INVALID_PLDM_TYPE")
    else shared_code_name code

-- the codes of a command's own begin at 128

abbrev pub version_code_name : ℕ → Option (List ℕ)
version_code_name code =
    if code == 128 then Some (codes "INVALID_DATA_TRANSFER_HANDLE")
    else if code == 129 then Some (codes "INVALID_TRANSFER_OPERATION_FLAG")
    else if code == 131 then Some (codes "INVALID_PLDM_TYPE_IN_REQUEST_DATA")
    else None

abbrev pub commands_code_name : ℕ → Option (List ℕ)
commands_code_name code =
    if code == 131 then Some (codes "INVALID_PLDM_TYPE_IN_REQUEST_DATA")
    else if code == 132 then Some (codes "INVALID_PLDM_VERSION_IN_REQUEST_DATA")
    else None

abbrev pub sensor_code_name : ℕ → Option (List ℕ)
sensor_code_name code =
    if code == 128 then Some (codes "INVALID_SENSOR_ID")
    else if code == 129 then Some (codes "REARM_UNAVAILABLE_IN_PRESENT_STATE")
    else None

abbrev pub state_code_name : ℕ → Option (List ℕ)
state_code_name code = if code == 128 then Some (codes "INVALID_SENSOR_ID") else None

abbrev pub effecter_code_name : ℕ → Option (List ℕ)
effecter_code_name code = if code == 128 then Some (codes "INVALID_EFFECTER_ID") else None

abbrev pub states_code_name : ℕ → Option (List ℕ)
states_code_name code =
    if code == 128 then Some (codes "INVALID_EFFECTER_ID")
    else if code == 129 then Some (codes "INVALID_STATE_VALUE")
    else if code == 130 then Some (codes "UNSUPPORTED_EFFECTERSTATE")
    else None

abbrev pub record_code_name : ℕ → Option (List ℕ)
record_code_name code =
    if code == 128 then Some (codes "INVALID_DATA_TRANSFER_HANDLE")
    else if code == 129 then Some (codes "INVALID_TRANSFER_OPERATION_FLAG")
    else if code == 130 then Some (codes "INVALID_RECORD_HANDLE")
    else if code == 131 then Some (codes "INVALID_RECORD_CHANGE_NUMBER")
    else if code == 132 then Some (codes "TRANSFER_TIMEOUT")
    else if code == 133 then Some (codes "REPOSITORY_UPDATE_IN_PROGRESS")
    else None

abbrev pub base_code_name : ℕ → ℕ → Option (List ℕ)
base_code_name command code =
    if command == GET_PLDM_VERSION then version_code_name code
    else if command == GET_PLDM_COMMANDS then commands_code_name code
    else None

abbrev pub platform_code_name : ℕ → ℕ → Option (List ℕ)
platform_code_name command code =
    if command == GET_SENSOR_READING then sensor_code_name code
    else if command == GET_STATE_SENSOR_READINGS then state_code_name code
    else if command == SET_NUMERIC_EFFECTER_VALUE then effecter_code_name code
    else if command == GET_NUMERIC_EFFECTER_VALUE then effecter_code_name code
    else if command == SET_STATE_EFFECTER_STATES then states_code_name code
    else if command == GET_STATE_EFFECTER_STATES then effecter_code_name code
    else if command == GET_PDR then record_code_name code
    else None

abbrev pub own_code_name : TypeAndCommand → ℕ → Option (List ℕ)
own_code_name kind code =
    if kind.pldm_type == BASE then base_code_name kind.command code
    else if kind.pldm_type == PLATFORM then platform_code_name kind.command code
    else None

-- the name of a completion code of a command
unfoldable pub code_name : TypeAndCommand → ℕ → Option (List ℕ)
code_name kind code = if nat_lt code 128 then general_code_name code else own_code_name kind code
