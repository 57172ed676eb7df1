-- The fields of a command by name, as DSP0240 and DSP0248 name them.
use Rattle.std.specs.Prelude.{ℕ, ◌==◌, if◌then◌else◌, List, [], ◌++◌, codes}
use Rattle.std.specs.List.{flat_map}
use Rattle.mctpctl_decode.specs.FieldTexts.{field, hex_field, named, signed_field, word}
use Rattle.mctpctl_decode.specs.StateNames.{operation_name}
use Rattle.pldm_wire.specs.SizeNames.{size_name}
use Rattle.pldm_wire.specs.declared.command.Command.{Command}
use Rattle.pldm_wire.specs.declared.command.Command.TheVariants.{SetTid, GetTid, GetPldmVersion, GetPldmTypes}
use Rattle.pldm_wire.specs.declared.command.Command.TheVariants.{GetPldmCommands, GetSensorReading}
use Rattle.pldm_wire.specs.declared.command.Command.TheVariants.{GetStateSensorReadings, SetNumericEffecterValue}
use Rattle.pldm_wire.specs.declared.command.Command.TheVariants.{GetNumericEffecterValue, SetStateEffecterStates}
use Rattle.pldm_wire.specs.declared.command.Command.TheVariants.{GetStateEffecterStates, GetPdrRepositoryInfo, GetPdr}
use Rattle.pldm_wire.specs.declared.state_fields.SetStateField.{SetStateField}

-- which part is asked for
abbrev pub part_text : ℕ → List ℕ
part_text flag = named (operation_name flag) flag

abbrev pub version_text : ℕ → ℕ → ℕ → List ℕ
version_text handle flag pldm_type =
    field (codes "transfer") handle ++ part_text flag ++ field (codes "type") pldm_type

-- what is asked of one field of a state effecter (DSP0248, "SetStateEffecterStates command", setRequest)
abbrev pub set_text : SetStateField → List ℕ
set_text set =
    if set.set_request == 0 then word (codes "noChange")
    else if set.set_request == 1 then field (codes "requestSet") set.state
    else field (codes "setRequest") set.set_request ++ field (codes "state") set.state

-- the fields of a command, a space before each
abbrev pub command_text : Command → List ℕ
command_text (SetTid tid) = field (codes "tid") tid
command_text GetTid = []
command_text (GetPldmVersion handle flag pldm_type) = version_text handle flag pldm_type
command_text GetPldmTypes = []
command_text (GetPldmCommands pldm_type version) =
    field (codes "type") pldm_type ++ hex_field (codes "version") version
command_text (GetSensorReading sensor rearm) = field (codes "sensor") sensor ++ field (codes "rearm") rearm
command_text (GetStateSensorReadings sensor rearm) = field (codes "sensor") sensor ++ field (codes "rearm") rearm
command_text (SetNumericEffecterValue effecter value) =
    field (codes "effecter") effecter ++ signed_field (size_name value.size) value.value
command_text (GetNumericEffecterValue effecter) = field (codes "effecter") effecter
command_text (SetStateEffecterStates effecter fields) = field (codes "effecter") effecter ++ flat_map set_text fields
command_text (GetStateEffecterStates effecter) = field (codes "effecter") effecter
command_text GetPdrRepositoryInfo = []
command_text (GetPdr record_handle transfer_handle flag count change) =
    field (codes "record") record_handle ++ field (codes "transfer") transfer_handle ++ part_text flag
    ++ field (codes "count") count ++ field (codes "change") change
