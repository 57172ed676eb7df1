-- What a device that takes updates says of PLDM type 5 (DSP0240), beside what its platform says.
use Rattle.std.specs.Prelude.{ℕ, ◌==◌, ◌&&◌, List, ◌∷◌, replicate, if◌then◌else◌}
use Rattle.pldm_wire.specs.declared.command.Command.{Command}
use Rattle.pldm_wire.specs.declared.command.Command.TheVariants as commands
use Rattle.pldm_wire.specs.declared.answer.Answer.{Answer}
use Rattle.pldm_wire.specs.declared.answer.Answer.TheVariants as answers
use Rattle.pldm_wire.specs.declared.limits.TheConstants.{GET_FIRST_PART}
use Rattle.pldm_update.specs.declared.assigned.TheConstants.{FIRMWARE_UPDATE}
use Rattle.update_line.specs.declared.type_answers.TheConstants.{TYPES, VERSION}

-- QueryDeviceIdentifiers and GetFirmwareParameters; RequestUpdate, PassComponentTable and UpdateComponent;
-- ActivateFirmware, GetStatus, CancelUpdateComponent and CancelUpdate: command c is bit c mod 8 of byte c / 8
unfoldable pub update_commands : List ℕ
update_commands = 0x06 ∷ 0 ∷ 0x19 ∷ 0x3C ∷ replicate 28 0

abbrev pub with_updates : Command → Answer → Answer
with_updates commands.GetPldmTypes answer = answers.GetPldmTypes TYPES
with_updates (commands.GetPldmVersion handle flag pldm_type) answer =
    if (pldm_type == FIRMWARE_UPDATE) && (flag == GET_FIRST_PART) then answers.GetPldmVersion 0 VERSION else answer
with_updates (commands.GetPldmCommands pldm_type version) answer =
    if pldm_type == FIRMWARE_UPDATE then answers.GetPldmCommands update_commands else answer
with_updates _ answer = answer
