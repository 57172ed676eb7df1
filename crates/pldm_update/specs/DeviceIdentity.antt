-- What a firmware device says of itself, in every state (DSP0267, "QueryDeviceIdentifiers command",
-- "GetFirmwareParameters command").
use Rattle.std.specs.Prelude.{List, Option, Some, None}
use Rattle.pldm_update.specs.Packages.{Descriptor}
use Rattle.pldm_update.specs.Parameters.{FirmwareParameters}
use Rattle.pldm_update.specs.declared.answer.UpdateAnswer.{UpdateAnswer}
use Rattle.pldm_update.specs.declared.answer.UpdateAnswer.TheVariants as answers
use Rattle.pldm_update.specs.declared.command.UpdateCommand.{UpdateCommand}
use Rattle.pldm_update.specs.declared.command.UpdateCommand.TheVariants as commands

-- the answer to the two commands that ask for it
abbrev pub identity_answer : List Descriptor → FirmwareParameters → UpdateCommand → Option UpdateAnswer
identity_answer identifiers parameters commands.QueryDeviceIdentifiers =
    Some (answers.QueryDeviceIdentifiers identifiers)
identity_answer identifiers parameters commands.GetFirmwareParameters =
    Some (answers.GetFirmwareParameters parameters)
identity_answer identifiers parameters command = None
