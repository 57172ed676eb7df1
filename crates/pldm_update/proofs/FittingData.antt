-- The data that a command or an answer is written with fits a message.
use Rattle.std.proofs.Common.{◌≤◌, [], length, arith, length-append}
use Rattle.pldm_update.specs.Commands.{command_data, IsUpdateCommand}
use Rattle.pldm_update.specs.Answers.{answer_data, IsUpdateAnswer}
use Rattle.pldm_update.specs.declared.limits.TheConstants.{MAX_UPDATE_DATA}
use Rattle.pldm_update.specs.declared.command.UpdateCommand.{UpdateCommand}
use Rattle.pldm_update.specs.declared.command.UpdateCommand.TheVariants.{QueryDeviceIdentifiers, GetFirmwareParameters, RequestUpdate, PassComponentTable, UpdateComponent, RequestFirmwareData, TransferComplete, VerifyComplete, ApplyComplete, ActivateFirmware, GetStatus, CancelUpdateComponent, CancelUpdate}
use Rattle.pldm_update.specs.declared.answer.UpdateAnswer.{UpdateAnswer}
use Rattle.pldm_update.specs.declared.answer.UpdateAnswer.TheVariants as answered

pub command_fits : (c : UpdateCommand) → IsUpdateCommand c → length (command_data c) ≤ MAX_UPDATE_DATA
command_fits QueryDeviceIdentifiers h = omega arith
command_fits GetFirmwareParameters h = omega arith
command_fits (RequestUpdate _ _ _ _ version) h = omega (arith, length-append version.text [], h.1.1.1.1.0)
command_fits (PassComponentTable _ _ _ version) h = omega (arith, length-append version.text [], h.1.1.1.1.1.0)
command_fits (UpdateComponent _ _ _ _ version) h = omega (arith, length-append version.text [], h.1.1.1.1.1.1.0)
command_fits (RequestFirmwareData _ _) h = omega arith
command_fits (TransferComplete _) h = omega arith
command_fits (VerifyComplete _) h = omega arith
command_fits (ApplyComplete _ _) h = omega arith
command_fits (ActivateFirmware _) h = omega arith
command_fits GetStatus h = omega arith
command_fits CancelUpdateComponent h = omega arith
command_fits CancelUpdate h = omega arith

pub answer_fits : (a : UpdateAnswer) → IsUpdateAnswer a → length (answer_data a) ≤ MAX_UPDATE_DATA
answer_fits (answered.Refused _) h = omega arith
answer_fits (answered.QueryDeviceIdentifiers _) h = h.2
answer_fits (answered.GetFirmwareParameters _) h = h.1
answer_fits (answered.RequestUpdate _ _) h = omega arith
answer_fits (answered.PassComponentTable _ _) h = omega arith
answer_fits (answered.UpdateComponent _ _ _ _) h = omega arith
answer_fits (answered.RequestFirmwareData _) h = h
answer_fits answered.TransferComplete h = omega arith
answer_fits answered.VerifyComplete h = omega arith
answer_fits answered.ApplyComplete h = omega arith
answer_fits (answered.ActivateFirmware _) h = omega arith
answer_fits (answered.GetStatus _ _ _ _ _ _ _) h = omega arith
answer_fits answered.CancelUpdateComponent h = omega arith
answer_fits (answered.CancelUpdate _ _) h = omega arith
