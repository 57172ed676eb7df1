-- A command of the update agent: what it leaves, and its answer (DSP0267).
use Rattle.std.specs.Prelude.{ℕ, Option, Some, None}
use Rattle.pldm_wire.specs.declared.assigned.TheConstants.{ERROR_UNSUPPORTED_PLDM_CMD}
use Rattle.pldm_update.specs.TableParts.{part_number}
use Rattle.pldm_update.specs.declared.answer.UpdateAnswer.{UpdateAnswer}
use Rattle.pldm_update.specs.declared.answer.UpdateAnswer.TheVariants as answers
use Rattle.pldm_update.specs.declared.command.UpdateCommand.{UpdateCommand}
use Rattle.pldm_update.specs.declared.command.UpdateCommand.TheVariants as commands
use Rattle.pldm_update.specs.declared.receiving.TheConstants.{NO_PROGRESS}
use Rattle.pldm_update.specs.DeviceStages.{auxiliary_state, auxiliary_status, state_of_stage}
use Rattle.pldm_update.specs.Machines.{Machine}
use Rattle.pldm_update.specs.DeviceCommands.{activation_fault, cancel_component_fault, cancel_update_fault, pass_fault, transfer_fault, update_fault}
use Rattle.pldm_update.specs.DeviceAnswers.{Outcome, only}
use Rattle.pldm_update.specs.DeviceCalls.{RequestUpdate, PassComponent, UpdateComponent, ActivateFirmware, CancelComponent, CancelUpdate, happens}

-- a command is a call of the device; those that the firmware answers, and those that a device sends, change nothing
module _ (m : Machine) (source now : ℕ) (room : Option ℕ) where
  abbrev pub received : UpdateCommand → Outcome
  received (commands.RequestUpdate most total outstanding package_data version) =
      happens m (RequestUpdate source now most total)
  received (commands.PassComponentTable part component stamp version) =
      happens m (PassComponent source now (part_number part))
  received (commands.UpdateComponent component stamp size options version) =
      happens m (UpdateComponent source now size room)
  received (commands.ActivateFirmware self_contained) = happens m (ActivateFirmware source now)
  received commands.CancelUpdateComponent = happens m (CancelComponent source now)
  received commands.CancelUpdate = happens m (CancelUpdate source)
  received command = only m

-- a refusal, or else the answer
abbrev pub answer_or : Option ℕ → UpdateAnswer → Option UpdateAnswer
answer_or None answer = Some answer
answer_or (Some code) answer = Some (answers.Refused code)

abbrev pub status : Machine → UpdateAnswer
status m =
    answers.GetStatus (state_of_stage m.stage) m.previous (auxiliary_state m.stage) (auxiliary_status m.stage) NO_PROGRESS
    0 0

module _ (m : Machine) (source : ℕ) (room : Option ℕ) where
  abbrev pub answer_to : UpdateCommand → Option UpdateAnswer
  answer_to commands.QueryDeviceIdentifiers = None
  answer_to commands.GetFirmwareParameters = None
  answer_to (commands.RequestUpdate most total outstanding package_data version) =
      answer_or (update_fault m most total) (answers.RequestUpdate 0 0)
  answer_to (commands.PassComponentTable part component stamp version) =
      answer_or (pass_fault m source (part_number part)) (answers.PassComponentTable 0 0)
  answer_to (commands.UpdateComponent component stamp size options version) =
      answer_or (transfer_fault m source room size) (answers.UpdateComponent 0 0 0 0)
  answer_to (commands.ActivateFirmware self_contained) =
      answer_or (activation_fault m source) (answers.ActivateFirmware 0)
  answer_to commands.GetStatus = Some (status m)
  answer_to commands.CancelUpdateComponent =
      answer_or (cancel_component_fault m source) answers.CancelUpdateComponent
  answer_to commands.CancelUpdate = answer_or (cancel_update_fault m source) (answers.CancelUpdate 0 0)
  answer_to command = Some (answers.Refused ERROR_UNSUPPORTED_PLDM_CMD)
