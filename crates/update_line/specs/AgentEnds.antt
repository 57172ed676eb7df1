-- What an update agent answers to a command of the device, and what its machine is then.
use Rattle.std.specs.Prelude.{ℕ, ◌^◌, ◌-◌, ◌==◌, nat_le, min, List, [], length, slice_get, Option, Some, None}
use Rattle.pldm_update.specs.AgentCalls.{unless_refused}
use Rattle.pldm_update.specs.Agents.{Agent}
use Rattle.pldm_update.specs.DeviceRequests.{applied, apply_fault, fetch_fault, heard_at, transfer_fault, transferred, verified, verify_fault}
use Rattle.pldm_update.specs.ImagePieces.{piece}
use Rattle.pldm_update.specs.declared.agent_stage.AgentStage.{AgentStage}
use Rattle.pldm_update.specs.declared.agent_stage.AgentStage.TheVariants.{Serving}
use Rattle.pldm_update.specs.declared.answer.UpdateAnswer.{UpdateAnswer}
use Rattle.pldm_update.specs.declared.answer.UpdateAnswer.TheVariants as answers
use Rattle.pldm_update.specs.declared.command.UpdateCommand.{UpdateCommand}
use Rattle.pldm_update.specs.declared.command.UpdateCommand.TheVariants as commands
use Rattle.pldm_wire.specs.declared.assigned.TheConstants.{ERROR_UNSUPPORTED_PLDM_CMD}
use Rattle.update_line.specs.declared.agent_end.TheConstants.{MOST_BYTES}
use Rattle.update_line.specs.declared.offer.Offer.{Offer}

abbrev pub image_of : Option Offer → List ℕ
image_of None = []
image_of (Some offer) = offer.image.now

-- the image of the component that is transferred; none at another stage
abbrev pub image_served : List Offer → AgentStage → List ℕ
image_served offers (Serving number) = image_of (slice_get offers number)
image_served offers stage = []

-- its size, as four bytes can say it
abbrev pub stated_size : List ℕ → ℕ
stated_size image = min (length image) (2 ^ 32 - 1)

abbrev pub answer_unless : Option ℕ → UpdateAnswer → UpdateAnswer
answer_unless None answer = answer
answer_unless (Some code) answer = answers.Refused code

-- a device that asks for a piece of the image that is transferred gets just that piece
abbrev pub command_answer : Agent → List ℕ → UpdateCommand → UpdateAnswer
command_answer a image (commands.RequestFirmwareData offset length) =
    answer_unless (fetch_fault a (stated_size image) MOST_BYTES offset length)
    (answers.RequestFirmwareData (piece image offset length))
command_answer a image (commands.TransferComplete result) = answer_unless (transfer_fault a) answers.TransferComplete
command_answer a image (commands.VerifyComplete result) = answer_unless (verify_fault a) answers.VerifyComplete
command_answer a image (commands.ApplyComplete result methods) = answer_unless (apply_fault a) answers.ApplyComplete
command_answer a image command = answers.Refused ERROR_UNSUPPORTED_PLDM_CMD

-- results of 0, and of what was applied 1 too, say that all is well
abbrev pub command_left : Agent → List ℕ → ℕ → UpdateCommand → Agent
command_left a image now (commands.RequestFirmwareData offset length) =
    unless_refused (fetch_fault a (stated_size image) MOST_BYTES offset length) a (heard_at a now)
command_left a image now (commands.TransferComplete result) =
    unless_refused (transfer_fault a) a (transferred a now (result == 0))
command_left a image now (commands.VerifyComplete result) =
    unless_refused (verify_fault a) a (verified a now (result == 0))
command_left a image now (commands.ApplyComplete result methods) =
    unless_refused (apply_fault a) a (applied a now (nat_le result 1))
command_left a image now command = a
