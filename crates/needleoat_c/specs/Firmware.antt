-- The calls of a firmware device's machine behind a handle: what they report to C, and what is behind the handle then.
use Rattle.std.specs.Prelude.{◌≡◌, ℕ, ◌==◌, nat_le, not, Bool, true, false, List, Option, Some, None, IsSome}
use Rattle.std.specs.Prelude.{option_map, Result, Ok, Err, ◌⊎◌, if◌then◌else◌}
use Rattle.mctp_packet.specs.Refusals.{is_eid}
use Rattle.mctp_packet.specs.declared.TheConstants.{MAX_MOMENT}
use Rattle.pldm_update.specs.Answers.{answer_data, code_of}
use Rattle.pldm_update.specs.CommandReading.{or_code, update_command_of}
use Rattle.pldm_update.specs.Commands.{command_data, number_of}
use Rattle.pldm_update.specs.DeviceAnswers.{Outcome, only}
use Rattle.pldm_update.specs.Machines.{Machine, wish}
use Rattle.pldm_update.specs.Receiving.{answer_to, received}
use Rattle.pldm_update.specs.declared.answer.UpdateAnswer.{UpdateAnswer}
use Rattle.pldm_update.specs.declared.answer.UpdateAnswer.TheVariants.{Refused}
use Rattle.pldm_update.specs.declared.assigned.TheConstants.{FIRMWARE_UPDATE}
use Rattle.pldm_update.specs.declared.command.UpdateCommand.{UpdateCommand}
use Rattle.pldm_update.specs.declared.command.UpdateCommand.TheVariants as commands
use Rattle.pldm_update.specs.declared.component.Component.{Component}
use Rattle.pldm_update.specs.declared.device_stage.DeviceRequest.{DeviceRequest}
use Rattle.pldm_update.specs.declared.device_stage.DeviceRequest.TheVariants as requests
use Rattle.pldm_update.specs.declared.device_stage.Stage.{Stage}
use Rattle.pldm_update.specs.declared.device_stage.Stage.TheVariants as stages
use Rattle.pldm_update.specs.declared.flash.FlashAction.{FlashAction}
use Rattle.pldm_update.specs.declared.flash.FlashAction.TheVariants as actions
use Rattle.pldm_update.specs.declared.flash.FlashStep.{FlashStep}
use Rattle.needleoat_forms.specs.Written.{HasFront}
use Rattle.needleoat_c.specs.declared.firmware.TheConstants.{GENERIC_ERROR}
use Rattle.needleoat_c.specs.declared.firmware_handle.FirmwareForC.{FirmwareForC}
use Rattle.needleoat_c.specs.declared.firmware_reports.ComponentFields.{ComponentFields}
use Rattle.needleoat_c.specs.declared.firmware_reports.FirmwareAnswer.{FirmwareAnswer}
use Rattle.needleoat_c.specs.declared.firmware_reports.FlashReport.{FlashReport}
use Rattle.needleoat_c.specs.declared.firmware_reports.StageReport.{StageReport}
use Rattle.needleoat_c.specs.declared.kinds.TheConstants.{FLASH_NONE, FLASH_BEGIN, FLASH_STORE, FLASH_VERIFY, FLASH_APPLY}
use Rattle.needleoat_c.specs.declared.kinds.TheConstants.{FLASH_ACTIVATE, FLASH_ABANDON, FLASH_ABANDON_UPDATE}
use Rattle.needleoat_c.specs.declared.kinds.TheConstants.{UPDATE_NONE, UPDATE_IDLE, UPDATE_LEARNING, UPDATE_READY}
use Rattle.needleoat_c.specs.declared.kinds.TheConstants.{UPDATE_BEGINNING, UPDATE_FETCHING, UPDATE_STORING, UPDATE_FETCHED}
use Rattle.needleoat_c.specs.declared.kinds.TheConstants.{UPDATE_FAILED, UPDATE_VERIFYING, UPDATE_VERIFIED, UPDATE_NOT_VERIFIED}
use Rattle.needleoat_c.specs.declared.kinds.TheConstants.{UPDATE_APPLYING, UPDATE_APPLIED, UPDATE_NOT_APPLIED, UPDATE_ACTIVATING}
use Rattle.needleoat_c.specs.declared.refusals.TheConstants.{ALREADY_THERE, BAD_MOMENT, NOTHING_THERE, NO_MEMORY}
use Rattle.needleoat_c.specs.declared.refusals.TheConstants.{FIRMWARE_ANSWERS, OUT_OF_RANGE}
use Rattle.needleoat_c.specs.declared.reports.RequestFields.{RequestFields}

-- a handle says truly whether there is something behind it
abbrev pub SaysWhether : Bool → Option Machine → Type 0
SaysWhether true held = IsSome held
SaysWhether false held = held ≡ None

-- what C keeps: a handle of zeros keeps it, and so does each call
abbrev pub IsUpheld : FirmwareForC → Type 0
IsUpheld firmware = SaysWhether firmware.is_live firmware.handle.held

abbrev pub is_moment : ℕ → Bool
is_moment now = nat_le now MAX_MOMENT

-- what a call leaves: at a moment past the last one nothing changes
abbrev pub left_at : ℕ → (Machine → Machine) → Option Machine → Option Machine
left_at now change held = if is_moment now then option_map change held else held

-- why a call at a moment is refused, whatever it is: 0 where it is not
abbrev pub refusal_at : ℕ → Option Machine → ℕ
refusal_at now None = NOTHING_THERE
refusal_at now (Some m) = if is_moment now then 0 else BAD_MOMENT

-- ---- making ----

-- 0, or why none is made: one is there, or no memory was left
abbrev pub ReportsMaking : Bool → ℕ → Type 0
ReportsMaking true result = result ≡ ALREADY_THERE
ReportsMaking false result = (result ≡ 0) ⊎ (result ≡ NO_MEMORY)

-- ---- steps of the flash ----

-- no step, and why the call was refused: 0 where it was not
abbrev pub no_step : ℕ → FlashReport
no_step refusal = record { number = 0; size = 0; offset = 0; refusal = refusal; action = FLASH_NONE }

-- a step with no field of its own
abbrev pub plain_step : ℕ → ℕ → FlashReport
plain_step number action = record { number = number; size = 0; offset = 0; refusal = 0; action = action }

abbrev pub step_of : ℕ → FlashAction → FlashReport
step_of number (actions.Begin size) = record (plain_step number FLASH_BEGIN) { size = size }
step_of number (actions.Store offset) = record (plain_step number FLASH_STORE) { offset = offset }
step_of number actions.Verify = plain_step number FLASH_VERIFY
step_of number actions.Apply = plain_step number FLASH_APPLY
step_of number actions.Activate = plain_step number FLASH_ACTIVATE
step_of number actions.Abandon = plain_step number FLASH_ABANDON
step_of number actions.AbandonUpdate = plain_step number FLASH_ABANDON_UPDATE

abbrev pub step_in : ℕ → Option FlashAction → FlashReport
step_in number None = no_step 0
step_in number (Some action) = step_of number action

abbrev pub report_of : Option FlashStep → FlashReport
report_of None = no_step 0
report_of (Some step) = step_of step.number step.action

-- the step that a call hands out, where it hands out one: its number is the machine's last one
abbrev pub step_from : Outcome → FlashReport
step_from outcome = step_in outcome.machine.latest outcome.action

abbrev pub told : (Machine → Outcome) → Option Machine → FlashReport
told call None = no_step NOTHING_THERE
told call (Some m) = step_from (call m)

-- of a call at a moment
abbrev pub told_at : ℕ → (Machine → Outcome) → Option Machine → FlashReport
told_at now call None = no_step NOTHING_THERE
told_at now call (Some m) = if is_moment now then step_from (call m) else no_step BAD_MOMENT

-- ---- commands ----

-- the most bytes of an image: 0 says that the device has no such component
abbrev pub room_in : ℕ → Option ℕ
room_in room = if room == 0 then None else Some room

-- the command that a number and data are, or the completion code by which it is refused
abbrev pub command_in : ℕ → List ℕ → Result UpdateCommand ℕ
command_in number bytes = or_code (update_command_of number bytes)

-- the component that a command names: PassComponentTable and UpdateComponent name one
abbrev pub component_in : Result UpdateCommand ℕ → Option Component
component_in (Ok (commands.PassComponentTable part component stamp version)) = Some component
component_in (Ok (commands.UpdateComponent component stamp size options version)) = Some component
component_in named = None

-- where a command names none, the fields are as before
abbrev pub HasComponent : Option Component → Bool → ComponentFields → ComponentFields → Type 0
HasComponent None found old new = (found ≡ false) × (new ≡ old)
HasComponent (Some c) found old new =
    (found ≡ true)
    × (new ≡ record { classification = c.classification; identifier = c.identifier; index = c.index })

module _ (source now room : ℕ) where
  -- its answer: none where the firmware answers it
  abbrev pub answer_read : Result UpdateCommand ℕ → Machine → Option UpdateAnswer
  answer_read (Ok command) m = answer_to m source (room_in room) command
  answer_read (Err code) m = Some (Refused code)

  -- what it leaves, and the step of the flash that it brings
  abbrev pub outcome_read : Result UpdateCommand ℕ → Machine → Outcome
  outcome_read (Ok command) m = received m source now (room_in room) command
  outcome_read (Err code) m = only m

-- a source is an endpoint ID, and a moment is not past the last one
abbrev pub coming_refusal : ℕ → ℕ → ℕ
coming_refusal source now = if not (is_eid source) then OUT_OF_RANGE else if is_moment now then 0 else BAD_MOMENT

abbrev pub answer_step : Option UpdateAnswer → Outcome → FlashReport
answer_step None outcome = no_step FIRMWARE_ANSWERS
answer_step (Some answer) outcome = step_from outcome

-- the completion code, and the data in front of its room
pub record AnswerFields (answer : UpdateAnswer) (old new : FirmwareAnswer) : Type 0 where
  pub code : new.code ≡ code_of answer
  pub front : HasFront (answer_data answer) new.length old.«data» new.«data»

-- where there is no answer, the fields are as before
abbrev pub HasAnswer : Option UpdateAnswer → FirmwareAnswer → FirmwareAnswer → Type 0
HasAnswer None old new = new ≡ old
HasAnswer (Some answer) old new = AnswerFields answer old new

module _ (source now room number : ℕ) (bytes : List ℕ) where
  -- what is reported of a command that comes
  abbrev pub coming_step : Option Machine → FlashReport
  coming_step None = no_step NOTHING_THERE
  coming_step (Some m) =
      if coming_refusal source now == 0
      then answer_step (answer_read source now room (command_in number bytes) m)
      (outcome_read source now room (command_in number bytes) m)
      else no_step (coming_refusal source now)

  -- its answer: none where the call is refused
  abbrev pub coming_answer : Option Machine → Option UpdateAnswer
  coming_answer None = None
  coming_answer (Some m) =
      if coming_refusal source now == 0 then answer_read source now room (command_in number bytes) m else None

  abbrev pub left_by_coming : Machine → Machine
  left_by_coming m =
      if coming_refusal source now == 0 then (outcome_read source now room (command_in number bytes) m).machine else m

-- ---- what the device asks ----

-- 0 for a success, else a fault of which no more is told (DSP0267, "TransferComplete command")
abbrev pub result_of : Bool → ℕ
result_of well = if well then 0 else GENERIC_ERROR

-- the command of a request; the image is activated as the device has said before
abbrev pub command_of : DeviceRequest → UpdateCommand
command_of (requests.Piece offset bytes) = commands.RequestFirmwareData offset bytes
command_of (requests.TransferComplete well) = commands.TransferComplete (result_of well)
command_of (requests.VerifyComplete well) = commands.VerifyComplete (result_of well)
command_of (requests.ApplyComplete well) = commands.ApplyComplete (result_of well) 0

-- the request as bytes, its data in front of the room
pub record AsksCommand (command : UpdateCommand) (old new : RequestFields) : Type 0 where
  pub pldm_type : new.pldm_type ≡ FIRMWARE_UPDATE
  pub command_is : new.command ≡ number_of command
  pub front : HasFront (command_data command) new.length old.«data» new.«data»

-- where nothing is asked, the fields are as before
abbrev pub ReportsRequest : Option DeviceRequest → Bool → RequestFields → RequestFields → Type 0
ReportsRequest None found old new = (found ≡ false) × (new ≡ old)
ReportsRequest (Some request) found old new = (found ≡ true) × AsksCommand (command_of request) old new

abbrev pub wish_of : ℕ → Option Machine → Option DeviceRequest
wish_of now None = None
wish_of now (Some m) = if is_moment now then wish m now else None

-- ---- where it is in the update ----

abbrev pub stage_number : Stage → ℕ
stage_number stages.Idle = UPDATE_IDLE
stage_number stages.Learning = UPDATE_LEARNING
stage_number stages.Ready = UPDATE_READY
stage_number stages.Beginning = UPDATE_BEGINNING
stage_number stages.Fetching = UPDATE_FETCHING
stage_number (stages.Storing bytes) = UPDATE_STORING
stage_number stages.Fetched = UPDATE_FETCHED
stage_number stages.Failed = UPDATE_FAILED
stage_number stages.Verifying = UPDATE_VERIFYING
stage_number (stages.Verified true) = UPDATE_VERIFIED
stage_number (stages.Verified false) = UPDATE_NOT_VERIFIED
stage_number stages.Applying = UPDATE_APPLYING
stage_number (stages.Applied true) = UPDATE_APPLIED
stage_number (stages.Applied false) = UPDATE_NOT_APPLIED
stage_number stages.Activating = UPDATE_ACTIVATING

abbrev pub stage_report : Option Machine → StageReport
stage_report None = record { stage = UPDATE_NONE; stored = 0 }
stage_report (Some m) = record { stage = stage_number m.stage; stored = m.stored }
