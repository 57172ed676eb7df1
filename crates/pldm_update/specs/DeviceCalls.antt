-- Every list of calls of a firmware device, the newest first: what they leave, and what the flash was told.
use Rattle.std.specs.Prelude.{ℕ, Bool, true, false, ◌&&◌, ◌==◌, List, [], ◌∷◌, length, Option, Some, None, if◌then◌else◌}
use Rattle.pldm_update.specs.declared.flash.FlashAction.{FlashAction}
use Rattle.pldm_update.specs.declared.flash.FlashAction.TheVariants as actions
use Rattle.pldm_update.specs.declared.device_stage.DeviceRequest.{DeviceRequest}
use Rattle.pldm_update.specs.declared.device_stage.Stage.{Stage}
use Rattle.pldm_update.specs.declared.device_stage.Stage.TheVariants.{Beginning, Storing, Verifying, Applying, Activating}
use Rattle.pldm_update.specs.Machines.{Machine, first_machine, wish}
use Rattle.pldm_update.specs.DeviceCommands.{activating, activation_fault, begun, cancel_component_fault, cancel_update_fault, component_cancelled, pass_fault, passed, transfer_fault, transferring, update_cancelled, update_fault}
use Rattle.pldm_update.specs.DeviceAnswers.{Outcome, answered, done, given_up, only, opened, ticked}
use Rattle.pldm_update.specs.Deeds.{Deed, Reports, Restarts, deed_of}

pub data Call : Type 0 where
  RequestUpdate : (source now most total : ℕ) → Call
  PassComponent : (source now part : ℕ) → Call
  UpdateComponent : (source now size : ℕ) → (room : Option ℕ) → Call
  ActivateFirmware : (source now : ℕ) → Call
  CancelComponent : (source now : ℕ) → Call
  CancelUpdate : (source : ℕ) → Call
  Opened : (number now : ℕ) → Call
  Answered : (number now code : ℕ) → (bytes : List ℕ) → Call
  GaveUp : (number : ℕ) → Call
  Done : (number : ℕ) → (well : Bool) → Call
  Tick : (now : ℕ) → Call
  -- the device begins anew, with steps after this number
  Restart : (latest : ℕ) → Call

-- a command that is refused changes nothing
abbrev pub unless_refused : Option ℕ → Machine → Outcome → Outcome
unless_refused None m outcome = outcome
unless_refused (Some code) m outcome = only m

abbrev pub with_action : Machine → FlashAction → Outcome
with_action m action = record { machine = m; action = Some action }

abbrev pub happens : Machine → Call → Outcome
happens m (RequestUpdate source now most total) =
    unless_refused (update_fault m most total) m (only (begun m source now most total))
happens m (PassComponent source now part) = unless_refused (pass_fault m source part) m (only (passed m now))
happens m (UpdateComponent source now size room) =
    unless_refused (transfer_fault m source room size) m (with_action (transferring m now size) (actions.Begin size))
happens m (ActivateFirmware source now) =
    unless_refused (activation_fault m source) m (with_action (activating m now) actions.Activate)
happens m (CancelComponent source now) =
    unless_refused (cancel_component_fault m source) m (with_action (component_cancelled m now) actions.Abandon)
happens m (CancelUpdate source) =
    unless_refused (cancel_update_fault m source) m (with_action (update_cancelled m) actions.AbandonUpdate)
happens m (Opened number now) = only (opened m number now)
happens m (Answered number now code bytes) = answered m number now code (length bytes)
happens m (GaveUp number) = given_up m number
happens m (Done number well) = only (done m number well)
happens m (Tick now) = ticked m now
happens m (Restart latest) = only (first_machine latest)

-- a new device, whose steps come after this number
module _ (latest : ℕ) where
  abbrev pub machine : List Call → Machine
  machine [] = first_machine latest
  machine (call ∷ past) = (happens (machine past) call).machine

-- the flash has something to do
abbrev pub is_at_work : Stage → Bool
is_at_work Beginning = true
is_at_work (Storing bytes) = true
is_at_work Verifying = true
is_at_work Applying = true
is_at_work Activating = true
is_at_work _ = false

abbrev pub with_deed : Option FlashAction → List ℕ → List Deed → List Deed
with_deed None bytes past = past
with_deed (Some action) bytes past = deed_of action bytes ∷ past

-- what a call adds: the step that it hands out, a report of the last step, or that the device began anew
abbrev pub added : Machine → Call → List Deed → List Deed
added m (Answered number now code bytes) past = with_deed (happens m (Answered number now code bytes)).action bytes past
added m (Done number well) past = if (number == m.latest) && is_at_work m.stage then Reports well ∷ past else past
added m (Restart latest) past = Restarts ∷ past
added m call past = with_deed (happens m call).action [] past

-- a request of the device: its number, and what it asks
pub record Question : Type 0 where
  pub number : ℕ
  pub request : DeviceRequest

-- the last one
abbrev pub or_last : Option DeviceRequest → ℕ → Option Question → Option Question
or_last None number last = last
or_last (Some request) number last = Some (record { number = number; request = request })

module _ (latest : ℕ) where
  -- all that the flash was told and reported
  abbrev pub deeds : List Call → List Deed
  deeds [] = []
  deeds (call ∷ past) = added (machine latest past) call (deeds past)

  -- the request that was opened last
  abbrev pub last_asked : List Call → Option Question
  last_asked [] = None
  last_asked (Opened number now ∷ past) = or_last (wish (machine latest past) now) number (last_asked past)
  last_asked (call ∷ past) = last_asked past
