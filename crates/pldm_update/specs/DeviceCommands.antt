-- The commands of the update agent: why each is refused, and what it leaves (DSP0267).
use Rattle.std.specs.Prelude.{ℕ, ◌-◌, false, not, ◌||◌, ◌==◌, nat_lt, Option, Some, None, if◌then◌else◌}
use Rattle.pldm_wire.specs.declared.assigned.TheConstants.{ERROR_INVALID_DATA}
use Rattle.pldm_update.specs.declared.assigned.TheConstants.{ALREADY_IN_UPDATE_MODE, INVALID_TRANSFER_LENGTH}
use Rattle.pldm_update.specs.declared.assigned.TheConstants.{DATA_OUT_OF_RANGE, INCOMPLETE_UPDATE, MIN_TRANSFER_BYTES}
use Rattle.pldm_update.specs.declared.device_stage.Stage.{Stage}
use Rattle.pldm_update.specs.declared.device_stage.Stage.TheVariants.{Idle, Learning, Ready, Beginning, Activating}
use Rattle.pldm_update.specs.DeviceStages.{is_activating, is_idle, is_in_transfer, is_learning, is_ready, state_of_stage}
use Rattle.pldm_update.specs.Machines.{Machine, refusal, with_step}

-- a refusal of any command comes before those of its own
abbrev pub first_fault : Option ℕ → Option ℕ → Option ℕ
first_fault None own = own
first_fault (Some code) own = Some code

-- nothing is transferred, and no request is open
abbrev pub between : Stage → Machine → Machine
between stage m = record m { stage = stage; previous = state_of_stage m.stage; size = 0; stored = 0; asked = None; attempts = 0 }

-- no update is under way
abbrev pub closed : Machine → Machine
closed m = record (between Idle m) { agent = None; is_applied = false }

-- ---- RequestUpdate

abbrev pub update_fault : Machine → ℕ → ℕ → Option ℕ
update_fault m most total =
    if not (is_idle m.stage) then Some ALREADY_IN_UPDATE_MODE
    else if nat_lt most MIN_TRANSFER_BYTES then Some INVALID_TRANSFER_LENGTH
    else if total == 0 then Some ERROR_INVALID_DATA
    else None

abbrev pub begun : Machine → ℕ → ℕ → ℕ → ℕ → Machine
begun m source now most total = record (between Learning m) {
  agent = Some source;
  total = total;
  left = total;
  most = most;
  is_applied = false;
  heard = now;
}

-- ---- PassComponentTable

-- which part of the table comes next: 1 is the first of several, 4 the last, 5 the only one
abbrev pub part_due : Machine → ℕ
part_due m =
    if m.left == m.total then (if m.left == 1 then 5 else 1) else (if m.left == 1 then 4 else 2)

abbrev pub pass_fault : Machine → ℕ → ℕ → Option ℕ
pass_fault m source part =
    first_fault (refusal m source (is_learning m.stage))
    (if part == part_due m then None else Some ERROR_INVALID_DATA)

abbrev pub passed : Machine → ℕ → Machine
passed m now = record m {
  stage = if m.left == 1 then Ready else Learning;
  previous = if m.left == 1 then state_of_stage m.stage else m.previous;
  left = m.left - 1;
  heard = now;
}

-- ---- UpdateComponent

-- the device has no such component, or no room for an image of this size
abbrev pub size_fault : Option ℕ → ℕ → Option ℕ
size_fault None size = Some ERROR_INVALID_DATA
size_fault (Some room) size = if (size == 0) || nat_lt room size then Some DATA_OUT_OF_RANGE else None

abbrev pub transfer_fault : Machine → ℕ → Option ℕ → ℕ → Option ℕ
transfer_fault m source room size =
    first_fault (refusal m source (is_ready m.stage)) (size_fault room size)

abbrev pub transferring : Machine → ℕ → ℕ → Machine
transferring m now size = with_step (record (between Beginning m) { size = size; heard = now })

-- ---- ActivateFirmware

abbrev pub activation_fault : Machine → ℕ → Option ℕ
activation_fault m source =
    first_fault (refusal m source (is_ready m.stage)) (if m.is_applied then None else Some INCOMPLETE_UPDATE)

abbrev pub activating : Machine → ℕ → Machine
activating m now = with_step (record m { stage = Activating; previous = state_of_stage m.stage; is_applied = false; heard = now })

-- ---- CancelUpdateComponent, CancelUpdate

abbrev pub cancel_component_fault : Machine → ℕ → Option ℕ
cancel_component_fault m source = refusal m source (is_in_transfer m.stage)

abbrev pub component_cancelled : Machine → ℕ → Machine
component_cancelled m now = with_step (record (between Ready m) { heard = now })

abbrev pub cancel_update_fault : Machine → ℕ → Option ℕ
cancel_update_fault m source = refusal m source (not (is_activating m.stage))

abbrev pub update_cancelled : Machine → Machine
update_cancelled m = with_step (closed m)
