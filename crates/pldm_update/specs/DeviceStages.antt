-- Where a firmware device is in an update (DSP0267, "Firmware device state machine").
use Rattle.std.specs.Prelude.{ℕ, Bool, true, false, not, if◌then◌else◌}
use Rattle.pldm_update.specs.declared.update_state.UpdateState.{UpdateState}
use Rattle.pldm_update.specs.declared.update_state.UpdateState.TheVariants as states
use Rattle.pldm_update.specs.declared.device_stage.Stage.{Stage}
use Rattle.pldm_update.specs.declared.device_stage.Stage.TheVariants.{Idle, Learning, Ready, Beginning, Fetching, Storing, Fetched, Failed, Verifying, Verified, Applying, Applied, Activating}

abbrev pub state_of_stage : Stage → UpdateState
state_of_stage Idle = states.Idle
state_of_stage Learning = states.LearnComponents
state_of_stage Ready = states.ReadyXfer
state_of_stage Beginning = states.Download
state_of_stage Fetching = states.Download
state_of_stage (Storing bytes) = states.Download
state_of_stage Fetched = states.Download
state_of_stage Failed = states.Download
state_of_stage Verifying = states.Verify
state_of_stage (Verified good) = states.Verify
state_of_stage Applying = states.Apply
state_of_stage (Applied done) = states.Apply
state_of_stage Activating = states.Activate

abbrev pub is_idle : Stage → Bool
is_idle Idle = true
is_idle _ = false

abbrev pub is_learning : Stage → Bool
is_learning Learning = true
is_learning _ = false

abbrev pub is_ready : Stage → Bool
is_ready Ready = true
is_ready _ = false

abbrev pub is_activating : Stage → Bool
is_activating Activating = true
is_activating _ = false

-- a component is transferred, verified or applied
abbrev pub is_in_transfer : Stage → Bool
is_in_transfer Idle = false
is_in_transfer Learning = false
is_in_transfer Ready = false
is_in_transfer Activating = false
is_in_transfer _ = true

-- the agent has the next move, and may take so long for it
abbrev pub is_between : Stage → Bool
is_between Learning = true
is_between Ready = true
is_between _ = false

-- the stage tells of a fault
abbrev pub has_failed : Stage → Bool
has_failed Failed = true
has_failed (Verified good) = not good
has_failed (Applied done) = not done
has_failed _ = false

-- the stage tells of a success
abbrev pub has_come_so_far : Stage → Bool
has_come_so_far Fetched = true
has_come_so_far (Verified good) = good
has_come_so_far (Applied done) = done
has_come_so_far _ = false

-- the agent has the next move
abbrev pub is_waiting : Stage → Bool
is_waiting Idle = true
is_waiting Learning = true
is_waiting Ready = true
is_waiting _ = false

abbrev pub auxiliary_state : Stage → ℕ
auxiliary_state stage =
    if is_waiting stage then 3 else if has_failed stage then 2 else if has_come_so_far stage then 1 else 0

abbrev pub auxiliary_status : Stage → ℕ
auxiliary_status stage = if has_failed stage then 10 else 0
