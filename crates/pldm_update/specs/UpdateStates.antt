-- The states of a firmware device by their numbers (DSP0267, "GetStatus command").
use Rattle.std.specs.Prelude.{ℕ, ◌==◌, Option, Some, None, if◌then◌else◌}
use Rattle.pldm_update.specs.declared.update_state.UpdateState.{UpdateState}
use Rattle.pldm_update.specs.declared.update_state.UpdateState.TheVariants.{Idle, LearnComponents, ReadyXfer, Download}
use Rattle.pldm_update.specs.declared.update_state.UpdateState.TheVariants.{Verify, Apply, Activate}

abbrev pub state_number : UpdateState → ℕ
state_number Idle = 0
state_number LearnComponents = 1
state_number ReadyXfer = 2
state_number Download = 3
state_number Verify = 4
state_number Apply = 5
state_number Activate = 6

abbrev pub state_of : ℕ → Option UpdateState
state_of number =
    if number == 0 then Some Idle
    else if number == 1 then Some LearnComponents
    else if number == 2 then Some ReadyXfer
    else if number == 3 then Some Download
    else if number == 4 then Some Verify
    else if number == 5 then Some Apply
    else if number == 6 then Some Activate
    else None
