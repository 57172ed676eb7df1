-- What holds of an update agent after every list of calls.
use Rattle.std.specs.Prelude.{◌≡◌, ℕ, ◌<◌, true, List, Some}
use Rattle.pldm_update.specs.declared.agent_stage.AgentRequest.TheVariants.{ActivateFirmware}
use Rattle.pldm_update.specs.declared.agent_stage.AgentStage.TheVariants.{Over}
use Rattle.pldm_update.specs.Agents.{wish_at}
use Rattle.pldm_update.specs.AgentCalls.{Call, agent, applied_count}

-- ActivateFirmware is asked only where the device has said of each component that it was applied, and only so is the
-- update said to be done
pub record IsAllApplied (begin total : ℕ) (calls : List Call) : Type 0 where
  pub asked : wish_at (agent begin total calls).stage ≡ Some ActivateFirmware → applied_count begin total calls ≡ total
  pub over : (agent begin total calls).stage ≡ Over true → applied_count begin total calls ≡ total

abbrev pub ActivatesWhatWasApplied : Type 0
ActivatesWhatWasApplied = (begin total : ℕ) (calls : List Call) → 0 < total → IsAllApplied begin total calls
