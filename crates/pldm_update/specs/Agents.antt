-- What an update agent holds in an update, and its own requests.
use Rattle.std.specs.Prelude.{ℕ, ◌+◌, ◌<◌, Bool, true, false, ◌||◌, ◌==◌, nat_lt, Option, Some, None, is_some, if◌then◌else◌, refl}
use Rattle.std.specs.Coded.{Coded, code_by, coded×, coded_ℕ, coded_option}
use Rattle.pldm_update.specs.contracts.agent_stage.AgentStage as stage_type
use Rattle.pldm_update.specs.declared.times.TheConstants.{MAX_ATTEMPTS, RETRY_TIME}
use Rattle.pldm_update.specs.declared.agent_stage.DeviceReply.{DeviceReply}
use Rattle.pldm_update.specs.declared.agent_stage.DeviceReply.TheVariants.{Taken, NotYet, Refused}
use Rattle.pldm_update.specs.declared.agent_stage.AgentStage.{AgentStage}
use Rattle.pldm_update.specs.declared.agent_stage.AgentStage.TheVariants.{Requesting, Passing, Offering, Serving, Verifying, Applying, Activating, Cancelling, Over}
use Rattle.pldm_update.specs.declared.agent_stage.AgentRequest.{AgentRequest}
use Rattle.pldm_update.specs.declared.agent_stage.AgentRequest.TheVariants.{RequestUpdate, PassComponent, UpdateComponent, ActivateFirmware, CancelUpdate}

-- the stage, how many components the update has, the number of the request that is open, how often it was asked in vain,
-- when the device was last heard, and until when nothing is asked
pub record Agent : Type 0 where
  pub stage : AgentStage
  pub total : ℕ
  pub asked : Option ℕ
  pub attempts : ℕ
  pub heard : ℕ
  pub rest : ℕ

-- it is stored as its parts
abbrev pub coded_agent : Coded Agent
coded_agent =
    code_by (AgentStage × (ℕ × (Option ℕ × (ℕ × (ℕ × ℕ)))))
    (coded× stage_type.the_row.coded (coded× coded_ℕ (coded× (coded_option coded_ℕ) (coded× coded_ℕ (coded× coded_ℕ coded_ℕ)))))
    (λ a. (a.stage, (a.total, (a.asked, (a.attempts, (a.heard, a.rest))))))
    (λ c. record {
      stage = c.0;
      total = c.1.0;
      asked = c.1.1.0;
      attempts = c.1.1.1.0;
      heard = c.1.1.1.1.0;
      rest = c.1.1.1.1.1;
    })
    (λ _. refl)

-- the component of a stage is one of the update's
abbrev pub IsOfUpdate : AgentStage → ℕ → Type 0
IsOfUpdate (Passing component) total = component < total
IsOfUpdate (Offering component) total = component < total
IsOfUpdate (Serving component) total = component < total
IsOfUpdate (Verifying component) total = component < total
IsOfUpdate (Applying component) total = component < total
IsOfUpdate _ total = Unit {0}

pub record IsAgent (a : Agent) : Type 0 where
  pub some : 0 < a.total
  pub within : IsOfUpdate a.stage a.total

abbrev pub begun : ℕ → ℕ → Option Agent
begun now total =
    if total == 0 then None
    else Some (record { stage = Requesting; total = total; asked = None; attempts = 0; heard = now; rest = 0 })

abbrev pub wish_at : AgentStage → Option AgentRequest
wish_at Requesting = Some RequestUpdate
wish_at (Passing component) = Some (PassComponent component)
wish_at (Offering component) = Some (UpdateComponent component)
wish_at Activating = Some ActivateFirmware
wish_at Cancelling = Some CancelUpdate
wish_at _ = None

-- what is asked of the device now: one request is open at a time
abbrev pub wish : Agent → ℕ → Option AgentRequest
wish a now = if is_some a.asked || nat_lt now a.rest then None else wish_at a.stage

abbrev pub opened : Agent → ℕ → ℕ → Agent
opened a number now = if is_some (wish a now) then record a { asked = Some number } else a

-- the stage after an answer that was good
abbrev pub stage_after : ℕ → AgentStage → AgentStage
stage_after total Requesting = Passing 0
stage_after total (Passing component) =
    if nat_lt (component + 1) total then Passing (component + 1) else Offering 0
stage_after total (Offering component) = Serving component
stage_after total Activating = Over true
stage_after total Cancelling = Over false
stage_after total stage = stage

abbrev pub passed_on : Agent → Agent
passed_on a = record a { attempts = 0; stage = stage_after a.total a.stage }

-- the stage after something failed: the device is told so, where it has taken the update
abbrev pub stage_failed : AgentStage → AgentStage
stage_failed Requesting = Over false
stage_failed Cancelling = Over false
stage_failed (Over well) = Over well
stage_failed _ = Cancelling

abbrev pub cancelled : Agent → Agent
cancelled a = record a { stage = stage_failed a.stage; asked = None; attempts = 0 }

abbrev pub is_some_number : Option ℕ → ℕ → Bool
is_some_number None number = false
is_some_number (Some this) number = this == number

-- what was asked in vain is asked again, not before a moment, or the update ends
abbrev pub tried : Agent → ℕ → Agent
tried a rest =
    if nat_lt (a.attempts + 1) MAX_ATTEMPTS then record a { attempts = a.attempts + 1; rest = rest } else cancelled a

abbrev pub after_reply : DeviceReply → Agent → Agent
after_reply Taken a = passed_on a
after_reply NotYet a = tried a (a.heard + RETRY_TIME)
after_reply Refused a = cancelled a

-- an answer counts where it is to the request that is open
abbrev pub answered : Agent → ℕ → ℕ → DeviceReply → Agent
answered a number now reply =
    if is_some_number a.asked number then after_reply reply (record a { asked = None; heard = now }) else a

-- so does its being given up
abbrev pub given_up : Agent → ℕ → Agent
given_up a number = if is_some_number a.asked number then tried (record a { asked = None }) 0 else a
