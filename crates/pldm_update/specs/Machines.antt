-- What a firmware device holds in an update, and one call of it.
use Rattle.std.specs.Prelude.{◌≡◌, ℕ, ◌+◌, ◌-◌, ◌%◌, ◌^◌, ◌≤◌, Bool, true, false, ◌||◌, not, ◌==◌, nat_lt, min, Option, Some, None, is_some, if◌then◌else◌, refl}
use Rattle.std.specs.Coded.{Coded, code_by, coded×, coded_ℕ, coded_bool, coded_option}
use Rattle.pldm_update.specs.declared.assigned.TheConstants.{NOT_IN_UPDATE_MODE, COMMAND_NOT_EXPECTED, INVALID_STATE_FOR_COMMAND}
use Rattle.pldm_update.specs.contracts.update_state.UpdateState as state_type
use Rattle.pldm_update.specs.declared.update_state.UpdateState.{UpdateState}
use Rattle.pldm_update.specs.declared.update_state.UpdateState.TheVariants as states
use Rattle.pldm_update.specs.contracts.device_stage.Stage as stage_type
use Rattle.pldm_update.specs.declared.device_stage.Stage.{Stage}
use Rattle.pldm_update.specs.declared.device_stage.Stage.TheVariants.{Idle, Fetching, Storing, Fetched, Failed, Verified, Applied}
use Rattle.pldm_update.specs.declared.device_stage.DeviceRequest.{DeviceRequest}
use Rattle.pldm_update.specs.declared.device_stage.DeviceRequest.TheVariants.{Piece, TransferComplete, VerifyComplete, ApplyComplete}
use Rattle.pldm_update.specs.declared.firmware_device.TheConstants.{PIECE_BYTES}
use Rattle.pldm_update.specs.declared.flash.FlashAction.{FlashAction}
use Rattle.pldm_update.specs.declared.flash.FlashStep.{FlashStep}
use Rattle.pldm_update.specs.DeviceStages.{is_idle}

-- the stage, the state before its own, the endpoint ID of the update agent, how many components the update has and how
-- many of them are still to be passed, the most bytes of a piece that the agent allows, the size of the image and how much
-- of it is stored, whether a component was applied, the number of the request that is open, how often it was asked for in
-- vain, the number of the last step of the flash, when the agent was last heard, and until when nothing is asked
pub record Machine : Type 0 where
  pub stage : Stage
  pub previous : UpdateState
  pub agent : Option ℕ
  pub total : ℕ
  pub left : ℕ
  pub most : ℕ
  pub size : ℕ
  pub stored : ℕ
  pub is_applied : Bool
  pub asked : Option ℕ
  pub attempts : ℕ
  pub latest : ℕ
  pub heard : ℕ
  pub rest : ℕ

-- it is stored as its parts
abbrev pub coded_machine : Coded Machine
coded_machine =
    code_by (Stage × (UpdateState × (Option ℕ × (ℕ × (ℕ × (ℕ × (ℕ × (ℕ × (Bool × (Option ℕ × (ℕ × (ℕ × (ℕ × ℕ)))))))))))))
    (coded× stage_type.the_row.coded (coded× state_type.the_row.coded (coded× (coded_option coded_ℕ)
    (coded× coded_ℕ (coded× coded_ℕ (coded× coded_ℕ (coded× coded_ℕ (coded× coded_ℕ (coded× coded_bool
    (coded× (coded_option coded_ℕ) (coded× coded_ℕ (coded× coded_ℕ (coded× coded_ℕ coded_ℕ)))))))))))))
    (λ m. (
      m.stage,
      (
        m.previous,
        (
          m.agent,
          (
            m.total,
            (
              m.left,
              (
                m.most,
                (
                  m.size,
                  (
                    m.stored,
                    (
                      m.is_applied,
                      (m.asked, (m.attempts, (m.latest, (m.heard, m.rest)))),
                    ),
                  ),
                ),
              ),
            ),
          ),
        ),
      ),
    ))
    (λ c. record {
      stage = c.0;
      previous = c.1.0;
      agent = c.1.1.0;
      total = c.1.1.1.0;
      left = c.1.1.1.1.0;
      most = c.1.1.1.1.1.0;
      size = c.1.1.1.1.1.1.0;
      stored = c.1.1.1.1.1.1.1.0;
      is_applied = c.1.1.1.1.1.1.1.1.0;
      asked = c.1.1.1.1.1.1.1.1.1.0;
      attempts = c.1.1.1.1.1.1.1.1.1.1.0;
      latest = c.1.1.1.1.1.1.1.1.1.1.1.0;
      heard = c.1.1.1.1.1.1.1.1.1.1.1.1.0;
      rest = c.1.1.1.1.1.1.1.1.1.1.1.1.1;
    })
    (λ _. refl)

-- how many bytes the flash is storing
abbrev pub bytes_at : Stage → ℕ
bytes_at (Storing bytes) = bytes
bytes_at _ = 0

-- no more is stored than the image has
pub record IsMachine (m : Machine) : Type 0 where
  pub within : m.stored + bytes_at m.stage ≤ m.size

abbrev pub first_machine : ℕ → Machine
first_machine latest = record {
  stage = Idle;
  previous = states.Idle;
  agent = None;
  total = 0;
  left = 0;
  most = 0;
  size = 0;
  stored = 0;
  is_applied = false;
  asked = None;
  attempts = 0;
  latest = latest;
  heard = 0;
  rest = 0;
}

abbrev pub is_some_number : Option ℕ → ℕ → Bool
is_some_number None number = false
is_some_number (Some this) number = this == number

abbrev pub is_agent : Machine → ℕ → Bool
is_agent m source = is_some_number m.agent source

-- why a command of a sender is refused: no update is under way, it is not the agent of the update, or the stage does not
-- fit the command
abbrev pub refusal : Machine → ℕ → Bool → Option ℕ
refusal m source fits =
    if is_idle m.stage then Some NOT_IN_UPDATE_MODE
    else if not (is_agent m source) then Some COMMAND_NOT_EXPECTED
    else if not fits then Some INVALID_STATE_FOR_COMMAND
    else None

-- the least of what the agent allows, what the device takes, and what is left
abbrev pub piece_length : Machine → ℕ
piece_length m = min (min m.most PIECE_BYTES) (m.size - m.stored)

abbrev pub wish_at : Stage → Machine → Option DeviceRequest
wish_at Fetching m = Some (Piece m.stored (piece_length m))
wish_at Fetched m = Some (TransferComplete true)
wish_at Failed m = Some (TransferComplete false)
wish_at (Verified good) m = Some (VerifyComplete good)
wish_at (Applied done) m = Some (ApplyComplete done)
wish_at _ m = None

-- what is asked of the agent now: one request is open at a time
abbrev pub wish : Machine → ℕ → Option DeviceRequest
wish m now = if is_some m.asked || nat_lt now m.rest then None else wish_at m.stage m

-- the number of the step after this one
abbrev pub next_number : ℕ → ℕ
next_number number = (number + 1) % 2 ^ 64

abbrev pub with_step : Machine → Machine
with_step m = record m { latest = next_number m.latest }

-- the step that was handed out last
abbrev pub IsNumbered : Machine → FlashStep → Type 0
IsNumbered m step = step.number ≡ m.latest

-- the step that was handed out last has this action
pub record IsStep (m : Machine) (action : FlashAction) (step : FlashStep) : Type 0 where
  pub number : step.number ≡ m.latest
  pub action_is : step.action ≡ action
