-- The requests of the device to the update agent, and time: why each is refused, and what it leaves (DSP0267).
use Rattle.std.specs.Prelude.{ℕ, ◌+◌, Bool, true, false, ◌&&◌, ◌||◌, not, ◌==◌, nat_lt, nat_le, Option, Some, None, if◌then◌else◌}
use Rattle.pldm_update.specs.declared.assigned.TheConstants.{COMMAND_NOT_EXPECTED, DATA_OUT_OF_RANGE, INVALID_TRANSFER_LENGTH}
use Rattle.pldm_update.specs.declared.times.TheConstants.{SILENCE}
use Rattle.pldm_update.specs.declared.agent_stage.AgentStage.{AgentStage}
use Rattle.pldm_update.specs.declared.agent_stage.AgentStage.TheVariants.{Offering, Serving, Verifying, Applying, Activating}
use Rattle.pldm_update.specs.Agents.{Agent, cancelled}

abbrev pub heard_at : Agent → ℕ → Agent
heard_at a now = record a { heard = now }

abbrev pub is_serving : AgentStage → Bool
is_serving (Serving component) = true
is_serving _ = false

-- the device fetches, verifies or applies
abbrev pub is_awaited : AgentStage → Bool
is_awaited (Serving component) = true
is_awaited (Verifying component) = true
is_awaited (Applying component) = true
is_awaited _ = false

-- ---- RequestFirmwareData

abbrev pub fetch_fault : Agent → ℕ → ℕ → ℕ → ℕ → Option ℕ
fetch_fault a size most offset length =
    if not (is_serving a.stage) then Some COMMAND_NOT_EXPECTED
    else if (length == 0) || nat_lt most length then Some INVALID_TRANSFER_LENGTH
    else if nat_lt (size + most) (offset + length) then Some DATA_OUT_OF_RANGE
    else None

-- ---- TransferComplete, VerifyComplete, ApplyComplete

-- the device has done what it was to do, or the update ends
abbrev pub reported : Agent → ℕ → Bool → AgentStage → Agent
reported a now well next = if well then record a { stage = next; heard = now } else cancelled (heard_at a now)

abbrev pub expected : Bool → Option ℕ
expected true = None
expected false = Some COMMAND_NOT_EXPECTED

abbrev pub is_transferring : AgentStage → Bool
is_transferring (Serving component) = true
is_transferring (Verifying component) = true
is_transferring _ = false

abbrev pub transfer_fault : Agent → Option ℕ
transfer_fault a = expected (is_transferring a.stage)

abbrev pub transferred_at : AgentStage → Agent → ℕ → Bool → Agent
transferred_at (Serving component) a now well = reported a now well (Verifying component)
transferred_at stage a now well = heard_at a now

abbrev pub transferred : Agent → ℕ → Bool → Agent
transferred a now well = transferred_at a.stage a now well

abbrev pub is_verifying : AgentStage → Bool
is_verifying (Verifying component) = true
is_verifying (Applying component) = true
is_verifying _ = false

abbrev pub verify_fault : Agent → Option ℕ
verify_fault a = expected (is_verifying a.stage)

abbrev pub verified_at : AgentStage → Agent → ℕ → Bool → Agent
verified_at (Verifying component) a now well = reported a now well (Applying component)
verified_at stage a now well = heard_at a now

abbrev pub verified : Agent → ℕ → Bool → Agent
verified a now well = verified_at a.stage a now well

-- an image is applied, or the device may say once more that one was
abbrev pub is_applying : AgentStage → Bool
is_applying (Applying component) = true
is_applying (Offering component) = nat_lt 0 component
is_applying Activating = true
is_applying _ = false

abbrev pub apply_fault : Agent → Option ℕ
apply_fault a = expected (is_applying a.stage)

-- the stage after a component was applied
abbrev pub after_component : ℕ → ℕ → AgentStage
after_component total component = if nat_lt (component + 1) total then Offering (component + 1) else Activating

abbrev pub applied_at : AgentStage → Agent → ℕ → Bool → Agent
applied_at (Applying component) a now well = reported a now well (after_component a.total component)
applied_at stage a now well = heard_at a now

abbrev pub applied : Agent → ℕ → Bool → Agent
applied a now well = applied_at a.stage a now well

-- ---- time

abbrev pub ticked : Agent → ℕ → Agent
ticked a now = if is_awaited a.stage && nat_le (a.heard + SILENCE) now then cancelled a else a
