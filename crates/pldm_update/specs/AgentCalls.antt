-- Every list of calls of an update agent, the newest first, and what they leave.
use Rattle.std.specs.Prelude.{ℕ, zero, suc, Bool, true, List, [], ◌∷◌, Option, Some, None}
use Rattle.pldm_update.specs.declared.agent_stage.AgentStage.{AgentStage}
use Rattle.pldm_update.specs.declared.agent_stage.AgentStage.TheVariants.{Requesting, Applying}
use Rattle.pldm_update.specs.declared.agent_stage.DeviceReply.{DeviceReply}
use Rattle.pldm_update.specs.Agents.{Agent, answered, given_up, opened}
use Rattle.pldm_update.specs.DeviceRequests.{applied, apply_fault, fetch_fault, heard_at, ticked, transfer_fault, transferred, verified, verify_fault}

pub data Call : Type 0 where
  Opened : (number now : ℕ) → Call
  Answered : (number now : ℕ) → (reply : DeviceReply) → Call
  GaveUp : (number : ℕ) → Call
  Fetch : (now size most offset length : ℕ) → Call
  TransferComplete : (now : ℕ) → (well : Bool) → Call
  VerifyComplete : (now : ℕ) → (well : Bool) → Call
  ApplyComplete : (now : ℕ) → (well : Bool) → Call
  Tick : (now : ℕ) → Call

-- a request that is refused changes nothing
abbrev pub unless_refused : Option ℕ → Agent → Agent → Agent
unless_refused None a after = after
unless_refused (Some code) a after = a

abbrev pub happens : Agent → Call → Agent
happens a (Opened number now) = opened a number now
happens a (Answered number now reply) = answered a number now reply
happens a (GaveUp number) = given_up a number
happens a (Fetch now size most offset length) =
    unless_refused (fetch_fault a size most offset length) a (heard_at a now)
happens a (TransferComplete now well) = unless_refused (transfer_fault a) a (transferred a now well)
happens a (VerifyComplete now well) = unless_refused (verify_fault a) a (verified a now well)
happens a (ApplyComplete now well) = unless_refused (apply_fault a) a (applied a now well)
happens a (Tick now) = ticked a now

-- an agent that brings so many components
abbrev pub first_agent : ℕ → ℕ → Agent
first_agent now total = record { stage = Requesting; total = total; asked = None; attempts = 0; heard = now; rest = 0 }

-- the device says that it has applied what it was to apply
abbrev pub counted_at : AgentStage → Bool → ℕ → ℕ
counted_at (Applying component) true count = suc count
counted_at stage well count = count

abbrev pub counted : Agent → Call → ℕ → ℕ
counted a (ApplyComplete now well) count = counted_at a.stage well count
counted a call count = count

module _ (begin total : ℕ) where
  abbrev pub agent : List Call → Agent
  agent [] = first_agent begin total
  agent (call ∷ past) = happens (agent past) call

  -- of how many components the device has said so
  abbrev pub applied_count : List Call → ℕ
  applied_count [] = zero
  applied_count (call ∷ past) = counted (agent past) call (applied_count past)
