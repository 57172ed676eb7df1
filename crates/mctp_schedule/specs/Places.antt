-- The requesters of a run, each in the place of its endpoint ID.
use Rattle.std.specs.Prelude.{◌≡◌, ◌≢◌, ℕ, true, List, [], Option, Some, None, find, slice_index_or}
use Rattle.mctp_packet.specs.Ids.{IsEid}
use Rattle.pldm_requester.specs.Slots.{held_of}
use Rattle.pldm_requester.specs.Steps.{IsHeld, held_at_first}
use Rattle.mctp_schedule.specs.Askers.{Side}
use Rattle.schedule_text.specs.Schedules.{has_requester, is_requester}
use Rattle.mctp_schedule.specs.Worlds.{timing_from}
use Rattle.schedule_text.specs.declared.step.RequesterLine.{RequesterLine}

abbrev pub side_at : List (Option Side) → ℕ → Option Side
side_at places e = slice_index_or places e None

-- a requester at the endpoint e that was called with nothing yet
pub record Begins (device keep : ℕ) (lines : List RequesterLine) (e : ℕ) (side : Side) : Type 0 where
  pub endpoint : IsEid e
  pub other : e ≢ device
  pub held : IsHeld (held_of side.station) (held_at_first e device (timing_from keep (find (is_requester e) lines)))
  pub numbers : side.numbers ≡ []

-- each of these lines has a requester in its place
abbrev pub BeginEach : ℕ → ℕ → List RequesterLine → List (Option Side) → Type 0
BeginEach device keep lines places =
    (e : ℕ) → has_requester lines e ≡ true
    → (side : Side) × (side_at places e ≡ Some side) × Begins device keep lines e side
