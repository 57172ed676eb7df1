-- The requesters of the lines so far are in their places, and none of them was refused.
use Rattle.std.proofs.Common.{◌≡◌, ◌+◌, ℕ, true, length, take, drop, Some}
use Rattle.mctp_packet.specs.declared.TheConstants.{MAX_EID}
use Rattle.mctp_schedule.specs.Askers.{Side}
use Rattle.mctp_schedule.specs.Places.{Begins, side_at}
use Rattle.mctp_schedule.specs.RunFaults.{refusal}
use Rattle.schedule_text.specs.Schedules.{has_requester}
use Rattle.mctp_schedule.proofs.places.begin_requesters.Given as goal

abbrev pub invariant-loop-line : goal.invariant-loop-line
invariant-loop-line l = record {
  all : length l.places.items ≡ MAX_EID + 1;
  begun : (e : ℕ) → has_requester (take l.line-index l.lines) e ≡ true
      → (side : Side) × (side_at l.places.items e ≡ Some side) × Begins l.device l.keep l.lines e side;
  accepted : refusal l.device l.keep l.lines ≡ refusal l.device l.keep (drop l.line-index l.lines);
}
