-- All are in their lists exactly where the rest are.
use Rattle.std.proofs.Common.{◌≡◌, length}
use Rattle.pldm_device.specs.EffecterEntries.{are_in}
use Rattle.pldm_device.proofs.effecter_entries.first_outside.Given as goal

abbrev pub invariant-loop-states : goal.invariant-loop-states
invariant-loop-states l = are_in l.states l.allowed ≡ are_in l.fn.states l.fn.allowed

abbrev pub decreases-loop-states : goal.decreases-loop-states
decreases-loop-states l = length l.states
