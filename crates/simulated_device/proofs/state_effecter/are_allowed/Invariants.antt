-- All are allowed exactly where the rest are.
use Rattle.std.proofs.Common.{◌≡◌, length}
use Rattle.simulated_device.specs.EffecterAnswers.{are_allowed}
use Rattle.simulated_device.proofs.state_effecter.are_allowed.Given as goal

abbrev pub invariant-loop-sets : goal.invariant-loop-sets
invariant-loop-sets l = are_allowed l.sets l.allowed ≡ are_allowed l.fn.sets l.fn.allowed

abbrev pub decreases-loop-sets : goal.decreases-loop-sets
decreases-loop-sets l = length l.sets
