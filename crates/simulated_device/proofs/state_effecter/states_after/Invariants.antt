-- The states so far and those of the rest are the states of all.
use Rattle.std.proofs.Common.{◌≡◌, ◌+◌, ◌++◌, length}
use Rattle.simulated_device.specs.EffecterAnswers.{states_after}
use Rattle.simulated_device.proofs.state_effecter.states_after.Given as goal

abbrev pub invariant-loop-sets : goal.invariant-loop-sets
invariant-loop-sets l = record {
  all : l.after.items ++ states_after l.sets l.states ≡ states_after l.fn.sets l.fn.states;
  same_count : length l.sets ≡ length l.states;
  count : length l.after.items + length l.states ≡ length l.fn.states;
}

abbrev pub decreases-loop-sets : goal.decreases-loop-sets
decreases-loop-sets l = length l.sets
