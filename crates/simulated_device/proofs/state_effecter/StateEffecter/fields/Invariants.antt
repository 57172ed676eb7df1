-- The fields so far are those of the states so far.
use Rattle.std.proofs.Common.{◌≡◌, ◌++◌, length, map, drop}
use Rattle.simulated_device.specs.EffecterAnswers.{effecter_field}
use Rattle.simulated_device.proofs.state_effecter.StateEffecter.fields.Given as goal

abbrev pub invariant-loop-state : goal.invariant-loop-state
invariant-loop-state l = record {
  all : l.fields.items ++ map effecter_field (drop l.state-index l.state-items) ≡ map effecter_field l.state-items;
  count : length l.fields.items ≡ l.state-index;
}
