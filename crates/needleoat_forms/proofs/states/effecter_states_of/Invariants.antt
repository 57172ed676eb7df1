-- What was made so far and what the rest makes is what all of them make.
use Rattle.std.proofs.Common.{◌≡◌, ◌++◌, length, map, drop}
use Rattle.needleoat_forms.specs.States.{effecter_field}
use Rattle.needleoat_forms.proofs.states.effecter_states_of.Given as goal

abbrev pub invariant-loop-state : goal.invariant-loop-state
invariant-loop-state l = record {
  all : l.fields.items ++ map effecter_field (drop l.state-index l.state-items) ≡ map effecter_field l.state-items;
  count : length l.fields.items ≡ l.state-index;
}
