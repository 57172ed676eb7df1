-- What was made so far and what the rest makes is what all of them make.
use Rattle.std.proofs.Common.{◌≡◌, ◌++◌, length, map, drop}
use Rattle.needleoat_forms.specs.States.{sensor_state}
use Rattle.needleoat_forms.proofs.states.sensor_states_from.Given as goal

abbrev pub invariant-loop-field : goal.invariant-loop-field
invariant-loop-field l = record {
  all : l.made.items ++ map sensor_state (drop l.field-index l.fields) ≡ map sensor_state l.fields;
  count : length l.made.items ≡ l.field-index;
}
