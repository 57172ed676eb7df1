-- What was made so far and what the rest makes is what all of them make.
use Rattle.std.proofs.Common.{◌≡◌, ◌++◌, length, map, drop}
use Rattle.needleoat_forms.specs.States.{set_state}
use Rattle.needleoat_forms.proofs.states.sets_from.Given as goal

abbrev pub invariant-loop-field : goal.invariant-loop-field
invariant-loop-field l = record {
  all : l.made.items ++ map set_state (drop l.field-index l.fields) ≡ map set_state l.fields;
  count : length l.made.items ≡ l.field-index;
}
