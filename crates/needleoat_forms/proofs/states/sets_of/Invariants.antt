-- What was made so far and what the rest makes is what all of them make.
use Rattle.std.proofs.Common.{◌≡◌, ◌++◌, length, map, drop}
use Rattle.needleoat_forms.specs.States.{set_field}
use Rattle.needleoat_forms.proofs.states.sets_of.Given as goal

abbrev pub invariant-loop-state : goal.invariant-loop-state
invariant-loop-state l = record {
  all : l.fields.items ++ map set_field (drop l.state-index l.state-items) ≡ map set_field l.state-items;
  count : length l.fields.items ≡ l.state-index;
}
