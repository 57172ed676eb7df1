-- What was made so far and what the rest makes is what all of them make.
use Rattle.std.proofs.Common.{◌≡◌, ◌++◌, length, map, drop}
use Rattle.needleoat_wire_c.specs.RecordForms.{states_in}
use Rattle.needleoat_wire_c.proofs.record_contents.sets_from.Given as goal

abbrev pub invariant-loop-fields : goal.invariant-loop-fields
invariant-loop-fields l = record {
  all : l.made.items ++ map states_in (drop l.fields-index l.sets) ≡ map states_in l.sets;
  count : length l.made.items ≡ l.fields-index;
}
