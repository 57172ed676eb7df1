-- What was added so far and what the rest adds is the text.
use Rattle.std.proofs.Common.{◌≡◌, ◌++◌, ◌+◌, ◌*◌, length, drop}
use Rattle.pldm_pdr.specs.Names.{text_bytes}
use Rattle.needleoat_wire_c.proofs.name_contents.push_text.Given as goal

abbrev pub invariant-loop-unit : goal.invariant-loop-unit
invariant-loop-unit l = record {
  all : l.out.items ++ text_bytes (drop l.unit-index l.units) ≡ l.initial.out.items ++ text_bytes l.units;
  count : length l.out.items ≡ length l.initial.out.items + 2 * l.unit-index;
}
