-- The version is that of the first entry among the rest as among all.
use Rattle.std.proofs.Common.{◌≡◌, drop}
use Rattle.needleoat_wire_c.specs.BaseAnswers.{version_of}
use Rattle.needleoat_wire_c.proofs.base_answer.version_of.Given as goal

abbrev pub invariant-loop-entry : goal.invariant-loop-entry
invariant-loop-entry l = version_of l.pldm_type (drop l.entry-index l.types) ≡ version_of l.pldm_type l.types
