-- One name more.
use native.Mathlib.Numerals.{unary_clauses}
use Rattle.std.proofs.Common.{map, rules}
use Rattle.std.proofs.lemmas.List.{map-append}
use Rattle.mctpctl_table.proofs.described.first_names.Goals as goal

pub loop-place-preserved : goal.loop-place-preserved
loop-place-preserved c = simp unary_clauses (search (rules, map-append))
