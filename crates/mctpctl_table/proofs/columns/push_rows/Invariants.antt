-- The lines of the rows so far.
use Rattle.std.proofs.Common.{◌≡◌, ◌++◌, take, flat_map}
use Rattle.mctpctl_table.specs.Tables.{line}
use Rattle.mctpctl_table.proofs.columns.push_rows.Given as goal

abbrev pub invariant-loop-row : goal.invariant-loop-row
invariant-loop-row l = l.out.items ≡ l.initial.out.items ++ flat_map (line l.what l.name l.value) (take l.row-index l.rows)
