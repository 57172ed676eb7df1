-- The widest cell so far.
use Rattle.std.proofs.Common.{◌≡◌, take}
use Rattle.mctpctl_table.specs.Tables.{width}
use Rattle.mctpctl_table.proofs.columns.width.Given as goal

abbrev pub invariant-loop-row : goal.invariant-loop-row
invariant-loop-row l = l.widest ≡ width l.column (take l.row-index l.rows)
