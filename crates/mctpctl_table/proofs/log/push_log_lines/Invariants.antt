-- The lines of the rows so far.
use Rattle.std.proofs.Common.{◌≡◌, ◌++◌, take, flat_map}
use Rattle.mctpctl_table.specs.Logs.{log_line}
use Rattle.mctpctl_table.proofs.log.push_log_lines.Given as goal

abbrev pub invariant-loop-row : goal.invariant-loop-row
invariant-loop-row l = l.out.items ≡ l.initial.out.items ++ flat_map (log_line l.moment) (take l.row-index l.rows)
