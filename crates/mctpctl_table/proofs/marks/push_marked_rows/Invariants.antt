-- The lines of the rows so far.
use Rattle.std.proofs.Common.{◌≡◌, ◌++◌, take, flat_map}
use Rattle.std.specs.List.{enumerate_from}
use Rattle.mctpctl_table.specs.Marks.{marked_line}
use Rattle.mctpctl_table.proofs.marks.push_marked_rows.Given as goal

abbrev pub invariant-loop-place : goal.invariant-loop-place
invariant-loop-place l =
    l.out.items
    ≡ l.initial.out.items ++ flat_map (λ p. marked_line l.rows l.before p.0 p.1) (enumerate_from 0 (take l.place l.rows))
