-- The rows so far, and those that are left.
use Rattle.std.proofs.Common.{◌≡◌, ◌++◌, drop, length, map}
use Rattle.mctpctl_table.specs.Rows.{field_rows}
use Rattle.mctpctl_table.proofs.rows.push_field_rows.Given as goal

abbrev pub invariant-loop-place : goal.invariant-loop-place
invariant-loop-place l =
    l.rows.items ++ field_rows l.identifier (length l.sets) l.place (drop l.place l.sets) (map (λ name. name.items) l.names) l.reply
    ≡ l.initial.rows.items ++ field_rows l.identifier (length l.sets) 0 l.sets (map (λ name. name.items) l.names) l.reply
