-- The name is that among the records that are left.
use Rattle.std.proofs.Common.{◌≡◌, drop, map}
use Rattle.mctpctl_table.specs.Rows.{name_cell}
use Rattle.mctpctl_table.proofs.record_names.name_cell.Given as goal

abbrev pub invariant-loop-bytes : goal.invariant-loop-bytes
invariant-loop-bytes l = name_cell l.identifier l.place (map (λ bytes. bytes.items) (drop l.bytes-index l.records)) ≡ name_cell l.identifier l.place (map (λ bytes. bytes.items) l.records)
