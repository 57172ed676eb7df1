-- The names of the fields so far.
use Rattle.std.proofs.Common.{◌≡◌, map}
use Rattle.mctpctl_table.specs.Rows.{first_names}
use Rattle.mctpctl_table.proofs.described.first_names.Given as goal

abbrev pub invariant-loop-place : goal.invariant-loop-place
invariant-loop-place l =
    map (λ name. name.items) l.names.items ≡ first_names l.identifier l.place (map (λ pdr. pdr.items) l.records)
