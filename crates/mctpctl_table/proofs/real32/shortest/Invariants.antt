-- What is found is what is found among the places that are left.
use Rattle.std.proofs.Common.{◌≡◌, ◌-◌}
use Rattle.std.specs.List.{find, range_with_len}
use Rattle.mctpctl_table.specs.Real32s.{is_enough}
use Rattle.mctpctl_table.proofs.real32.shortest.Given as goal

abbrev pub invariant-loop-places : goal.invariant-loop-places
invariant-loop-places l =
    find (is_enough l.n l.unit) (range_with_len l.places (11 - l.places)) ≡ find (is_enough l.n l.unit) (range_with_len 0 11)
