-- The possible states so far, and those that are left.
use Rattle.std.proofs.Common.{◌≡◌, ◌++◌, ◌-◌}
use Rattle.mctpctl_table.specs.States.{possible_from}
use Rattle.mctpctl_table.proofs.state_text.possible.Given as goal

abbrev pub invariant-loop-state : goal.invariant-loop-state
invariant-loop-state l = l.found.items ++ possible_from (256 - l.state) l.state l.states.bits.items ≡ possible_from 256 0 l.states.bits.items
