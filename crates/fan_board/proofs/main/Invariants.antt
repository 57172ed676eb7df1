-- Between two lines the board is asked nothing.
use Rattle.std.specs.FinMap as map
use Rattle.std.proofs.Common.{◌≡◌}
use Rattle.fan_board.proofs.main.Given as goal

abbrev pub invariant-loop-line : goal.invariant-loop-line
invariant-loop-line l = l.endpoint.pending ≡ map.empty
