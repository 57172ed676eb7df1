-- The writer works.
use Rattle.std.proofs.Common.{◌≡◌, false}
use Rattle.update_line.proofs.turn.send_requests.Given as goal

abbrev pub invariant-loop-number : goal.invariant-loop-number
invariant-loop-number g l =
    (l.writer.failed ≡ false)
    × (goal.iterator-loop-number g).can_next l.number-iterator
    × (goal.iterator-loop-number g).is_finite l.number-iterator
