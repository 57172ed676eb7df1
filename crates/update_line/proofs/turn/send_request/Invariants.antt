-- The writer works.
use Rattle.std.proofs.Common.{◌≡◌, false}
use Rattle.update_line.proofs.turn.send_request.Given as goal

abbrev pub invariant-loop-i : goal.invariant-loop-i
invariant-loop-i g l = record { works : l.writer.failed ≡ false }
