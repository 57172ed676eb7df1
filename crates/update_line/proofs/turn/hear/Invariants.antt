-- The writer works, and the rest gets shorter.
use Rattle.std.proofs.Common.{◌≡◌, false, length}
use Rattle.update_line.proofs.turn.hear.Given as goal

abbrev pub invariant-loop-byte : goal.invariant-loop-byte
invariant-loop-byte g l = record { works : l.writer.failed ≡ false }

abbrev pub decreases-loop-byte : goal.decreases-loop-byte
decreases-loop-byte g l = length l.rest
