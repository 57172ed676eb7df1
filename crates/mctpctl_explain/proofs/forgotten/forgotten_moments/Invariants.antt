-- What is left becomes less.
use Rattle.std.proofs.Common.{length}
use Rattle.mctpctl_explain.proofs.forgotten.forgotten_moments.Given as goal

abbrev pub decreases-loop-line : goal.decreases-loop-line
decreases-loop-line l = length l.rest
