-- One moment for each word so far.
use Rattle.std.proofs.Common.{◌≡◌, length}
use Rattle.mctpctl_state.proofs.kept.moments_in.Given as goal

abbrev pub invariant-loop-place : goal.invariant-loop-place
invariant-loop-place l = length l.moments.items ≡ l._place
