-- Both ports work.
use Rattle.std.proofs.Common.{◌≡◌, false}
use Rattle.mctpctl_update.proofs.session.follow.Given as goal

abbrev pub invariant-loop : goal.invariant-loop
invariant-loop g l = record { reads : l.reader.failed ≡ false; writes : l.writer.failed ≡ false }
