-- Fewer bytes are left each time.
use Rattle.std.proofs.Common.{length}
use Rattle.mctpctl_table.proofs.name.+push_units.Given as goal

abbrev pub decreases-push_units : goal.decreases-push_units
decreases-push_units l = length l.bytes.now
