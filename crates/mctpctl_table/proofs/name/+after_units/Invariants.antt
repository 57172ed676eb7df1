-- Fewer bytes are left each time.
use Rattle.std.proofs.Common.{length}
use Rattle.mctpctl_table.proofs.name.+after_units.Given as goal

abbrev pub decreases-after_units : goal.decreases-after_units
decreases-after_units l = length l.bytes.now
