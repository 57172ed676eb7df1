-- Fewer bytes are left each time.
use Rattle.std.proofs.Common.{length}
use Rattle.mctpctl_table.proofs.name.+after_tag.Given as goal

abbrev pub decreases-after_tag : goal.decreases-after_tag
decreases-after_tag l = length l.bytes.now
