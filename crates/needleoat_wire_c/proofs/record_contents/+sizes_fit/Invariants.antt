-- Fewer sets are left at each call.
use Rattle.std.proofs.Common.{length}
use Rattle.needleoat_wire_c.proofs.record_contents.+sizes_fit.Given as goal

abbrev pub decreases-sizes_fit : goal.decreases-sizes_fit
decreases-sizes_fit l = length l.sets.now
