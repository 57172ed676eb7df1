-- Fewer sets are left at each call.
use Rattle.std.proofs.Common.{length}
use Rattle.pldm_pdr.proofs.state_sets.+each_fits.Given as goal

abbrev pub decreases-each_fits : goal.decreases-each_fits
decreases-each_fits l = length l.sets.now
