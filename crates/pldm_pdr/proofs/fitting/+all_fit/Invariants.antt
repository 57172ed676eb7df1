-- Fewer numbers are left at each call.
use Rattle.std.proofs.Common.{length}
use Rattle.pldm_pdr.proofs.fitting.+all_fit.Given as goal

abbrev pub decreases-all_fit : goal.decreases-all_fit
decreases-all_fit l = length l.values.now
