-- Fewer sets are left at each call.
use Rattle.std.proofs.Common.{length}
use Rattle.pldm_pdr.proofs.state_sets.+push_sets.Given as goal

abbrev pub decreases-push_sets : goal.decreases-push_sets
decreases-push_sets l = length l.sets.now
