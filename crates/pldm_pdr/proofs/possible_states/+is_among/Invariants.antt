-- Fewer states are left at each call.
use Rattle.std.proofs.Common.{length}
use Rattle.pldm_pdr.proofs.possible_states.+is_among.Given as goal

abbrev pub decreases-is_among : goal.decreases-is_among
decreases-is_among l = length l.states.now
