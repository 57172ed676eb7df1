-- Fewer states are left at each call.
use Rattle.std.proofs.Common.{length}
use Rattle.pldm_pdr.proofs.possible_states.+last_byte.Given as goal

abbrev pub decreases-last_byte : goal.decreases-last_byte
decreases-last_byte l = length l.states.now
