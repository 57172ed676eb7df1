use Rattle.pldm_update.proofs.OwnPieces.{pieces_are_own}
use Rattle.pldm_update.proofs.laws.pieces_are_own.Goals as goal

pub returns : goal.returns
returns c = pieces_are_own
