use Rattle.pldm_update.proofs.OfferedImage.{image_is_the_offered}
use Rattle.pldm_update.proofs.laws.image_is_the_offered.Goals as goal

pub returns : goal.returns
returns c = image_is_the_offered c.flash_is_in_order.ensures c.pieces_are_own.ensures
