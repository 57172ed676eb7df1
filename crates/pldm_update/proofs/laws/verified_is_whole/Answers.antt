use Rattle.pldm_update.proofs.OfferedImage.{verified_is_whole}
use Rattle.pldm_update.proofs.laws.verified_is_whole.Goals as goal

pub returns : goal.returns
returns c = verified_is_whole c.flash_is_in_order.ensures c.image_is_the_offered.ensures
