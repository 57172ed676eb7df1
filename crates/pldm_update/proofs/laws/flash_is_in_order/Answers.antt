use Rattle.pldm_update.proofs.DeedsInOrder.{flash_is_in_order}
use Rattle.pldm_update.proofs.laws.flash_is_in_order.Goals as goal

pub returns : goal.returns
returns c = flash_is_in_order
