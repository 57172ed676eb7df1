use Rattle.pldm_update.proofs.OfferedOne.{image_is_the_offered_one}
use Rattle.pldm_update.proofs.laws.image_is_the_offered_one.Goals as goal

pub returns : goal.returns
returns c = image_is_the_offered_one c.verified_is_whole.ensures
