use Rattle.pldm_update.proofs.AllApplied.{activates_what_was_applied}
use Rattle.pldm_update.proofs.laws.activates_what_was_applied.Goals as goal

pub returns : goal.returns
returns c = activates_what_was_applied
