use Rattle.pldm_update.proofs.RecordsApply.{records_apply}
use Rattle.pldm_update.proofs.laws.records_apply.Goals as goal

pub returns : goal.returns
returns c = records_apply
