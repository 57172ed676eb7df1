-- The header and the data of each type have no more bytes.
use Rattle.pldm_pdr.proofs.Records.{fitting}
use Rattle.pldm_pdr.proofs.laws.records_fit.Goals as goal

pub returns : goal.returns
returns c = fitting
