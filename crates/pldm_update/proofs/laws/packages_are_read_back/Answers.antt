-- The package that a file has is read, so there are no two.
use Rattle.pldm_update.proofs.PackagesRead.{only, one}
use Rattle.pldm_update.proofs.laws.packages_are_read_back.Goals as goal

pub returns-clause-reads_back : goal.returns-clause-reads_back
returns-clause-reads_back c = only

pub returns-clause-one : goal.returns-clause-one
returns-clause-one c = one
