-- What is found is what the records describe.
use Rattle.pldm_discovery.proofs.WalksEnd.{walks_find}
use Rattle.pldm_discovery.proofs.laws.a_walk_finds_what_records_describe.Goals as goal

pub returns : goal.returns
returns c = walks_find
