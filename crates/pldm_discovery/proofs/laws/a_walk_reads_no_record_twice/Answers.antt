-- No record is read twice.
use Rattle.pldm_discovery.proofs.WalksEnd.{walks_read_once}
use Rattle.pldm_discovery.proofs.laws.a_walk_reads_no_record_twice.Goals as goal

pub returns : goal.returns
returns c = walks_read_once
