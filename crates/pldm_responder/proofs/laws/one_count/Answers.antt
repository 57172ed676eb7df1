use Rattle.pldm_responder.proofs.PairCounts.{one_count}
use Rattle.pldm_responder.proofs.laws.one_count.Goals as goal

pub returns : goal.returns
returns c = one_count
