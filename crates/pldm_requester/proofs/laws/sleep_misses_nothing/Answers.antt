use Rattle.pldm_requester.proofs.NextDeadlines.{sleep_misses_nothing}
use Rattle.pldm_requester.proofs.laws.sleep_misses_nothing.Goals as goal

pub returns : goal.returns
returns c = sleep_misses_nothing
