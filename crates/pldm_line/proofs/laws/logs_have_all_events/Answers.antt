-- Event after event.
use Rattle.pldm_line.proofs.LogsSeen.{logs_have_all}
use Rattle.pldm_line.proofs.laws.logs_have_all_events.Goals as goal

pub returns : goal.returns
returns g c = logs_have_all g.N.Write.contents g.T.Write.contents
