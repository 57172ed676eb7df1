use Rattle.pldm_terminus.proofs.AskingCalls.{asking_looks_back}
use Rattle.pldm_terminus.proofs.laws.asking_looks_back.Goals as goal

pub returns : goal.returns
returns c = asking_looks_back c.looks_back.ensures.open c.looks_back.ensures.tick c.looks_back.ensures.receive
