use Rattle.pldm_terminus.proofs.Incarnations.{apart_over_restarts}
use Rattle.pldm_terminus.proofs.laws.ids_are_apart_over_restarts.Goals as goal

pub returns : goal.returns
returns c = apart_over_restarts c.instance_ids_are_apart.ensures.before
