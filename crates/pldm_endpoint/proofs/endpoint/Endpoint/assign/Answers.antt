use Rattle.pldm_endpoint.proofs.PendingGlue.{none_pending}
use Rattle.pldm_endpoint.proofs.endpoint.Endpoint.assign.Goals as goal

pub invariant_of-self : goal.invariant_of-self
invariant_of-self c = (none_pending _ _ _ _ _ c.new.ensures c.assign.ensures.none, λ _. c.new.ensures)
