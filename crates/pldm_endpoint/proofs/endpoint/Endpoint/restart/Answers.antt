use Rattle.std.proofs.Common.{ap}
use Rattle.pldm_responder.specs.Ends.{End}
use Rattle.pldm_responder.specs.Slots.{kept_in}
use Rattle.pldm_endpoint.proofs.PendingGlue.{none_pending}
use Rattle.pldm_endpoint.proofs.endpoint.Endpoint.restart.Goals as goal

pub invariant_of-self : goal.invariant_of-self
invariant_of-self c = (none_pending _ _ _ _ _ c.new.ensures (λ source. ap (λ (e : End). kept_in e.rows source) c.restart.ensures), λ _. c.new.ensures)
