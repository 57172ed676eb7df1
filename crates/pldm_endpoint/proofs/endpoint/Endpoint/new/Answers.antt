use Rattle.std.proofs.Common.{ap}
use Rattle.pldm_responder.specs.Ends.{End}
use Rattle.pldm_responder.specs.Slots.{kept_in}
use Rattle.pldm_endpoint.proofs.PendingGlue.{none_pending}
use Rattle.pldm_endpoint.proofs.endpoint.Endpoint.new.Goals as goal

pub invariant_of-result : goal.invariant_of-result
invariant_of-result c = (none_pending _ _ _ _ _ c.new-2.ensures (λ source. ap (λ (e : End). kept_in e.rows source) c.new.ensures), λ _. c.new-2.ensures)
