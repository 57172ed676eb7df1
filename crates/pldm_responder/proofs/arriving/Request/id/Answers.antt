use Rattle.std.proofs.Common.{◌∙◌, ap}
use Rattle.pldm_wire.specs.Headers.{id_at}
use Rattle.pldm_responder.specs.Requested.{Requested}
use Rattle.pldm_responder.proofs.ServedRequests.{id_of_request}
use Rattle.pldm_responder.proofs.arriving.Request.id.Goals as goal

pub returns-clause-value : goal.returns-clause-value
returns-clause-value c =
    c.id.ensures.value
    ∙ id_of_request c.self.inside.bytes.now c.self.inside.read c.self.invariant.0
    ∙ ap (λ (r : Requested). id_at r.bytes) c.self.view_is
