use Rattle.pldm_responder.specs.Performing.{rules_of}
use Rattle.pldm_responder.proofs.WithoutEid.{drops_without_eid}
use Rattle.pldm_responder.proofs.laws.nothing_is_for_an_end_without_an_id.Goals as goal

pub returns : goal.returns
returns g c = drops_without_eid (rules_of g.P.Platform.answer g.P.Platform.after g.P.Platform.sensed)
