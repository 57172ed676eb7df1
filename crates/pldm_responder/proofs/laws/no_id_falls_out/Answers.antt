use Rattle.pldm_responder.specs.Performing.{rules_of}
use Rattle.pldm_responder.proofs.NoIdFallsOut.{all_ids_are_no_window, all_ids_perform_alike}
use Rattle.pldm_responder.proofs.laws.no_id_falls_out.Goals as goal

pub returns : goal.returns
returns g c =
    let device = rules_of g.P.Platform.answer g.P.Platform.after g.P.Platform.sensed in
    record { same = all_ids_are_no_window; alike = all_ids_perform_alike device }
