use Rattle.std.proofs.Common.{Some, sym, subst, ap, ◌∙◌}
use Rattle.std.specs.Prelude.{slice_index_or}
use Rattle.mctp_assembly.specs.NumberLists.{Rises}
use Rattle.mctp_assembly.proofs.NumberPlaces.{open_at, none_in_gap}
use Rattle.pldm_endpoint.specs.RequestKeys.{no_command}
use Rattle.pldm_endpoint.proofs.command_list.CommandList.get.Goals as goal

pub returns-in-Ok : goal.returns-in-Ok
returns-in-Ok c =
    let found = open_at no_command _ (subst (Rises no_command) c.self.view_is c.self.invariant) _ _ c.in-Ok.ensures.found c.index.result.now in
    ap Some (c.command.ensures ∙ ap (λ p. p.1) c.index.ensures ∙ ap (λ l. (slice_index_or l c.in-Ok.place c.index.result.now).1) c.self.view_is) ∙ sym found

pub returns-in-Err : goal.returns-in-Err
returns-in-Err c = sym (none_in_gap no_command _ _ _ c.in-Err.ensures.absent)
