use Rattle.std.proofs.Common.{Some, sym, subst, ap, ◌∙◌}
use Rattle.mctp_assembly.specs.NumberLists.{IsAt}
use Rattle.mctp_assembly.proofs.NumberPlaces.{open_at, none_in_gap}
use Rattle.pldm_responder.specs.Slots.{Rows, no_answers, row_of}
use Rattle.pldm_responder.proofs.kept_answers.KeptAnswers.row.Goals as goal

pub returns-in-Ok : goal.returns-in-Ok
returns-in-Ok c =
    let is = subst (λ (rows : Rows). IsAt no_answers rows.list c.args.source c.in-Ok.place) (sym c.self.view_is) c.in-Ok.ensures.found in
    ap Some (c.row.ensures ∙ ap (λ p. p.1) c.index.ensures)
    ∙ sym (open_at no_answers c.self.inside.rows.items c.self.invariant.rises c.args.source c.in-Ok.place is c.index.result.now)
    ∙ ap (λ (rows : Rows). row_of rows c.args.source) c.self.view_is

pub returns-in-Err : goal.returns-in-Err
returns-in-Err c = sym (none_in_gap no_answers _ _ _ c.in-Err.ensures.absent)
