use Rattle.std.proofs.Common.{Some, sym, subst, ap, ◌∙◌}
use Rattle.std.specs.Prelude.{slice_index_or}
use Rattle.std.specs.Option.{option_copied, option_map}
use Rattle.mctp_assembly.specs.NumberLists.{Differ}
use Rattle.mctp_assembly.specs.Numbered.{none_open}
use Rattle.mctp_assembly.proofs.DifferingPlaces.{open_at}
use Rattle.mctp_assembly.proofs.messages.Messages.get.Goals as goal

pub returns : goal.returns
returns c =
    let found = open_at none_open _ (subst (Differ none_open) c.self.view_is c.self.invariant.messages.differ) _ _ c.in_ok-place.ensures.found c.index.result.now in
    ap Some (ap (λ p. p.1) c.index.ensures ∙ ap (λ l. (slice_index_or l c.in_ok-place.place c.index.result.now).1) c.self.view_is) ∙ sym found

pub returns-in_err-place : goal.returns-in_err-place
returns-in_err-place c = ap (λ r. option_map (λ buffer. buffer.1) (option_copied r)) c.from_residual.ensures ∙ sym c.in_err-place.ensures.absent
