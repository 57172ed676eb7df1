use Rattle.std.proofs.Common.{◌≡◌, None, ap, sym, subst, ◌∙◌}
use Rattle.pldm_responder.specs.Recency.{IsApart, of_number}
use Rattle.pldm_responder.proofs.RecentFirst.{none_of_it}
use Rattle.mctp_schedule.proofs.arrivals.ArrivedIds.renew.Goals as goal

pub invariant_of-self : goal.invariant_of-self
invariant_of-self c = subst (IsApart (λ id. id)) (sym (c.in_err-insert.ensures.items)) c.self.invariant

pub invariant_of-self-2 : goal.invariant_of-self-2
invariant_of-self-2 c =
    let none : of_number (λ id. id) c.args.id c.self.inside.ids.items ≡ None = ap (of_number (λ id. id) c.args.id) (c.self.view_is ∙ c.remove.ensures) ∙ none_of_it (λ id. id) c.args.id c.args.self.now in
    subst (IsApart (λ id. id)) (sym (c.in_ok-insert.ensures.items)) (none, c.self.invariant)
