use Rattle.std.proofs.Common.{rules, ap, sym, subst, ◌≡◌, ◌∙◌, ◌++◌, Some, ◌==◌}
use Rattle.std.specs.Prelude.{not, option_to_list}
use Rattle.std.proofs.lemmas.Fn.{filter_same}
use Rattle.pldm_responder.specs.Recency.{IsApart, without}
use Rattle.pldm_responder.proofs.RecentFirst.{apart_without}
use Rattle.mctp_schedule.proofs.ArrivedOnce.{apart_before, without_oldest}
use Rattle.mctp_schedule.proofs.arrivals.ArrivedIds.remove.Goals as goal

pub returns-then-eq : goal.returns-then-eq
returns-then-eq c =
    let last : c.pop.result ≡ Some c.args.id = search rules in
    let items = c.pop.ensures.items ∙ ap (λ o. c.pop.new.self.items ++ option_to_list o) last in
    sym (ap (without (λ id. id) c.args.id) (sym c.self.view_is ∙ items) ∙ without_oldest c.args.id c.pop.new.self.items (subst (IsApart (λ id. id)) items c.self.invariant))

pub invariant_of-self : goal.invariant_of-self
invariant_of-self c = apart_before c.pop.new.self.items (option_to_list c.pop.result) (subst (IsApart (λ id. id)) c.pop.ensures.items c.self.invariant)

pub returns : goal.returns
returns c =
    filter_same _ (λ id. not (id == c.args.id)) _ (λ id kept f k. search rules) _ _ c.retain.ensures.filtered
    ∙ ap (without (λ id. id) c.args.id) c.self.view_is

pub invariant_of-self-2 : goal.invariant_of-self-2
invariant_of-self-2 c = subst (IsApart (λ id. id)) (sym (filter_same _ (λ id. not (id == c.args.id)) _ (λ id kept f k. search rules) _ _ c.retain.ensures.filtered)) (apart_without (λ id. id) c.args.id c.self.inside.ids.items c.self.invariant)
