-- A step whose name is no usual one is added by its name.
use Rattle.std.proofs.Common.{◌≡◌, ◌∷◌, sym, ap, ◌∙◌}
use Rattle.schedule_text.proofs.NamedSteps.{by_name}
use Rattle.schedule_text.proofs.schedule.Schedule.add_step_in.Goals as goal

pub returns-in_ok-name-in-None-clause-ok : goal.returns-in_ok-name-in-None-clause-ok
returns-in_ok-name-in-None-clause-ok c =
    let moment = c.in_ok-moment.moment in
    let name = c.in_ok-name-in-None.name in
    let split : c.args.words.now ≡ moment ∷ name ∷ c.next.new.self =
    c.in_ok-moment.ensures.ok ∙ ap (λ words. moment ∷ words) (sym c.in-None.ensures.none ∙ c.in_ok-name-in-None.ensures.ok) in
    rw (split, by_name c.args.self.now moment name c.next.new.self, sym c.self.view_is) c.add_named.ensures.ok

pub returns-in_ok-name-in-None-clause-err : goal.returns-in_ok-name-in-None-clause-err
returns-in_ok-name-in-None-clause-err c =
    let moment = c.in_ok-moment.moment in
    let name = c.in_ok-name-in-None.name in
    let split : c.args.words.now ≡ moment ∷ name ∷ c.next.new.self =
    c.in_ok-moment.ensures.ok ∙ ap (λ words. moment ∷ words) (sym c.in-None.ensures.none ∙ c.in_ok-name-in-None.ensures.ok) in
    rw (split, by_name c.args.self.now moment name c.next.new.self, sym c.self.view_is) c.add_named.ensures.err
