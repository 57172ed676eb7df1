use Rattle.std.proofs.Common.{None, refl, sym, subst}
use Rattle.mctp_assembly.specs.NumberLists.{Changes, IsAt}
use Rattle.mctp_assembly.specs.Numbered.{none_open, Numbered}
use Rattle.mctp_assembly.proofs.DifferingPlaces.{taken_out}
use Rattle.mctp_assembly.proofs.NumberPlaces.{change_of, unchanged}
use Rattle.mctp_assembly.proofs.OpenPlaces.{few}
use Rattle.mctp_assembly.proofs.ListedNumbers.{stays_listed}
use Rattle.mctp_assembly.proofs.messages.Messages.remove.Goals as goal

pub end_at-requires-clause-few : goal.end_at-requires-clause-few
end_at-requires-clause-few c = few c.self.inside.list.items c.self.invariant.messages

pub invariant_of-self : goal.invariant_of-self
invariant_of-self c =
    stays_listed c.self.inside.numbers.items c.end_at.new.numbers.items c.self.inside.list.items c.end_at.new.list.items c.args.number c.in-Some.place c.self.invariant
    (subst (λ (l : Numbered). IsAt none_open l c.args.number c.in-Some.place) (sym c.self.view_is) c.in-Some.ensures.found) c.end_at.ensures.numbers c.end_at.ensures.list

pub returns-in-Some : goal.returns-in-Some
returns-in-Some c =
    let list = c.self.inside.list.items in
    let is = subst (λ (l : Numbered). IsAt none_open l c.args.number c.in-Some.place) (sym c.self.view_is) c.in-Some.ensures.found in
    change_of none_open list c.args.self.now _ c.args.number None None c.self.view_is refl
    (subst (λ (new : Numbered). Changes list new c.args.number None) (sym c.end_at.ensures.list) (taken_out none_open list c.self.invariant.messages.differ c.args.number c.in-Some.place is))

pub returns-in_default : goal.returns-in_default
returns-in_default c = unchanged none_open c.args.self.now c.args.number c.in_default.ensures.absent
