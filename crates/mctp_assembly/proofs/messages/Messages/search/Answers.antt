use Rattle.std.proofs.Common.{◌≡◌, List, ℕ, Option, Some, None, IfNone, subst}
use Rattle.mctp_assembly.specs.NumberLists.{StandsNowhere, at}
use Rattle.mctp_assembly.specs.Numbered.{Numbered}
use Rattle.mctp_assembly.proofs.ListedNumbers.{distinct, few_numbers, nothing_at}
use Rattle.mctp_assembly.proofs.messages.Messages.search.Goals as goal

pub place_of-requires-clause-few : goal.place_of-requires-clause-few
place_of-requires-clause-few c = rw c.deref-2.ensures.value (few_numbers c.self.inside.numbers.items c.self.inside.list.items c.self.invariant)

pub place_of-requires-clause-distinct : goal.place_of-requires-clause-distinct
place_of-requires-clause-distinct c = rw c.deref-2.ensures.value (distinct c.self.inside.numbers.items c.self.inside.list.items c.self.invariant)

none_then : {A P Q : Type 0} (o : Option A) → IfNone o P → (P → Q) → IfNone o Q
none_then (Some x) h then = tt
none_then None h then = then h

pub returns-clause-absent : goal.returns-clause-absent
returns-clause-absent c =
    none_then c.place_of.result c.place_of.ensures.absent (λ nowhere. subst (λ (l : Numbered). at l c.args.number ≡ None) c.self.view_is
    (nothing_at c.self.inside.numbers.items c.self.inside.list.items c.self.invariant c.args.number
    (subst (λ (ns : List ℕ). StandsNowhere ns c.args.number) c.deref-2.ensures.value nowhere)))
