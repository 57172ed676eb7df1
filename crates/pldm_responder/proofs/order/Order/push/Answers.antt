use Rattle.std.proofs.Common.{ap, ◌∙◌, arith}
use Rattle.std.specs.Prelude.{slice_index}
use Rattle.pldm_responder.specs.Rings.{places_after}
use Rattle.pldm_responder.proofs.Rings.{few_used, last_low, order_behind, ring_behind}
use Rattle.pldm_responder.proofs.order.Order.push.Goals as goal

pub bounds-self-inside-from-2 : goal.bounds-self-inside-from-2
bounds-self-inside-from-2 c =
    let inside = c.self.inside in
    let is = c.from-2.ensures ∙ ap (λ i. slice_index inside.previous i) c.from.ensures in
    omega (arith, is, last_low inside.next inside.previous (places_after inside.next 32 inside.count) c.self.invariant)

pub overflow_add-self : goal.overflow_add-self
overflow_add-self c =
    let inside = c.self.inside in
    omega (arith, few_used inside.next inside.previous inside.count c.self.invariant)

pub invariant_of-self : goal.invariant_of-self
invariant_of-self c =
    let inside = c.self.inside in
    ring_behind inside.ids inside.next inside.previous inside.count c.args.slot c.args.id c.args.self.now c.self.view_is c.self.invariant c.requires.slot c.requires.fresh
    c.from.result c.from-2.result c.from-3.result c.from-4.result c.from-5.result c.from-6.result c.from.ensures c.from-2.ensures c.from-3.ensures c.from-4.ensures c.from-5.ensures c.from-6.ensures
    c.self.told.0 c.self.told.1 c.self.told.2

pub returns : goal.returns
returns c =
    let inside = c.self.inside in
    order_behind inside.ids inside.next inside.previous inside.count c.args.slot c.args.id c.args.self.now c.self.view_is c.self.invariant c.requires.slot c.requires.fresh
    c.from.result c.from-2.result c.from-3.result c.from-4.result c.from-5.result c.from-6.result c.from.ensures c.from-2.ensures c.from-3.ensures c.from-4.ensures c.from-5.ensures c.from-6.ensures
    c.self.told.0 c.self.told.1 c.self.told.2
