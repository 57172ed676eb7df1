use Rattle.std.proofs.Common.{ap, ◌∙◌, arith}
use Rattle.std.specs.Prelude.{slice_index}
use Rattle.pldm_responder.proofs.Rings.{after_low, before_low, order_left, slot_low, still_ring}
use Rattle.pldm_responder.proofs.order.Order.take.Goals as goal

pub bounds-self-inside-from : goal.bounds-self-inside-from
bounds-self-inside-from c =
    let inside = c.self.inside in
    omega (arith, c.from.ensures, slot_low inside.ids inside.next inside.previous inside.count c.args.slot c.args.self.now c.self.view_is c.self.invariant c.requires)

pub bounds-self-inside-from-2 : goal.bounds-self-inside-from-2
bounds-self-inside-from-2 c =
    let inside = c.self.inside in
    omega (arith, c.from-2.ensures, slot_low inside.ids inside.next inside.previous inside.count c.args.slot c.args.self.now c.self.view_is c.self.invariant c.requires)

pub bounds-self-inside-from-3 : goal.bounds-self-inside-from-3
bounds-self-inside-from-3 c =
    let inside = c.self.inside in
    let is = c.from-3.ensures ∙ ap (λ i. slice_index inside.previous i) c.from.ensures in
    omega (arith, is, before_low inside.ids inside.next inside.previous inside.count c.args.slot c.args.self.now c.self.view_is c.self.invariant c.requires)

pub bounds-self-inside-from-4 : goal.bounds-self-inside-from-4
bounds-self-inside-from-4 c =
    let inside = c.self.inside in
    let is = c.from-4.ensures ∙ ap (λ i. slice_index inside.next i) c.from-2.ensures in
    omega (arith, is, after_low inside.ids inside.next inside.previous inside.count c.args.slot c.args.self.now c.self.view_is c.self.invariant c.requires)

pub invariant_of-self : goal.invariant_of-self
invariant_of-self c =
    let inside = c.self.inside in
    still_ring inside.ids inside.next inside.previous inside.count c.args.slot c.args.self.now c.self.view_is c.self.invariant c.requires
    c.from.result c.from-2.result c.from-3.result c.from-4.result c.from.ensures c.from-2.ensures c.from-3.ensures c.from-4.ensures c.self.told.1 c.self.told.2

pub returns : goal.returns
returns c =
    let inside = c.self.inside in
    order_left inside.ids inside.next inside.previous inside.count c.args.slot c.args.self.now c.self.view_is c.self.invariant c.requires
    c.from.result c.from-2.result c.from-3.result c.from-4.result c.from.ensures c.from-2.ensures c.from-3.ensures c.from-4.ensures c.self.told.1 c.self.told.2
