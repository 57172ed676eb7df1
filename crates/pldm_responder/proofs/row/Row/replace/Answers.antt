use Rattle.std.proofs.Common.{Some, ap, sym, subst, ◌∙◌}
use Rattle.pldm_responder.specs.ResponderStates.{Entry, id_in}
use Rattle.pldm_responder.specs.Orders.{newest_first}
use Rattle.pldm_responder.specs.Recency.{replaced}
use Rattle.pldm_responder.specs.SlotBytes.{Stored}
use Rattle.pldm_responder.specs.Slots.{Answers}
use Rattle.pldm_responder.specs.SourceAnswers.{AreLatest, kept_by}
use Rattle.pldm_responder.proofs.SourceAnswers.{Found, kept_in_place, latest_in_place, none_replaced, slot_there}
use Rattle.pldm_responder.proofs.row.Row.replace.Goals as goal
use Rattle.pldm_responder.proofs.row.Row.replace.Goals.{After-from}

found : (c : After-from) → Found c.self.inside.slots.entries c.self.inside.order c.args.id c.from.result
found c =
    let inside = c.self.inside in
    slot_there inside.window inside.table inside.slots.entries inside.order inside.slots.room c.self.invariant c.args.id c.from.result c.requires.small
    (sym c.in-Some.ensures ∙ ap Some (sym c.from.ensures))

pub fill-requires-clause-there : goal.fill-requires-clause-there
fill-requires-clause-there c = (found c).there

pub invariant_of-self : goal.invariant_of-self
invariant_of-self c =
    let inside = c.self.inside in
    let e : Entry = record { moment = c.args.moment; bytes = c.args.bytes.now; answer = c.args.answer.now } in
    let there = slot_there inside.window inside.table inside.slots.entries inside.order inside.slots.room c.self.invariant c.args.id c.from.result c.requires.small
    (sym c.in-Some.ensures ∙ ap Some (sym c.from.ensures)) in
    let latest = latest_in_place inside.window inside.table inside.slots.entries inside.order inside.slots.room c.self.invariant c.args.id c.from.result
    e there c.requires.id in
    subst (λ (s : Stored). AreLatest inside.window inside.table s.entries inside.order s.room)
    (λ i. record { room = sym c.fill.ensures.room i; entries = sym c.fill.ensures.entries i }) latest

pub returns-in-Some : goal.returns-in-Some
returns-in-Some c =
    let inside = c.self.inside in
    let e : Entry = record { moment = c.args.moment; bytes = c.args.bytes.now; answer = c.args.answer.now } in
    let there = slot_there inside.window inside.table inside.slots.entries inside.order inside.slots.room c.self.invariant c.args.id c.from.result c.requires.small
    (sym c.in-Some.ensures ∙ ap Some (sym c.from.ensures)) in
    let kept = kept_in_place inside.window inside.table inside.slots.entries inside.order inside.slots.room c.self.invariant c.args.id c.from.result
    e there c.requires.id in
    (λ i. record { window = inside.window; kept = kept_by (c.fill.ensures.entries i) (newest_first inside.order) })
    ∙ ap (λ entries. record { window = inside.window; kept = entries }) kept
    ∙ (λ i. record { window = (c.self.view_is i).window; kept = replaced id_in e (c.self.view_is i).kept })

pub returns-in_default : goal.returns-in_default
returns-in_default c =
    let inside = c.self.inside in
    let e : Entry = record { moment = c.args.moment; bytes = c.args.bytes.now; answer = c.args.answer.now } in
    let none = none_replaced inside.window inside.table inside.slots.entries inside.order inside.slots.room c.self.invariant c.args.id e c.requires.small (sym c.in_default.ensures) c.requires.id in
    sym c.self.view_is
    ∙ ap (λ entries. record { window = inside.window; kept = entries }) (sym none)
    ∙ ap (λ (row : Answers). record { window = row.window; kept = replaced id_in e row.kept }) c.self.view_is
