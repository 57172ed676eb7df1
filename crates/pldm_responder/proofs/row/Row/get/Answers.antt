use Rattle.std.proofs.Common.{Some, ap, sym, ◌∙◌}
use Rattle.pldm_responder.specs.ResponderStates.{id_in}
use Rattle.pldm_responder.specs.Recency.{of_number}
use Rattle.pldm_responder.proofs.SourceAnswers.{none_there, slot_there, Found}
use Rattle.pldm_responder.proofs.row.Row.get.Goals as goal
use Rattle.pldm_responder.proofs.row.Row.get.Goals.{After-from}

pub returns-in_err-slot : goal.returns-in_err-slot
returns-in_err-slot c =
    let inside = c.self.inside in
    c.from_residual.ensures
    ∙ sym (none_there inside.window inside.table inside.slots.entries inside.order inside.slots.room c.self.invariant c.args.id c.requires (sym c.in_err-slot.ensures))
    ∙ ap (λ row. of_number id_in c.args.id row.kept) c.self.view_is

found : (c : After-from) → Found c.self.inside.slots.entries c.self.inside.order c.args.id c.from.result
found c =
    let inside = c.self.inside in
    slot_there inside.window inside.table inside.slots.entries inside.order inside.slots.room c.self.invariant c.args.id c.from.result c.requires
    (sym c.in_ok-slot.ensures ∙ ap Some (sym c.from.ensures))

pub get-requires-2 : goal.get-requires-2
get-requires-2 c = (found c).there

pub returns : goal.returns
returns c =
    ap Some c.get-2.ensures
    ∙ (found c.before).entry
    ∙ ap (λ row. of_number id_in c.args.id row.kept) c.self.view_is
