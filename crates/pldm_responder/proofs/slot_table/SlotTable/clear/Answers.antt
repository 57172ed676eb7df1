use Rattle.std.proofs.Common.{None, ap, ◌∙◌}
use Rattle.std.specs.Prelude.{slice_set}
use Rattle.std.proofs.lemmas.List.{map-set}
use Rattle.pldm_responder.specs.Orders.{numbered_slot, numbered_slots}
use Rattle.pldm_responder.proofs.slot_table.SlotTable.clear.Goals as goal

pub returns : goal.returns
returns c =
    ap (λ i. numbered_slots (slice_set c.self.inside.slots i 32)) c.from.ensures
    ∙ map-set numbered_slot c.self.inside.slots c.args.id 32
    ∙ ap (λ slots. slice_set slots c.args.id None) c.self.view_is
