use Rattle.std.proofs.Common.{◌≡◌, Some, ap, ◌∙◌, arith}
use Rattle.std.specs.Prelude.{slice_set}
use Rattle.std.proofs.lemmas.Bool.{cond-false, ne_eqb}
use Rattle.std.proofs.lemmas.List.{map-set}
use Rattle.pldm_responder.specs.Orders.{numbered_slot, numbered_slots}
use Rattle.pldm_responder.proofs.slot_table.SlotTable.put.Goals as goal

pub returns : goal.returns
returns c =
    let slot = c.args.slot in
    let is : numbered_slot slot ≡ Some slot = cond-false _ _ _ (ne_eqb slot 32 (λ e. omega (arith, e, c.requires.slot))) in
    ap (λ i. numbered_slots (slice_set c.self.inside.slots i slot)) c.from.ensures
    ∙ map-set numbered_slot c.self.inside.slots c.args.id slot
    ∙ ap (λ o. slice_set (numbered_slots c.self.inside.slots) c.args.id o) is
    ∙ ap (λ slots. slice_set slots c.args.id (Some slot)) c.self.view_is
