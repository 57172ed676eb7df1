use Rattle.std.proofs.Common.{◌≡◌, ◌<◌, length, refl, sym, ap, subst, arith, ◌∙◌}
use Rattle.std.specs.Vec.{vec_capacity}
use Rattle.std.proofs.lemmas.Grind.{common_steps}
use Rattle.std.proofs.lemmas.List.{length-map}
use Rattle.pldm_responder.specs.SlotBytes.{IsStored, slot_at, stored}
use Rattle.pldm_responder.specs.declared.slots.Slot.{Slot}
use Rattle.pldm_responder.proofs.StoredSlots.{filled_entries, filled_stored, room_left, slot_found}
use Rattle.pldm_responder.proofs.slots.Slots.fill.Goals as goal

pub fill-requires-clause-slot : goal.fill-requires-clause-slot
fill-requires-clause-slot c =
    let inside = c.self.inside in
    let there : c.args.slot < length inside.slots.items = omega (arith, c.requires.there, ap (λ s. length s.entries) c.self.view_is, length-map inside.slots.items (stored inside.long.items)) in
    let found : c.index_mut.result.now ≡ slot_at inside.slots.items c.args.slot = slot_found inside.slots.items c.args.slot c.index_mut.result.now there c.index_mut.ensures.value in
    record {
      stored_is = subst (λ (slot : Slot). IsStored slot (length inside.long.items)) (sym found) (c.self.invariant.each c.args.slot);
      places = grind (arith, common_steps, c.self.invariant.few, c.self.invariant.places);
      room_is = λ none. omega (
        arith,
        inside.long.ok.0,
        room_left inside.slots.items inside.long.items (vec_capacity inside.slots) (vec_capacity inside.long) c.args.slot c.self.invariant there (sym (ap (λ (s : Slot). s.place) found) ∙ none),
      );
    }

pub invariant_of-self : goal.invariant_of-self
invariant_of-self c =
    let inside = c.self.inside in
    let there : c.args.slot < length inside.slots.items = omega (arith, c.requires.there, ap (λ s. length s.entries) c.self.view_is, length-map inside.slots.items (stored inside.long.items)) in
    let found : c.index_mut.result.now ≡ slot_at inside.slots.items c.args.slot = slot_found inside.slots.items c.args.slot c.index_mut.result.now there c.index_mut.ensures.value in
    let filled = filled_stored inside.slots.items inside.long.items c.fill.new.long.items (vec_capacity inside.slots) (vec_capacity inside.long) c.args.slot c.fill.new.self c.self.invariant there c.fill.ensures.filled.stored_is
    (rw (← found) c.fill.ensures.filled.place) in
    rw c.fill.ensures.capacity filled

pub returns-clause-entries : goal.returns-clause-entries
returns-clause-entries c =
    let inside = c.self.inside in
    let there : c.args.slot < length inside.slots.items = omega (arith, c.requires.there, ap (λ s. length s.entries) c.self.view_is, length-map inside.slots.items (stored inside.long.items)) in
    let found : c.index_mut.result.now ≡ slot_at inside.slots.items c.args.slot = slot_found inside.slots.items c.args.slot c.index_mut.result.now there c.index_mut.ensures.value in
    filled_entries inside.slots.items inside.long.items c.fill.new.long.items (vec_capacity inside.slots) (vec_capacity inside.long) c.args.slot c.fill.new.self _ c.self.invariant there c.fill.ensures.filled.held
    (rw (← found) c.fill.ensures.filled.others)
    ∙ rw (← c.self.view_is) refl
