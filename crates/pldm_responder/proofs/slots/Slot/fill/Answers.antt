use Rattle.std.proofs.Common.{rules, ◌<◌, length, ap, arith}
use Rattle.std.proofs.lemmas.Grind.{common_steps}
use Rattle.pldm_responder.specs.declared.slots.Slot.{Slot}
use Rattle.pldm_responder.proofs.StoredSlots.{long_held, place_there}
use Rattle.pldm_responder.proofs.slots.Slot.fill.Goals as goal

pub returns-clause-filled : goal.returns-clause-filled
returns-clause-filled c =
    let taken = c.take_place-place.ensures in
    let there : c.take_place-place.result < length c.take_place-place.new.long.items =
    rw (taken.value, taken.long) (place_there c.args.self.now.place c.args.long.now.items c.requires.slot.stored_is.place) in
    record {
      held =
          long_held c.take_place-place.new.long.items c.take_place-place.new.self c.take_place-place.result c.args.moment c.args.bytes.now c.args.answer.now _ c.put_both-2.new.room
          (ap (λ (s : Slot). s.moment) taken.place) (ap (λ (s : Slot). s.asked) taken.place) (ap (λ (s : Slot). s.both) taken.place) (ap (λ (s : Slot). s.place) taken.place)
          there (omega arith) c.put_both-2.ensures;
      stored_is = search rules;
      place = grind (arith, common_steps);
      others = λ q low apart. grind (arith, common_steps);
    }
