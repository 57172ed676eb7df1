use Rattle.std.proofs.Common.{◌<◌, ◌==◌, length, sym, ap, subst, ◌∙◌}
use Rattle.pldm_responder.specs.Ends.{End}
use Rattle.pldm_responder.specs.ResponderStates.{Entry}
use Rattle.pldm_responder.specs.Slots.{answers_in}
use Rattle.pldm_responder.proofs.KeptEntries.{all_where}
use Rattle.pldm_responder.proofs.responder.Responder.perform.Goals as goal

pub invariant_of-self-2 : goal.invariant_of-self-2
invariant_of-self-2 g c =
    let still = ap (λ (e : End). e.ends_oldest) c.keep.ensures.rest ∙ ap (λ (e : End). e.ends_oldest) c.put_room.ensures.rest ∙ ap (λ (e : End). e.ends_oldest) c.reserve.ensures.same.same in (
      still ∙ c.self.invariant.0,
      λ source. all_where (λ (e : Entry). 0 < length e.answer) (c.args.request.now.source == source) _ _ _ _ _ (c.keep.ensures.kept source)
          (c.put_room.ensures.gets.kept source ∙ ap answers_in (c.reserve.ensures.same.rows.rows source))
          (subst (λ bytes. 0 < length bytes) (sym c.deref.ensures.0) c.in_ok-changed.ensures.done.some) (c.self.invariant.1 source),
    )
