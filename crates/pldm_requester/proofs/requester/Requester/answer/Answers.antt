use Rattle.std.proofs.Common.{◌≡◌, true, ◌∙◌, ◌%◌, refl, sym, subst}
use Rattle.std.specs.Prelude.{slice_set}
use Rattle.pldm_wire.specs.Responses.{response_of}
use Rattle.pldm_requester.specs.Arrivals.{response_arrival}
use Rattle.pldm_requester.specs.Courses.{answered}
use Rattle.pldm_requester.specs.Slots.{RequesterView, held_of}
use Rattle.pldm_requester.specs.Steps.{Memo, IsHeld, is_mine, remembered_after, with_course}
use Rattle.pldm_requester.proofs.SlotSteps.{answered_held}
use Rattle.pldm_requester.proofs.requester.Requester.answer.Goals as goal

pub returns-clause-held : goal.returns-clause-held
returns-clause-held c =
    let station : RequesterView = record { own = c.self.inside.own; device = c.self.inside.device; timing = c.self.inside.timing; pace = c.self.inside.pace; count = c.self.inside.count; slots = c.self.inside.slots.items; open_messages = c.self.inside.assembler; last = c.self.inside.last } in
    let memo : Memo = c.index_mut-slot.result.now in
    let after = λ (s : RequesterView). record (held_of s) { remembered = remembered_after (held_of s) (response_arrival (is_mine (held_of s)) c.args.number c.args.message.now (response_of c.args.message.now)) } in
    rw c.take.ensures (
    subst (λ (s : RequesterView). IsHeld (held_of (record station { slots = slice_set station.slots (c.args.number % 32) (with_course (answered c.args.message.now) memo) })) (after s)) c.self.view_is
    (answered_held station c.args.number c.args.message.now c.in-Ok.response memo memo
    (sym c.in-Ok.ensures.exact)
    (subst (λ (s : RequesterView). is_mine (held_of s) c.args.number c.in-Ok.response ≡ true) (sym c.self.view_is) (sym c.if-not-is_mine.ensures))
    (λ same. c.if-code-eq-ERROR_NOT_READY.false (c.code.ensures.value ∙ same))
    refl
    c.index_mut-slot.ensures.value))
