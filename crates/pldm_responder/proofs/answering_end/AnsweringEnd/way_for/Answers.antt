use Rattle.std.proofs.Common.{◌≡◌, ◌∙◌, ap, sym, true, refl}
use Rattle.pldm_responder.specs.Ends.{End, eid_or_null}
use Rattle.pldm_responder.specs.OpenOrder.{first_open, is_full_for, is_shut_out_on}
use Rattle.pldm_responder.proofs.OpenRooms.{is_full_by, way_is_free, way_is_shut}
use Rattle.pldm_responder.proofs.answering_end.AnsweringEnd.way_for.Goals as goal

pub returns-in-Some-clause-shut_out : goal.returns-in-Some-clause-shut_out
returns-in-Some-clause-shut_out c =
    let e : End = record { own = eid_or_null c.self.inside.own; busy = c.self.inside.busy; keep = c.self.inside.keep; bounds = c.self.inside.bounds; ends_oldest = c.self.inside.ends_oldest; open_messages = c.self.inside.assembler; begun = c.self.inside.begun.items; rows = c.self.inside.kept; serves_from = c.self.inside.serves_from; last = c.self.inside.last } in
    let looks = sym (c.first_open.ensures ∙ ap (first_open c.self.inside.assembler) c.deref.ensures.value) ∙ c.in-Some.is in
    (λ h. cc h, λ shut. absurd (way_is_free e c.args.key c.in-Some.oldest c.self.invariant.2.0 c.if-not-self.false looks (ap (λ (x : End). is_shut_out_on x c.args.key) c.self.view_is ∙ shut)))

pub returns-in-None-clause-shut_out : goal.returns-in-None-clause-shut_out
returns-in-None-clause-shut_out c =
    let e : End = record { own = eid_or_null c.self.inside.own; busy = c.self.inside.busy; keep = c.self.inside.keep; bounds = c.self.inside.bounds; ends_oldest = c.self.inside.ends_oldest; open_messages = c.self.inside.assembler; begun = c.self.inside.begun.items; rows = c.self.inside.kept; serves_from = c.self.inside.serves_from; last = c.self.inside.last } in
    let looks = sym (c.first_open.ensures ∙ ap (first_open c.self.inside.assembler) c.deref.ensures.value) ∙ c.in-None.is in
    let full : is_full_for e c.args.key ≡ true = is_full_by _ _ _ _ _ c.is_open.ensures c.if-is_open.false c.pending.ensures.value c.if-pending-self.false in
    let shut = way_is_shut e c.args.key full c.if-not-self.false looks c.self.invariant.3 in
    (λ h. ap (λ (x : End). is_shut_out_on x c.args.key) (sym c.self.view_is) ∙ shut, λ h. refl)
