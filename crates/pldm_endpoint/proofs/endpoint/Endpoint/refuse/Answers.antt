use Rattle.std.specs.FinMap as map
use Rattle.std.proofs.Common.{rules, ◌≡◌, ◌<◌, true, false, None, length, refl, subst, sym, ap, ◌∙◌}
use Rattle.pldm_wire.specs.Answers.{answer_message}
use Rattle.pldm_wire.specs.Requests.{Request}
use Rattle.pldm_wire.specs.declared.answer.Answer.TheVariants.{Refused}
use Rattle.pldm_responder.specs.Arrivals.{way_back}
use Rattle.pldm_responder.specs.Ends.{End}
use Rattle.pldm_responder.specs.Events.{Message}
use Rattle.pldm_responder.specs.ResponderStates.{Entry}
use Rattle.pldm_responder.specs.Looking.{message_at}
use Rattle.pldm_responder.specs.Reserving.{IsWithinSources}
use Rattle.pldm_responder.specs.Steps.{performs}
use Rattle.pldm_responder.specs.declared.outcome.MessageOutcome.TheVariants.{Answered}
use Rattle.pldm_endpoint.specs.Receiving.{HasServed, IsRefusedBy}
use Rattle.pldm_endpoint.specs.RequestKeys.{request_key_of}
use Rattle.pldm_endpoint.specs.TwoSteps.{EndpointView, held_in, unasked}
use Rattle.pldm_endpoint.specs.declared.step.MessageStep.TheVariants.{Done}
use Rattle.pldm_endpoint.proofs.HandedOut.{finished_is, has_rows, is_in_front, room_is_within, sources_are, window_is}
use Rattle.pldm_endpoint.proofs.PendingGlue.{pending_in_front}
use Rattle.pldm_endpoint.proofs.RefusedByCode.{refused_by_code}
use Rattle.pldm_endpoint.proofs.TasksRead.{refused_reply, request_is}
use Rattle.pldm_endpoint.proofs.endpoint.Endpoint.refuse.Goals as goal

pub invariant_of-self-2 : goal.invariant_of-self-2
invariant_of-self-2 c =
    let e : End = c.self.inside.end in
    let r = c.args.request.now in
    let entry : Entry = record { moment = c.args.now; bytes = r.bytes; answer = c.deref.result.now } in
    let some : 0 < length c.deref.result.now = search rules in
    let rest = finished_is e c.reserve.new.self c.put_room.new.self c.keep.new.self c.finish.new.self c.args.now r entry c.reserve.ensures.same c.put_room.ensures c.keep.ensures c.finish.ensures in (
      pending_in_front c.self.inside.handed_on e c.finish.new.self c.self.inside.pending c.self.inside.count c.self.inside.max_pending r.source e.rows.window entry some
          (is_in_front e c.reserve.new.self c.put_room.new.self c.keep.new.self c.finish.new.self c.args.now r entry c.reserve.ensures.same c.put_room.ensures c.keep.ensures c.finish.ensures) c.self.invariant.0,
      λ none. c.self.invariant.1 (sym (ap (λ (x : End). x.own) rest) ∙ none),
    )

pub returns-clause-served : goal.returns-clause-served
returns-clause-served c =
    let r = c.args.request.now in
    let m : Message = message_at c.args.now r in
    let e : EndpointView = record { end = c.self.inside.end; handed_on = c.self.inside.handed_on; pending = c.self.inside.pending; count = c.self.inside.count; max_pending = c.self.inside.max_pending } in
    let new : EndpointView = record { end = c.finish.new.self; handed_on = c.self.inside.handed_on; pending = c.self.inside.pending; count = c.self.inside.count; max_pending = c.self.inside.max_pending } in
    let answer = c.deref.result.now in
    let back = sym c.self.view_is in
    let entry : Entry = record { moment = c.args.now; bytes = r.bytes; answer = answer } in
    let some : 0 < length answer = search rules in
    let refused = subst (λ (x : EndpointView). IsRefusedBy x.handed_on c.args.code r.bytes) back c.requires.refused in
    let same : c.read.result.now ≡ refused.0 = request_is r.bytes c.read.result.now c.read.ensures ∙ sym (request_is r.bytes refused.0 refused.1) in
    let items_is : answer ≡ c.refuse.new.reply.items = search rules in
    let answer_is = items_is ∙ c.refuse.ensures.answer ∙ ap (λ (q : Request). answer_message q.id q.kind (Refused c.args.code)) same ∙ sym (refused_reply e.handed_on c.args.code r.bytes unasked refused) in
    let bound = ap (λ (x : End). x.bounds.sources) c.reserve.ensures.same.same in
    let served = refused_by_code e new c.args.now r c.args.code answer
    (subst (λ (x : EndpointView). map.get x.pending (request_key_of m) ≡ None) back c.requires.ready.free)
    (subst (λ (x : EndpointView). performs (held_in x) m ≡ true) back c.requires.ready.fresh)
    refused
    (room_is_within c.reserve.new.self.rows e.end.rows e.end.bounds.sources r.source c.in_ok-reserved.reserved c.reserve.ensures.same.rows c.in_ok-reserved.ensures.ok
    (subst (λ max. IsWithinSources c.reserve.new.self.rows max c.in_ok-reserved.reserved) bound c.in_ok-reserved.ensures.few))
    some answer_is
    (is_in_front e.end c.reserve.new.self c.put_room.new.self c.keep.new.self c.finish.new.self c.args.now r entry c.reserve.ensures.same c.put_room.ensures c.keep.ensures c.finish.ensures)
    (window_is e.end c.reserve.new.self c.put_room.new.self c.keep.new.self c.finish.new.self c.args.now r entry c.reserve.ensures.same c.put_room.ensures c.keep.ensures c.finish.ensures)
    (has_rows e.end c.reserve.new.self c.put_room.new.self c.keep.new.self c.finish.new.self c.args.now r entry c.reserve.ensures.same c.put_room.ensures c.keep.ensures c.finish.ensures)
    (sources_are e.end c.reserve.new.self c.put_room.new.self c.keep.new.self c.finish.new.self c.args.now r entry c.reserve.ensures.same c.put_room.ensures c.keep.ensures c.finish.ensures)
    (finished_is e.end c.reserve.new.self c.put_room.new.self c.keep.new.self c.finish.new.self c.args.now r entry c.reserve.ensures.same c.put_room.ensures c.keep.ensures c.finish.ensures)
    refl refl refl refl in
    let taken_is : c.performed.result ≡ Answered true false (way_back e.end.own m) = search rules in
    subst (λ (x : EndpointView). HasServed x c.args.now r new c.refuse.new.reply.items (Done c.performed.result)) c.self.view_is
    (subst (λ items. HasServed e c.args.now r new items (Done c.performed.result)) items_is
    (subst (λ taken. HasServed e c.args.now r new answer (Done taken)) (sym taken_is) served))
