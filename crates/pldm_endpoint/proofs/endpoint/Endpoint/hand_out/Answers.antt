use Rattle.std.specs.FinMap as map
use Rattle.std.proofs.Common.{◌≡◌, arith, [], ◌∷◌, ◌+◌, true, false, None, is_some, if◌then◌else◌, rules, sym, ap, ◌∙◌, subst, refl}
use Rattle.pldm_wire.specs.HandingOn.{hands_on}
use Rattle.pldm_responder.specs.Ends.{End}
use Rattle.pldm_responder.specs.Events.{Message}
use Rattle.pldm_responder.specs.Reserving.{IsWithinSources}
use Rattle.pldm_responder.specs.Looking.{message_at}
use Rattle.pldm_responder.specs.Performing.{tasks_of}
use Rattle.pldm_responder.specs.Steps.{performs}
use Rattle.pldm_endpoint.specs.Receiving.{HasServed}
use Rattle.pldm_endpoint.specs.Refusing.{is_full}
use Rattle.pldm_endpoint.specs.RequestKeys.{PendingCommands, request_key_of}
use Rattle.pldm_endpoint.specs.TwoSteps.{ArePending, EndpointView, command_at, handle_of, held_in, task_in, waiting}
use Rattle.pldm_endpoint.specs.declared.step.CommandHandle.{CommandHandle}
use Rattle.pldm_endpoint.specs.declared.step.MessageStep.{MessageStep}
use Rattle.pldm_endpoint.specs.declared.step.MessageStep.TheVariants.{Perform, Respond}
use Rattle.pldm_endpoint.proofs.HandedOut.{finished_is, handed_out, handing_step, has_rows, is_in_front, pending_out, room_is_within, sources_are, step_asked, window_is}
use Rattle.pldm_endpoint.proofs.endpoint.Endpoint.hand_out.Goals as goal

pub invariant_of-self-2 : goal.invariant_of-self-2
invariant_of-self-2 c =
    let r = c.args.request.now in
    let m : Message = message_at c.args.now r in
    let e : EndpointView = record { end = c.self.inside.end; handed_on = c.self.inside.handed_on; pending = c.self.inside.pending; count = c.self.inside.count; max_pending = c.self.inside.max_pending } in
    let back = sym c.self.view_is in
    let front = is_in_front e.end c.reserve.new.self c.put_room.new.self c.keep.new.self c.finish.new.self c.args.now r (waiting m) c.reserve.ensures.same c.put_room.ensures c.keep.ensures c.finish.ensures in
    let rest = finished_is e.end c.reserve.new.self c.put_room.new.self c.keep.new.self c.finish.new.self c.args.now r (waiting m) c.reserve.ensures.same c.put_room.ensures c.keep.ensures c.finish.ensures in
    let pending_is : c.insert.new.self ≡ map.insert e.pending (request_key_of m) (command_at m e.count (task_in c.args.command r.bytes)) = search rules in
    let here : r.destination ≡ e.end.own = subst (λ (x : EndpointView). r.destination ≡ x.end.own) back c.requires.ready.sent.here in (
      subst (λ (pending : PendingCommands). ArePending c.finish.new.self e.handed_on pending (e.count + 1) e.max_pending) (sym pending_is)
          (pending_out e c.finish.new.self c.args.now r c.args.command (subst (λ (x : EndpointView). tasks_of (hands_on x.handed_on) r.bytes ≡ task_in c.args.command r.bytes ∷ []) back c.requires.asked) c.id-id.ensures.range
          (subst (λ (x : EndpointView). map.get x.pending (request_key_of m) ≡ None) back c.requires.ready.free)
          (subst (λ (x : EndpointView). is_full x ≡ false) back (sym c.is_full.ensures ∙ c.if-is_full.false)) front c.self.invariant.0),
      λ none. absurd (omega (arith, c.destination-own.ensures.range.0, here ∙ sym (ap (λ (x : End). x.own) rest) ∙ none)),
    )

pub returns-clause-served : goal.returns-clause-served
returns-clause-served c = λ reply.
    let r = c.args.request.now in
    let m : Message = message_at c.args.now r in
    let e : EndpointView = record { end = c.self.inside.end; handed_on = c.self.inside.handed_on; pending = c.self.inside.pending; count = c.self.inside.count; max_pending = c.self.inside.max_pending } in
    let new : EndpointView = record { end = c.finish.new.self; handed_on = c.self.inside.handed_on; pending = c.insert.new.self; count = c.self.inside.count + 1; max_pending = c.self.inside.max_pending } in
    let handle : CommandHandle = record { source = c.source-source.result; id = c.id-id.result; number = c.self.inside.count } in
    let back = sym c.self.view_is in
    let front = is_in_front e.end c.reserve.new.self c.put_room.new.self c.keep.new.self c.finish.new.self c.args.now r (waiting m) c.reserve.ensures.same c.put_room.ensures c.keep.ensures c.finish.ensures in
    let rest = finished_is e.end c.reserve.new.self c.put_room.new.self c.keep.new.self c.finish.new.self c.args.now r (waiting m) c.reserve.ensures.same c.put_room.ensures c.keep.ensures c.finish.ensures in
    let pending_is : c.insert.new.self ≡ map.insert e.pending (request_key_of m) (command_at m e.count (task_in c.args.command r.bytes)) = search rules in
    let bound = ap (λ (x : End). x.bounds.sources) c.reserve.ensures.same.same in
    let served = handed_out e new c.args.now r c.args.command reply
    (subst (λ (x : EndpointView). map.get x.pending (request_key_of m) ≡ None) back c.requires.ready.free)
    (subst (λ (x : EndpointView). performs (held_in x) m ≡ true) back c.requires.ready.fresh)
    (subst (λ (x : EndpointView). tasks_of (hands_on x.handed_on) r.bytes ≡ task_in c.args.command r.bytes ∷ []) back c.requires.asked)
    (subst (λ (x : EndpointView). is_full x ≡ false) back (sym c.is_full.ensures ∙ c.if-is_full.false))
    (room_is_within c.reserve.new.self.rows e.end.rows e.end.bounds.sources r.source c.in_ok-reserved.reserved c.reserve.ensures.same.rows c.in_ok-reserved.ensures.ok
    (subst (λ max. IsWithinSources c.reserve.new.self.rows max c.in_ok-reserved.reserved) bound c.in_ok-reserved.ensures.few))
    front (window_is e.end c.reserve.new.self c.put_room.new.self c.keep.new.self c.finish.new.self c.args.now r (waiting m) c.reserve.ensures.same c.put_room.ensures c.keep.ensures c.finish.ensures)
    (has_rows e.end c.reserve.new.self c.put_room.new.self c.keep.new.self c.finish.new.self c.args.now r (waiting m) c.reserve.ensures.same c.put_room.ensures c.keep.ensures c.finish.ensures)
    (sources_are e.end c.reserve.new.self c.put_room.new.self c.keep.new.self c.finish.new.self c.args.now r (waiting m) c.reserve.ensures.same c.put_room.ensures c.keep.ensures c.finish.ensures) rest pending_is refl refl refl in
    let named : c.is_some-is_command.result ≡ is_some c.args.command = search rules in
    let handle_is : handle ≡ handle_of m c.self.inside.count = λ i. record { source = c.source-source.ensures i; id = c.id-id.ensures.value i; number = c.self.inside.count } in
    let step_is : c.asking.result ≡ handing_step (task_in c.args.command r.bytes) (handle_of m c.self.inside.count) =
    c.asking.ensures ∙ (λ i. if named i then Perform (handle_is i) else Respond (handle_is i)) ∙ step_asked c.args.command r.bytes (handle_of m c.self.inside.count) in
    subst (λ (x : EndpointView). HasServed x c.args.now r new reply c.asking.result) c.self.view_is
    (subst (λ (s : MessageStep). HasServed e c.args.now r new reply s) (sym step_is) served)
