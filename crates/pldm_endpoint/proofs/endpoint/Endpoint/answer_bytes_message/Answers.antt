use Rattle.std.specs.FinMap as map
use Rattle.std.proofs.Common.{◌≡◌, ◌==◌, false, [], ◌∷◌, Option, Some, None, IfSome, is_some, rules, ap, sym, subst, ◌∙◌}
use Rattle.pldm_wire.specs.HandingOn.{hands_on}
use Rattle.pldm_wire.specs.Headers.{kind_at}
use Rattle.pldm_wire.specs.Messages.{response_message}
use Rattle.pldm_wire.specs.Requests.{Request}
use Rattle.pldm_wire.specs.declared.assigned.TheConstants.{SUCCESS}
use Rattle.pldm_responder.specs.Answering.{answering}
use Rattle.pldm_responder.specs.Performing.{Respond, Response, tasks_of}
use Rattle.pldm_endpoint.specs.Giving.{IsReplyOf, response_of}
use Rattle.pldm_endpoint.specs.Receiving.{HasAnswered}
use Rattle.pldm_endpoint.specs.RequestKeys.{pending_at, request_key}
use Rattle.pldm_endpoint.specs.TwoSteps.{EndpointView, IsItsAnswer, IsWithDevice, request_at, task_for, task_in}
use Rattle.pldm_endpoint.proofs.AnswersGiven.{responded, response_changed}
use Rattle.pldm_endpoint.proofs.PendingGlue.{numbered_is}
use Rattle.pldm_endpoint.proofs.endpoint.Endpoint.answer_bytes_message.Goals as goal

none_of : {A : Type 0} (o : Option A) → is_some o ≡ false → o ≡ None
none_of None h = ap (λ _. None) h
none_of (Some x) h = cc

pub returns-clause-answered : goal.returns-clause-answered
returns-clause-answered c =
    let a = c.in-Some.pending.now in
    let handle = c.args.handle.now in
    let handed = c.args.self.now.handed_on in
    let given = response_of c.args.code c.args.rest.now in
    let response : Response = record { code = c.args.code; rest = c.args.rest.now } in
    let found : pending_at c.args.self.now.pending handle ≡ Some a = search rules in
    let inside : pending_at c.self.inside.pending handle ≡ Some a = search rules in
    let key = request_key handle.source handle.id in
    let known : IsWithDevice c.self.inside.handed_on c.self.inside.count key a =
    subst (λ o. IfSome o (IsWithDevice c.self.inside.handed_on c.self.inside.count key)) (numbered_is handle.number (map.get c.self.inside.pending key) a inside).0 (c.self.invariant.0.each key) in
    let unnamed : is_some a.command ≡ false = search rules in
    let none : a.command ≡ None = none_of a.command unnamed in
    let asked : tasks_of (hands_on handed) a.request ≡ Respond (request_at a.request) ∷ [] =
    subst (λ (e : EndpointView). tasks_of (hands_on e.handed_on) a.request ≡ task_for a ∷ []) c.self.view_is known.task ∙ ap (λ o. task_in o a.request ∷ []) none in
    let items_is : c.deref.result.now ≡ c.put_response.new.body.items = search rules in
    let kind_is : c.kind.result ≡ kind_at a.request = c.kind.ensures.value ∙ ap (λ (r : Request). r.kind) c.request.ensures.value in
    let reply_is = items_is ∙ c.put_response.ensures.spelled
    ∙ (λ i. response_message 0 (sym known.id i) (kind_is i) c.args.code c.args.rest.now)
    ∙ sym (responded handed a.request response asked) in
    subst (λ items. HasAnswered c.args.self.now handle given c.give.new.self (answering items c.give.result)) items_is
    (c.give.ensures.answered given
    (subst (λ o. IsItsAnswer o given) (sym found) none)
    (subst (λ o. IsReplyOf handed given o c.deref.result.now (c.args.code == SUCCESS)) (sym found) (reply_is, sym (response_changed handed a.request response asked))))
