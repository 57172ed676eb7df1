use Rattle.std.specs.FinMap as map
use Rattle.std.proofs.Common.{◌≡◌, [], ◌∷◌, Some, IfSome, rules, ap, sym, subst, ◌∙◌}
use Rattle.pldm_wire.specs.Answers.{IsAnswerTo, answer_message}
use Rattle.pldm_wire.specs.Commands.{kind_of}
use Rattle.pldm_wire.specs.HandingOn.{hands_on}
use Rattle.pldm_responder.specs.Answering.{answering}
use Rattle.pldm_responder.specs.Asked.{Answered}
use Rattle.pldm_responder.specs.Performing.{Perform, tasks_of}
use Rattle.pldm_endpoint.specs.Giving.{IsReplyOf}
use Rattle.pldm_endpoint.specs.Receiving.{HasAnswered}
use Rattle.pldm_endpoint.specs.RequestKeys.{pending_at, request_key}
use Rattle.pldm_endpoint.specs.TwoSteps.{AnswersCommand, EndpointView, IsItsAnswer, IsWithDevice, task_for, task_in}
use Rattle.pldm_endpoint.proofs.AnswersGiven.{changed, replied}
use Rattle.pldm_endpoint.proofs.PendingGlue.{numbered_is}
use Rattle.pldm_endpoint.proofs.endpoint.Endpoint.answer_message.Goals as goal

pub returns-clause-answered : goal.returns-clause-answered
returns-clause-answered c =
    let a = c.in-Some.pending.now in
    let command = c.in-Some-command.command in
    let handle = c.args.handle.now in
    let handed = c.args.self.now.handed_on in
    let given = Answered c.args.answer.now in
    let found : pending_at c.args.self.now.pending handle ≡ Some a = search rules in
    let inside : pending_at c.self.inside.pending handle ≡ Some a = search rules in
    let key = request_key handle.source handle.id in
    let known : IsWithDevice c.self.inside.handed_on c.self.inside.count key a =
    subst (λ o. IfSome o (IsWithDevice c.self.inside.handed_on c.self.inside.count key)) (numbered_is handle.number (map.get c.self.inside.pending key) a inside).0 (c.self.invariant.0.each key) in
    let named : a.command ≡ Some command = search rules in
    let asked : tasks_of (hands_on handed) a.request ≡ Perform command ∷ [] =
    subst (λ (e : EndpointView). tasks_of (hands_on e.handed_on) a.request ≡ task_for a ∷ []) c.self.view_is known.task ∙ ap (λ o. task_in o a.request ∷ []) named in
    let its : IsAnswerTo (kind_of command) c.args.answer.now = search rules in
    let items_is : c.deref.result.now ≡ c.put_reply-changed.new.reply.items = search rules in
    let reply_is = items_is ∙ c.put_reply-changed.ensures.reply ∙ ap (λ id. answer_message id (kind_of command) c.args.answer.now) (sym known.id) ∙ sym (replied handed a.request command c.args.answer.now asked) in
    let changed_is = c.put_reply-changed.ensures.changed ∙ sym (changed handed a.request command c.args.answer.now asked) in
    subst (λ items. HasAnswered c.args.self.now handle given c.give.new.self (answering items c.give.result)) items_is
    (c.give.ensures.answered given
    (subst (λ o. IsItsAnswer o given) (sym found) (subst (λ o. AnswersCommand o c.args.answer.now) (sym named) its))
    (subst (λ o. IsReplyOf handed given o c.deref.result.now c.put_reply-changed.result) (sym found) (reply_is, changed_is)))
