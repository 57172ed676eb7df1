use Rattle.std.proofs.Common.{◌≡◌, ℕ, ◌==◌, true, false, Some, if◌then◌else◌, ap, sym, subst, ◌∙◌, rules}
use Rattle.pldm_responder.specs.Answering.{answering}
use Rattle.pldm_responder.specs.Ends.{End, eid_or_null, held_by}
use Rattle.pldm_responder.specs.ResponderStates.{Entry, IsHeld, id_in}
use Rattle.pldm_responder.specs.Recency.{replaced}
use Rattle.pldm_responder.specs.Slots.{kept_in}
use Rattle.pldm_responder.specs.declared.outcome.MessageOutcome.TheVariants.{Answered}
use Rattle.pldm_endpoint.specs.Giving.{IsReplyOf}
use Rattle.pldm_endpoint.specs.RequestKeys.{PendingCommands, pending_at}
use Rattle.pldm_endpoint.specs.TwoSteps.{ArePending, EndpointView, IsAnsweredBy, answered_held}
use Rattle.pldm_endpoint.proofs.AnswersKept.{goes_out, is_kept}
use Rattle.pldm_endpoint.proofs.PendingGlue.{pending_needs_eid, pending_without}
use Rattle.pldm_endpoint.proofs.endpoint.Endpoint.give.Goals as goal

pub invariant_of-self : goal.invariant_of-self
invariant_of-self c =
    let a = c.in-Some.pending.now in
    let entry : Entry = record { moment = a.moment; bytes = a.request; answer = c.args.reply.now } in
    let stored : (source : ℕ) → kept_in c.keep_late.new.self.rows source
    ≡ (if c.args.handle.now.source == source then replaced id_in entry (kept_in c.self.inside.end.rows source) else kept_in c.self.inside.end.rows source) = λ source. search rules in (
      subst (λ (pending : PendingCommands). ArePending c.keep_late.new.self c.self.inside.handed_on pending c.self.inside.count c.self.inside.max_pending) (sym c.remove.ensures)
          (pending_without c.self.inside.handed_on c.self.inside.end c.keep_late.new.self c.self.inside.pending c.self.inside.count c.self.inside.max_pending _ entry
          (search rules) c.requires.some stored c.self.invariant.0),
      λ none. absurd (pending_needs_eid c.self.inside.end.own c.self.inside.pending c.args.handle.now c.self.invariant.1 (search rules) (sym (ap (λ (x : End). x.own) c.keep_late.ensures.rest) ∙ none)),
    )

pub unreachable-requires-in_default-own : goal.unreachable-requires-in_default-own
unreachable-requires-in_default-own c =
    pending_needs_eid c.self.inside.end.own c.self.inside.pending c.args.handle.now c.self.invariant.1 (search rules)
    (sym c.own.ensures ∙ ap eid_or_null c.in_default-own.is)

pub returns-clause-answered : goal.returns-clause-answered
returns-clause-answered c = λ given its is.
    let a = c.in-Some.pending.now in
    let items = c.args.reply.now in
    let handed = c.args.self.now.handed_on in
    let own = c.args.self.now.end.own in
    let found : pending_at c.args.self.now.pending c.args.handle.now ≡ Some a = search rules in
    let made = subst (λ o. IsReplyOf handed given o items c.args.changed) found is in
    let own_is : own ≡ c.in-Some-own.own = search rules in
    let stored : (source : ℕ) → kept_in c.keep_late.new.self.rows source
    ≡ (if c.args.handle.now.source == source then replaced id_in (record { moment = a.moment; bytes = a.request; answer = items })
    (kept_in c.self.inside.end.rows source)
    else kept_in c.self.inside.end.rows source) = λ source. search rules in
    let kept = is_kept handed c.args.handle.now given a _ found items made.0 c.self.inside.end c.keep_late.new.self
    (ap (λ (e : End). record e { rows = c.self.inside.end.rows }) c.keep_late.ensures.rest) c.keep_late.ensures.window stored in
    record {
      its_answer = its;
      outcome_is =
          subst (λ taken. IsAnsweredBy handed own c.args.handle.now given (pending_at c.args.self.now.pending c.args.handle.now) (answering items taken)) (sym c.performed.ensures)
          (subst (λ source. IsAnsweredBy handed own c.args.handle.now given (pending_at c.args.self.now.pending c.args.handle.now)
          (answering items (Answered true c.args.changed (record { destination = c.args.handle.now.source; source = source; owner = false; tag = a.tag })))) own_is
          (goes_out handed c.args.handle.now given a _ found items made.0 own c.args.changed made.1));
      held =
          subst (λ (e : EndpointView). IsHeld (held_by c.keep_late.new.self) (answered_held handed (held_by e.end) c.args.handle.now given (pending_at c.args.self.now.pending c.args.handle.now))) c.self.view_is kept;
      begun = search rules;
      pending = search rules;
      count = search rules;
      room = search rules;
      sources = search rules;
      settings = search rules;
    }
