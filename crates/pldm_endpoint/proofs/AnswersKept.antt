-- What an endpoint is after the device has given what is pending.
use Rattle.std.proofs.Common.{◌≡◌, ℕ, Bool, ◌==◌, true, List, Option, Some, if◌then◌else◌, refl, sym, ap, ◌∙◌, subst}
use Rattle.pldm_wire.specs.HandingOn.{hands_on}
use Rattle.pldm_wire.specs.declared.pass_through.PassThrough.{PassThrough}
use Rattle.pldm_responder.specs.Answering.{answering}
use Rattle.pldm_responder.specs.Arrivals.{message_of, way_back}
use Rattle.pldm_responder.specs.Asked.{Given, gives}
use Rattle.pldm_responder.specs.Ends.{End, held_by}
use Rattle.pldm_responder.specs.ResponderStates.{IsHeld, id_in}
use Rattle.pldm_responder.specs.Performing.{changes, reply}
use Rattle.pldm_responder.specs.Recency.{replaced}
use Rattle.pldm_responder.specs.Slots.{kept_in}
use Rattle.pldm_responder.specs.declared.outcome.MessageOutcome.TheVariants.{Answered}
use Rattle.pldm_endpoint.specs.TwoSteps.{IsAnsweredBy, answered_held}
use Rattle.pldm_endpoint.specs.declared.pending_commands.PendingCommand.{PendingCommand}
use Rattle.pldm_endpoint.specs.declared.step.CommandHandle.{CommandHandle}

module _ (handed : PassThrough) (handle : CommandHandle) (given : Given) (a : PendingCommand) (o : Option PendingCommand) (is : o ≡ Some a)
    (bytes : List ℕ) (bytes_are : bytes ≡ reply (gives (hands_on handed) given) tt a.request) where
  -- what goes out
  pub goes_out : (own : ℕ) (changed : Bool) → changed ≡ changes (gives (hands_on handed) given) tt a.request
      → IsAnsweredBy handed own handle given o (answering bytes (Answered true changed (way_back own (message_of handle.source a.tag 0 a.request))))
  goes_out own changed changed_is =
      subst (λ x. IsAnsweredBy handed own handle given x (answering bytes (Answered true changed (way_back own (message_of handle.source a.tag 0 a.request))))) (sym is)
      (λ i. answering (bytes_are i) (Answered true (changed_is i) (way_back own (message_of handle.source a.tag 0 a.request))))

  -- what is kept
  pub is_kept : (end new : End) → record new { rows = end.rows } ≡ end → new.rows.window ≡ end.rows.window
      → ((source : ℕ) → kept_in new.rows source ≡ (if handle.source == source then replaced id_in (record { moment = a.moment; bytes = a.request; answer = bytes }) (kept_in end.rows source) else kept_in end.rows source))
      → IsHeld (held_by new) (answered_held handed (held_by end) handle given o)
  is_kept end new rest window kept =
      subst (λ x. IsHeld (held_by new) (answered_held handed (held_by end) handle given x)) (sym is) (record {
        own = ap (λ (e : End). e.own) rest;
        busy = ap (λ (e : End). e.busy) rest;
        window = window;
        keep = ap (λ (e : End). e.keep) rest;
        open_messages = ap (λ (e : End). e.open_messages) rest;
        kept = λ source. kept source ∙ ap (λ answer. if handle.source == source then replaced id_in (record { moment = a.moment; bytes = a.request; answer = answer }) (kept_in end.rows source) else kept_in end.rows source) bytes_are;
        state = refl;
        serves_from = ap (λ (e : End). e.serves_from) rest;
        last = ap (λ (e : End). e.last) rest;
      })
