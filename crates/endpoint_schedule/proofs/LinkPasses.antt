-- A packet that brings no whole request comes to the endpoint: what is known stays.
use Rattle.std.specs.FinMap as map
use Rattle.std.proofs.Common.{◌≡◌, ℕ, ◌+◌, ◌≤◌, List, [], ◌∷◌, length, Option, Some, None, refl, sym, ap, ◌∙◌, subst, arith}
use Rattle.mctp_assembly.specs.Steps as assembly
use Rattle.mctp_assembly.specs.declared.key.Key.{Key}
use Rattle.pldm_endpoint.specs.Histories.{with_ended}
use Rattle.pldm_endpoint.specs.Receiving.{HasReceived}
use Rattle.pldm_endpoint.specs.RequestKeys.{request_key, request_key_cmp}
use Rattle.pldm_endpoint.specs.TwoSteps.{EndpointView, asked_now, count_after, held_after, held_in, pending_after, pending_by, request_in}
use Rattle.pldm_endpoint.specs.declared.pending_commands.PendingCommand.{PendingCommand}
use Rattle.pldm_endpoint.specs.declared.step.Step as endpoint_steps
use Rattle.pldm_endpoint.proofs.AnswersInTurn.{ended_in_turn, received_in_turn, same_in_turn}
use Rattle.pldm_endpoint.proofs.ByParts.{IsLeftByParts}
use Rattle.pldm_endpoint.proofs.CallsInTurn.{free_where_accepted}
use Rattle.pldm_responder.specs.Arrivals.{Arrival, Drop, Part, Whole, passed_arrival, request_packet}
use Rattle.pldm_responder.specs.Asked.{Given}
use Rattle.pldm_responder.specs.Calls.{Call, Received, arrived, events, fed, with_arrival}
use Rattle.pldm_responder.specs.Events.{Event}
use Rattle.pldm_responder.specs.Looking.{ended_by}
use Rattle.pldm_responder.specs.OpenOrder.{ended_held}
use Rattle.pldm_responder.specs.OutsideAnswers.{message_in}
use Rattle.pldm_responder.specs.Performing.{Task, tasks_of}
use Rattle.pldm_responder.specs.ResponderStates.{IsHeld, ResponderState}
use Rattle.pldm_responder.specs.Steps.{arrival_asks, received_arrival}
use Rattle.pldm_responder.proofs.CallsLookBack.{passed_brings}
use Rattle.pldm_wire.specs.HandingOn.{hands_on}
use Rattle.pldm_wire.specs.declared.restart_policy.RestartPolicy.TheVariants.{All}
use Rattle.mctp_schedule.specs.Logs.{reached}
use Rattle.mctp_schedule.specs.Actions.{Step}
use Rattle.endpoint_schedule.specs.Links.{Link, LinkSettings}
use Rattle.endpoint_schedule.proofs.LinkReceives.{Laws}
use Rattle.endpoint_schedule.proofs.LinkState.{Holds, stays_scheduled}

-- ---- no message is no event, and asks nothing
no_event : {S : Type 0} (a : Arrival) (es : List (Event S)) → message_in a ≡ None → with_arrival a es ≡ es
no_event (Drop reason) es none = refl
no_event Part es none = refl
no_event (Whole m) es none = absurd (cc)

asks_nothing : (held : ResponderState (Unit {0})) (asks : List ℕ → List Task) (a : Arrival) → message_in a ≡ None → arrival_asks held asks a ≡ []
asks_nothing held asks (Drop reason) none = refl
asks_nothing held asks Part none = refl
asks_nothing held asks (Whole m) none = absurd (cc)

same_events : (ended : Option Key) (own : ℕ) (calls : List (Call ℕ)) → events own (with_ended ended calls) ≡ events own calls
same_events None own calls = refl
same_events (Some key) own calls = refl

module _ (settings : LinkSettings) (answers : ℕ → Given) (laws : Laws) (l : Link) (before : ℕ) (steps : List Step) (holds : Holds settings answers l before steps) (moment : ℕ) (later : before ≤ moment)
    (bytes : List ℕ) (new : EndpointView) (step : endpoint_steps.Step) (has : HasReceived l.end moment bytes new step) (none : request_in (held_in l.end) moment bytes ≡ None) where
  abbrev held : ResponderState (Unit {0})
  held = held_in l.end

  abbrev calls : List (Call ℕ)
  calls = holds.end.calls

  abbrev LeftBy : ℕ → map.FinMap request_key_cmp PendingCommand → ResponderState (Unit {0}) → List (Call ℕ) → Type 0
  LeftBy = IsLeftByParts holds.end.own settings.handed_on All settings.window settings.keep answers

  parts : LeftBy l.end.count l.end.pending held calls
  parts = holds.end.parts

  -- ---- it asks nothing
  none_asked : asked_now settings.handed_on held moment bytes ≡ []
  none_asked = asks_nothing held (tasks_of (hands_on settings.handed_on)) (received_arrival held moment bytes) none

  same_count : new.count ≡ l.end.count
  same_count =
      has.count ∙ ap (λ h. count_after h held moment bytes l.end.count) holds.end.handed_on
      ∙ ap (λ (tasks : List Task). l.end.count + length tasks) none_asked ∙ omega arith

  same_pending : new.pending ≡ l.end.pending
  same_pending =
      has.pending ∙ ap (λ h. pending_after h held moment bytes l.end.pending l.end.count) holds.end.handed_on
      ∙ ap (λ m. pending_by l.end.pending l.end.count m (asked_now settings.handed_on held moment bytes)) none

  -- ---- what the endpoint holds
  abbrev calls_now : List (Call ℕ)
  calls_now = with_ended (ended_by l.end.end bytes) (Received moment bytes ∷ calls)

  ended_parts : (ended : Option Key) (count : ℕ) (pending : map.FinMap request_key_cmp PendingCommand) (h : ResponderState (Unit {0})) (cs : List (Call ℕ)) → LeftBy count pending h cs → LeftBy count pending (ended_held ended h) (with_ended ended cs)
  ended_parts None count pending h cs x = x
  ended_parts (Some key) count pending h cs x = ended_in_turn laws.forgets holds.end.own settings.handed_on All settings.window settings.keep answers count pending h cs key x

  abbrev held_now : ResponderState (Unit {0})
  held_now = ended_held (ended_by l.end.end bytes) (held_after settings.handed_on held moment bytes)

  parts_passed : LeftBy (count_after settings.handed_on held moment bytes l.end.count) (pending_after settings.handed_on held moment bytes l.end.pending l.end.count) held_now calls_now
  parts_passed =
      ended_parts (ended_by l.end.end bytes) _ _ _ (Received moment bytes ∷ calls)
      (received_in_turn laws.feeds holds.end.own settings.handed_on All settings.window settings.keep answers l.end.count l.end.pending held calls moment bytes parts (free_where_accepted l.end moment bytes has.accepted))

  parts_now : LeftBy new.count new.pending (held_in new) calls_now
  parts_now =
      same_in_turn holds.end.own settings.handed_on All settings.window settings.keep answers new.count new.pending (held_in new) held_now calls_now
      (subst (λ h. IsHeld (held_in new) (ended_held (ended_by l.end.end bytes) (held_after h held moment bytes))) holds.end.handed_on has.held)
      (subst (λ n. LeftBy n new.pending held_now calls_now) (sym (has.count ∙ ap (λ h. count_after h held moment bytes l.end.count) holds.end.handed_on))
      (subst (λ p. LeftBy (count_after settings.handed_on held moment bytes l.end.count) p held_now calls_now) (sym (has.pending ∙ ap (λ h. pending_after h held moment bytes l.end.pending l.end.count) holds.end.handed_on)) parts_passed))

  own_is : held.own ≡ holds.end.own
  own_is = parts.left.endpoint

  arrives_back : arrived holds.end.own calls moment bytes ≡ received_arrival held moment bytes
  arrives_back =
      sym (ap (λ own. passed_arrival (assembly.answer held.open_messages) moment (request_packet own bytes)) own_is
      ∙ passed_brings laws.feeds held.open_messages (fed holds.end.own calls) moment (request_packet holds.end.own bytes) parts.left.open_messages)

  events_now : events holds.end.own calls_now ≡ reached {S = ℕ} l.world.log
  events_now =
      same_events (ended_by l.end.end bytes) holds.end.own (Received moment bytes ∷ calls)
      ∙ no_event (arrived holds.end.own calls moment bytes) (events holds.end.own calls) (ap message_in arrives_back ∙ none)
      ∙ holds.end.events

  pub passes_holds : Holds settings answers (record l { end = new }) moment steps
  passes_holds = record {
    known = record {
      sent = holds.known.sent;
      not_ready = holds.known.not_ready;
      pending = λ s i a is. holds.known.pending s i a (ap (λ p. map.get p (request_key s i)) (sym same_pending) ∙ is);
      fine = holds.known.fine;
    };
    end = record {
      calls = calls_now;
      own = holds.end.own;
      assigned = holds.end.assigned;
      parts = parts_now;
      asked_here = λ s i a is. holds.end.asked_here s i a (ap (λ p. map.get p (request_key s i)) (sym same_pending) ∙ is);
      handed_on = has.settings.handed_on ∙ holds.end.handed_on;
      events = events_now;
      listed = holds.end.listed;
    };
    as_scheduled = stays_scheduled settings answers l _ before moment steps refl later holds.as_scheduled;
  }
