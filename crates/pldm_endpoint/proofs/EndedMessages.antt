-- What is open after a packet is what assembly leaves, but for the message that ended for it.
use Rattle.std.proofs.Common.{◌≡◌, ℕ, ◌+◌, Bool, true, false, List, length, Some, Ok, Err, if◌then◌else◌, refl, sym, ap, subst, ◌∙◌, arith}
use Rattle.std.specs.Prelude.{Result}
use Rattle.mctp_packet.specs.Packets.{Packet}
use Rattle.mctp_packet.specs.declared.reason.Reason.{Reason}
use Rattle.pldm_wire.specs.HandingOn.{hands_on}
use Rattle.pldm_responder.specs.Arrivals.{Drop, request_packet}
use Rattle.pldm_responder.specs.Asked.{gives}
use Rattle.pldm_responder.specs.Ends.{End, has_row}
use Rattle.pldm_responder.specs.Looking.{end_after, is_past_open}
use Rattle.pldm_responder.specs.OpenOrder.{ended_passed, open_passed, without}
use Rattle.pldm_responder.specs.OutsideAnswers.{message_in}
use Rattle.pldm_responder.specs.Rooms.{AreRowsAfter}
use Rattle.pldm_responder.specs.Slots.{kept_in, source_count}
use Rattle.pldm_responder.specs.Steps.{arrival_outcome, open_after, received_arrival}
use Rattle.pldm_responder.specs.declared.outcome.Outcome.TheVariants.{Dropped}
use Rattle.pldm_endpoint.specs.Receiving.{HasReceived}
use Rattle.pldm_endpoint.specs.Refusing.{refused_request}
use Rattle.pldm_endpoint.specs.TwoSteps.{EndpointView, arrival_tasks, held_in, pending_by, request_in, step_by, stepped, unasked}
use Rattle.pldm_endpoint.specs.declared.step.ReceiveRefusal.TheVariants.{OpenMessages}
use Rattle.pldm_endpoint.specs.declared.step.Step.TheVariants.{Done}

pub open_is : (end : End) (read : Result Packet Reason) → open_passed end read ≡ without (ended_passed end read) (open_after end.open_messages read)
open_is end (Ok p) = refl
open_is end (Err reason) = refl

pub not_true : (t : Bool) → (t ≡ true → ⊥) → t ≡ false
not_true true h = absurd (h refl)
not_true false h = refl

-- a packet that is dropped
pub dropped_is : (inside old : EndpointView) (new : End) (moment : ℕ) (bytes : List ℕ) (reason : Reason) → inside ≡ old
    → Drop reason ≡ received_arrival (held_in inside) moment bytes → new ≡ end_after inside.end moment bytes → (is_past_open inside.end bytes ≡ true → ⊥)
    → HasReceived old moment bytes (record inside { end = new }) (Done (Dropped reason))
dropped_is inside old new moment bytes reason view arrives left closed =
    let held = held_in inside in
    subst (λ e. HasReceived e moment bytes (record inside { end = new }) (Done (Dropped reason))) view (record {
      accepted =
          ap (λ t. if t then Some OpenMessages else refused_request inside (request_in held moment bytes)) (not_true (is_past_open inside.end bytes) closed)
          ∙ ap (λ a. refused_request inside (message_in a)) (sym arrives);
      step_is = ap (λ a. step_by (arrival_outcome (gives (hands_on inside.handed_on) unasked) held a) inside.count (message_in a) (arrival_tasks inside.handed_on held a)) arrives;
      command = ap (arrival_tasks inside.handed_on held) (sym arrives);
      held = record {
        own = ap (λ (e : End). e.own) left ∙ ap (λ a. (stepped inside.handed_on held a).own) arrives;
        busy = ap (λ (e : End). e.busy) left ∙ ap (λ a. (stepped inside.handed_on held a).busy) arrives;
        window = ap (λ (e : End). e.rows.window) left ∙ ap (λ a. (stepped inside.handed_on held a).window) arrives;
        keep = ap (λ (e : End). e.keep) left ∙ ap (λ a. (stepped inside.handed_on held a).keep) arrives;
        open_messages = ap (λ (e : End). e.open_messages) left ∙ open_is inside.end (request_packet inside.end.own bytes);
        kept = λ source. ap (λ (e : End). kept_in e.rows source) left ∙ ap (λ a. (stepped inside.handed_on held a).kept source) arrives;
        state = refl;
        serves_from = ap (λ (e : End). e.serves_from) left ∙ ap (λ a. (stepped inside.handed_on held a).serves_from) arrives;
        last = ap (λ (e : End). e.last) left;
      };
      begun = ap (λ (e : End). e.begun) left;
      pending = ap (λ a. pending_by inside.pending inside.count (message_in a) (arrival_tasks inside.handed_on held a)) arrives;
      count = plus_none inside.count ∙ ap (λ a. inside.count + length (arrival_tasks inside.handed_on held a)) arrives;
      room = subst (λ a. AreRowsAfter held inside.end.rows a new.rows) arrives (record {
        each = λ source. ap (λ (e : End). has_row e.rows source) left;
        sources = ap (λ (e : End). source_count e.rows) left;
      });
      settings = record { handed_on = refl; bounds = ap (λ (e : End). e.bounds) left; ends_oldest = ap (λ (e : End). e.ends_oldest) left; max_pending = refl };
    })
  where
    plus_none : (n : ℕ) → n ≡ n + 0
    plus_none n = omega arith
