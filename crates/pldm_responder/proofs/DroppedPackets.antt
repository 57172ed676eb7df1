-- What a packet brought that these bytes are, and that a packet that is dropped was received.
use Rattle.std.proofs.Common.{◌≡◌, ℕ, List, [], Ok, refl, sym, ap, subst}
use Rattle.mctp_packet.specs.Packets.{Packet}
use Rattle.mctp_packet.specs.declared.reason.Reason.{Reason}
use Rattle.pldm_wire.specs.declared.command.Command.{Command}
use Rattle.pldm_responder.specs.Arrivals.{Drop, request_packet}
use Rattle.pldm_responder.specs.Ends.{End, has_row}
use Rattle.pldm_responder.specs.Fitting.{ArrivalFits}
use Rattle.pldm_responder.specs.ResponderStates.{IsHeld}
use Rattle.pldm_responder.specs.Looking.{HasArrived, end_after}
use Rattle.pldm_responder.specs.OpenOrder.{open_passed}
use Rattle.pldm_responder.specs.Performing.{Rules}
use Rattle.pldm_responder.specs.Receiving.{HasReceived}
use Rattle.pldm_responder.specs.Rooms.{AreRowsAfter}
use Rattle.pldm_responder.specs.Slots.{kept_in, source_count}
use Rattle.pldm_responder.specs.ResponderViews.{ResponderView, held_of}
use Rattle.pldm_responder.specs.Steps.{arrival_commands, arrival_held, arrival_outcome, open_after, received_arrival}
use Rattle.pldm_responder.specs.declared.arriving.Disposition.{Disposition}
use Rattle.pldm_responder.specs.declared.outcome.Outcome.TheVariants.{Dropped}

-- what the packet of these bytes brought is what the bytes did
pub arrived_in : (old : End) (moment : ℕ) (bytes : List ℕ) (new : End) (arrived : Disposition) {p : Packet} → request_packet old.own bytes ≡ Ok p
    → HasArrived old moment (Ok p) new arrived → HasArrived old moment (request_packet old.own bytes) new arrived
arrived_in old moment bytes new arrived is has = subst (λ read. HasArrived old moment read new arrived) (sym is) has

pub received_where_dropped : {P S : Type 0} (performing : P → List Command → P → Type 0) (inside old : ResponderView P S) (moment : ℕ) (bytes : List ℕ) (end : End) (device : Rules S) (reason : Reason)
    → inside ≡ old → Drop reason ≡ received_arrival (held_of inside) moment bytes → end ≡ end_after inside.end moment bytes
    → open_passed inside.end (request_packet inside.end.own bytes) ≡ open_after inside.end.open_messages (request_packet inside.end.own bytes)
    → performing inside.platform [] inside.platform
    → HasReceived performing old moment bytes (record inside { end = end }) device (Dropped reason)
received_where_dropped performing inside old moment bytes end device reason view arrives left left_open none =
    subst (λ station. HasReceived performing station moment bytes (record inside { end = end }) device (Dropped reason)) view (record {
      outcome_is = ap (arrival_outcome device (held_of inside)) arrives;
      held =
          subst (λ h. IsHeld (held_of (record inside { end = end })) h)
          (λ i. record (arrival_held device (held_of inside) (arrives i)) { open_messages = left_open i; last = moment })
          (record {
            own = ap (λ (e : End). e.own) left;
            busy = ap (λ (e : End). e.busy) left;
            window = ap (λ (e : End). e.rows.window) left;
            keep = ap (λ (e : End). e.keep) left;
            open_messages = ap (λ (e : End). e.open_messages) left;
            kept = λ source. ap (λ (e : End). kept_in e.rows source) left;
            state = refl;
            serves_from = ap (λ (e : End). e.serves_from) left;
            last = ap (λ (e : End). e.last) left;
          });
      performed = subst (λ a. performing inside.platform (arrival_commands (held_of inside) a) inside.platform) arrives none;
      fits = subst (λ a. ArrivalFits device (held_of inside) a) arrives tt;
      room = subst (λ a. AreRowsAfter (held_of inside) inside.end.rows a end.rows) arrives (record {
        each = λ source. ap (λ (e : End). has_row e.rows source) left;
        sources = ap (λ (e : End). source_count e.rows) left;
      });
      bounds = ap (λ (e : End). e.bounds) left;
    })
