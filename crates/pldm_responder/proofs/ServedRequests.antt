-- The instance ID of a request, and what follows at an error exit.
use Rattle.std.proofs.Common.{◌≡◌, ℕ, Bool, true, false, not, ◌&&◌, ◌||◌, ◌==◌, List, [], Option, Some, None, Result, Ok, Err, OnErr, IfOk, if◌then◌else◌, refl, sym, ◌∙◌, ap, subst}
use Rattle.std.proofs.lemmas.Bool.{and_parts, not-true}
use Rattle.mctp_packet.specs.Reading.{unless}
use Rattle.mctp_packet.specs.declared.reason.Reason.{Reason}
use Rattle.pldm_wire.specs.Headers.{id_at}
use Rattle.pldm_wire.specs.declared.command.Command.{Command}
use Rattle.pldm_wire.specs.Requests.{Request, request_of, request_refusal}
use Rattle.pldm_responder.specs.Answering.{answering}
use Rattle.pldm_responder.specs.Arrivals.{Whole, packets_back, request_packet, way_back}
use Rattle.pldm_responder.specs.Ends.{End, count_with, has_row}
use Rattle.pldm_responder.specs.Events.{Message}
use Rattle.pldm_responder.specs.Fitting.{ArrivalFits, Fits}
use Rattle.pldm_responder.specs.ResponderStates.{Entry, ResponderState, IsHeld}
use Rattle.pldm_responder.specs.Looking.{end_finished, message_at}
use Rattle.pldm_responder.specs.Performing.{Rules, busy_reply, changes, commands_of, next, reply}
use Rattle.pldm_responder.specs.Receiving.{HasReceived}
use Rattle.pldm_responder.specs.Requested.{Requested}
use Rattle.pldm_responder.specs.Rooms.{AreRowsAfter}
use Rattle.pldm_responder.specs.Serving.{IsPerformed, IsServed}
use Rattle.pldm_responder.specs.Slots.{kept_in, source_count}
use Rattle.pldm_responder.specs.ResponderViews.{ResponderView, held_of}
use Rattle.pldm_responder.specs.Steps.{arrival_commands, arrival_held, arrival_outcome, copied_packets, entry_for, message_outcome, open_after, performs, received_arrival, refuses_now, repeats, served}
use Rattle.pldm_responder.specs.declared.outcome.MessageOutcome.{MessageOutcome}
use Rattle.pldm_responder.specs.declared.outcome.MessageOutcome.TheVariants as message
use Rattle.pldm_responder.specs.declared.outcome.Outcome.TheVariants.{Answered}

-- what holds at an error exit gives what follows from it
pub on_error : {T E F G : Type 0} (r : Result T E) → (F → G) → OnErr r F → OnErr r G
on_error (Ok x) gives h = tt
on_error (Err e) gives h = gives h

-- and at an exit with a value
pub on_ok : {T E : Type 0} {F G : T → Type 0} (r : Result T E) → ((x : T) → F x → G x) → IfOk r F → IfOk r G
on_ok (Ok x) gives h = gives x h
on_ok (Err e) gives h = tt

passed_id : (refusal : Option Reason) (read request : Request) → unless refusal read ≡ Ok request → request.id ≡ read.id
passed_id None read request h = cc
passed_id (Some reason) read request h = cc

pub id_of_request : (bytes : List ℕ) (request : Request) → request_of bytes ≡ Ok request → request.id ≡ id_at bytes
unfolding request_of
id_of_request bytes request h = passed_id (request_refusal bytes) _ request h

-- a request that was served is a packet that was received, where the packet arrives as it and leaves open what
-- assembly leaves
pub received_where_served : {P S : Type 0} (performing : P → List Command → P → Type 0) (mid inside old : ResponderView P S) (moment : ℕ) (bytes : List ℕ) (new : ResponderView P S) (device : Rules S)
    (r : Requested) (reply : List ℕ) (taken : MessageOutcome) → mid ≡ inside → inside ≡ old
    → Whole (message_at moment r) ≡ received_arrival (held_of inside) moment bytes
    → (end_finished inside.end moment r).open_messages ≡ open_after inside.end.open_messages (request_packet inside.end.own bytes)
    → IsServed performing mid moment r new device reply taken → HasReceived performing old moment bytes new device (answering reply taken)
received_where_served performing mid inside old moment bytes new device r reply taken same view arrives left served =
    let is = subst (λ station. IsServed performing station moment r new device reply taken) same served in
    subst (λ station. HasReceived performing station moment bytes new device (answering reply taken)) view (record {
      outcome_is = is.outcome_is ∙ ap (arrival_outcome device (held_of inside)) arrives;
      held =
          subst (λ h. IsHeld (held_of new) h)
          (λ i. record (arrival_held device (held_of inside) (arrives i)) { open_messages = left i; last = moment }) is.held;
      performed = subst (λ a. performing inside.platform (arrival_commands (held_of inside) a) new.platform) arrives is.performed;
      fits = subst (λ a. ArrivalFits device (held_of inside) a) arrives is.fits;
      room = subst (λ a. AreRowsAfter (held_of inside) inside.end.rows a new.end.rows) arrives is.room;
      bounds = is.bounds;
    })

-- ---- a fresh request was performed
where_done : {A : Type 0} (of p : Bool) (x y : A) → p ≡ true → (if of then x else y) ≡ (if of && p then x else y)
where_done true true x y h = refl
where_done true false x y h = cc
where_done false p x y h = refl

no_packets : (own keep : ℕ) (m : Message) (e : Option Entry) → repeats keep m e ≡ false → copied_packets own keep m e ≡ None
no_packets own keep m None h = refl
no_packets own keep m (Some e) h = ap (λ t. if t then Some (packets_back own m e.answer) else None) h

pub performed_outcome : {S : Type 0} (device : Rules S) (held : ResponderState S) (m : Message) → performs held m ≡ true
    → message_outcome device held m ≡ Answered true (changes device held.state m.bytes) (packets_back held.own m (reply device held.state m.bytes))
performed_outcome device held m done =
    let parts = and_parts (not (refuses_now held m)) (not (repeats held.keep m (entry_for held m))) done in
    ap (λ t. if t then Answered false false (packets_back held.own m (busy_reply m.bytes)) else served device held m (copied_packets held.own held.keep m (entry_for held m)))
    (not-true (refuses_now held m) parts.0)
    ∙ ap (served device held m) (no_packets held.own held.keep m (entry_for held m) (not-true (repeats held.keep m (entry_for held m)) parts.1))

pub served_where_performed : {P S : Type 0} (performing : P → List Command → P → Type 0) (old mid new : ResponderView P S) (moment : ℕ) (r : Requested) (device : Rules S) (answer : List ℕ) (changed : Bool)
    → performs (held_of old) (message_at moment r) ≡ true → IsPerformed performing old moment r mid device answer changed
    → new.end ≡ end_finished mid.end moment r → new.platform ≡ mid.platform → new.state ≡ mid.state
    → IsServed performing old moment r new device answer (message.Answered true changed (way_back old.end.own (message_at moment r)))
served_where_performed performing old mid new moment r device answer changed fresh is end_is platform_is state_is =
    let m = message_at moment r in
    record {
      outcome_is =
          (λ i. Answered true (is.changed_is i) (packets_back old.end.own m (is.answer_is i)))
          ∙ sym (performed_outcome device (held_of old) m fresh);
      some = is.fits.0;
      held = record {
        own = ap (λ (e : End). e.own) end_is ∙ ap (λ (e : End). e.own) is.rest;
        busy = ap (λ (e : End). e.busy) end_is ∙ ap (λ (e : End). e.busy) is.rest;
        window = ap (λ (e : End). e.rows.window) end_is ∙ is.window;
        keep = ap (λ (e : End). e.keep) end_is ∙ ap (λ (e : End). e.keep) is.rest;
        open_messages = ap (λ (e : End). e.open_messages) end_is ∙ ap (λ (e : End). (end_finished e moment r).open_messages) is.rest;
        kept = λ source. ap (λ (e : End). kept_in e.rows source) end_is ∙ is.kept source ∙ where_done (r.source == source) (performs (held_of old) m) _ _ fresh;
        state = state_is ∙ is.state ∙ sym (ap (λ t. if t then next device old.state r.bytes else old.state) fresh);
        serves_from = ap (λ (e : End). e.serves_from) end_is ∙ ap (λ (e : End). e.serves_from) is.rest;
        last = ap (λ (e : End). e.last) end_is;
      };
      performed =
          subst (λ p. performing old.platform (arrival_commands (held_of old) (Whole m)) p) (sym platform_is)
          (subst (λ t. performing old.platform (if t then commands_of r.bytes else []) mid.platform) (sym fresh) is.performed);
      fits = λ _. subst Fits is.answer_is is.fits;
      room = record {
        each = λ source. ap (λ (e : End). has_row e.rows source) end_is ∙ is.rows source ∙ sym (ap (λ t. has_row old.end.rows source || t && r.source == source) fresh);
        sources = ap (λ (e : End). source_count e.rows) end_is ∙ is.sources ∙ sym (ap (λ t. if t then count_with old.end.rows r.source else source_count old.end.rows) fresh);
      };
      bounds = ap (λ (e : End). e.bounds) end_is ∙ ap (λ (e : End). e.bounds) is.rest;
    }
