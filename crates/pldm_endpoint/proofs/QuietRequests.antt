-- A request that is not performed changes nothing that is held but its open packets and the moment.
use Rattle.std.proofs.Common.{◌≡◌, ℕ, Bool, true, false, ◌&&◌, ◌==◌, [], if◌then◌else◌, refl, sym, ap, ◌∙◌}
use Rattle.std.specs.Prelude.{take}
use Rattle.pldm_wire.specs.HandingOn.{hands_on}
use Rattle.pldm_wire.specs.declared.pass_through.PassThrough.{PassThrough}
use Rattle.pldm_responder.specs.Arrivals.{Whole}
use Rattle.pldm_responder.specs.Asked.{gives}
use Rattle.pldm_responder.specs.Ends.{End, held_by}
use Rattle.pldm_responder.specs.Events.{Message}
use Rattle.pldm_responder.specs.ResponderStates.{ResponderState, IsHeld, id_in}
use Rattle.pldm_responder.specs.Looking.{end_finished, message_at}
use Rattle.pldm_responder.specs.Performing.{tasks_of}
use Rattle.pldm_responder.specs.Recency.{renewed}
use Rattle.pldm_responder.specs.Requested.{Requested}
use Rattle.pldm_responder.specs.Slots.{kept_in}
use Rattle.pldm_responder.specs.Steps.{arrival_held, entry_of, performs}
use Rattle.pldm_endpoint.specs.TwoSteps.{EndpointView, held_in, kept_by, stepped, unasked}

where_not : {A : Type 0} (of p : Bool) (x y : A) → p ≡ false → (if of && p then x else y) ≡ y
where_not true true x y h = cc
where_not true false x y h = refl
where_not false p x y h = refl

pub steps_nowhere : (handed : PassThrough) (held : ResponderState (Unit {0})) (m : Message) → performs held m ≡ false → IsHeld (stepped handed held (Whole m)) held
steps_nowhere handed held m none =
    let by = λ (t : Bool). kept_by (if t then tasks_of (hands_on handed) m.bytes else []) m (arrival_held (gives (hands_on handed) unasked) held (Whole m)) held in
    record {
      own = ap (λ t. (by t).own) none;
      busy = ap (λ t. (by t).busy) none;
      window = ap (λ t. (by t).window) none;
      keep = ap (λ t. (by t).keep) none;
      open_messages = ap (λ t. (by t).open_messages) none;
      kept = λ source. ap (λ t. (by t).kept source) none ∙ where_not (m.source == source) (performs held m) (take held.window (renewed id_in (entry_of (gives (hands_on handed) unasked) held m) (held.kept source))) (held.kept source) none;
      state = refl;
      serves_from = ap (λ t. (by t).serves_from) none;
      last = ap (λ t. (by t).last) none;
    }

pub still_held : (old : EndpointView) (new : End) (moment : ℕ) (r : Requested) → performs (held_in old) (message_at moment r) ≡ false → new ≡ end_finished old.end moment r
    → IsHeld (held_by new) (record (stepped old.handed_on (held_in old) (Whole (message_at moment r))) { open_messages = (end_finished old.end moment r).open_messages; last = moment })
still_held old new moment r none is =
    let same = steps_nowhere old.handed_on (held_in old) (message_at moment r) none in
    record {
      own = ap (λ (e : End). e.own) is ∙ sym same.own;
      busy = ap (λ (e : End). e.busy) is ∙ sym same.busy;
      window = ap (λ (e : End). e.rows.window) is ∙ sym same.window;
      keep = ap (λ (e : End). e.keep) is ∙ sym same.keep;
      open_messages = ap (λ (e : End). e.open_messages) is;
      kept = λ source. ap (λ (e : End). kept_in e.rows source) is ∙ sym (same.kept source);
      state = refl;
      serves_from = ap (λ (e : End). e.serves_from) is ∙ sym same.serves_from;
      last = ap (λ (e : End). e.last) is;
    }
