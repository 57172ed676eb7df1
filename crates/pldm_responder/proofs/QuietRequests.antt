-- A request that is not performed changes nothing that is held but its open packets and the moment.
use Rattle.std.proofs.Common.{◌≡◌, ℕ, Bool, true, false, ◌&&◌, ◌==◌, if◌then◌else◌, refl, sym, ap, ◌∙◌}
use Rattle.std.specs.Prelude.{take}
use Rattle.pldm_responder.specs.Arrivals.{Whole}
use Rattle.pldm_responder.specs.Ends.{End, held_over}
use Rattle.pldm_responder.specs.ResponderStates.{IsHeld, id_in}
use Rattle.pldm_responder.specs.Looking.{end_finished, message_at}
use Rattle.pldm_responder.specs.Performing.{Rules, next}
use Rattle.pldm_responder.specs.Recency.{renewed}
use Rattle.pldm_responder.specs.Requested.{Requested}
use Rattle.pldm_responder.specs.Slots.{kept_in}
use Rattle.pldm_responder.specs.ResponderViews.{ResponderView, held_of}
use Rattle.pldm_responder.specs.Steps.{arrival_held, entry_of, performs}

pub not_true : (t : Bool) → (t ≡ true → ⊥) → t ≡ false
not_true true h = absurd (h refl)
not_true false h = refl

where_not : {A : Type 0} (of p : Bool) (x y : A) → p ≡ false → y ≡ (if of && p then x else y)
where_not true true x y h = cc
where_not true false x y h = refl
where_not false p x y h = refl

pub still_held : {P S : Type 0} (device : Rules S) (old : ResponderView P S) (new : End) (moment : ℕ) (r : Requested) → performs (held_of old) (message_at moment r) ≡ false → new ≡ end_finished old.end moment r
    → IsHeld (held_over old.state new) (record (arrival_held device (held_of old) (Whole (message_at moment r))) { open_messages = (end_finished old.end moment r).open_messages; last = moment })
still_held device old new moment r none is =
    let held = held_of old in
    let m = message_at moment r in
    record {
      own = ap (λ (e : End). e.own) is;
      busy = ap (λ (e : End). e.busy) is;
      window = ap (λ (e : End). e.rows.window) is;
      keep = ap (λ (e : End). e.keep) is;
      open_messages = ap (λ (e : End). e.open_messages) is;
      kept = λ source. ap (λ (e : End). kept_in e.rows source) is ∙ where_not (m.source == source) (performs held m) (take held.window (renewed id_in (entry_of device held m) (held.kept source))) (held.kept source) none;
      state = sym (ap (λ t. if t then next device held.state m.bytes else held.state) none);
      serves_from = ap (λ (e : End). e.serves_from) is;
      last = ap (λ (e : End). e.last) is;
    }
