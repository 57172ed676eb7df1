-- What one more message does to the latest fresh message of a pair.
use Rattle.std.proofs.Common.{◌≡◌, ℕ, ◌+◌, ◌<◌, ◌≤◌, List, ◌∷◌, Some, None, Option, true, false, refl, ap, ◌∙◌, eq-eqb}
use Rattle.std.specs.Prelude.{bytes_eq, ◌&&◌, ◌==◌, if◌then◌else◌}
use Rattle.std.proofs.lemmas.Bool.{and_left, and_right, and_from, le-ltb, lt-ltb, cond-true, cond-false}
use Rattle.std.proofs.lemmas.Slice.Eq.{bytes_eq-Decides}
use Rattle.pldm_wire.specs.Headers.{id_at}
use Rattle.pldm_responder.specs.Events.{Message, Event, Came, Place, is_of, is_copy, is_copy_of, is_fresh, origin, id_of, recent}
use Rattle.pldm_responder.specs.Performing.{Rules, performed, answered, answered_by, reply_at, next}
use Rattle.pldm_responder.specs.Recency.{of_number}
use Rattle.pldm_responder.proofs.NoIdFallsOut.{found_after}
use Rattle.pldm_wire.specs.declared.restart_policy.RestartPolicy.TheVariants.{All}

pub is_of_self : (m : Message) → is_of m m.source (id_at m.bytes) ≡ true
is_of_self m = and_from _ _ (eq-eqb m.source m.source refl) (eq-eqb (id_at m.bytes) (id_at m.bytes) refl)

-- a message is a copy of a place with the same bytes that has not expired
pub copy_of : {S : Type 0} (keep : ℕ) (m : Message) (p : Place S) → m.bytes ≡ p.message.bytes → m.moment < p.message.moment + keep → is_copy_of keep m (Some p) ≡ true
copy_of keep m p same soon = and_from _ _ ((bytes_eq-Decides m.bytes p.message.bytes).1 same) (lt-ltb _ _ soon)

-- it is no copy of a place that has expired
pub expired : {S : Type 0} (keep : ℕ) (m : Message) (p : Place S) → p.message.moment + keep ≤ m.moment → is_copy_of keep m (Some p) ≡ false
expired keep m p late = and_right (bytes_eq m.bytes p.message.bytes) _ (le-ltb _ _ late)

-- the latest fresh message of a source and an instance ID, in the window or not
abbrev pub latest : {S : Type 0} → (window keep : ℕ) → List (Event S) → ℕ → ℕ → Option (Place S)
latest window keep events source id = of_number id_of id (recent All window keep events source)

pub latest_after : {S : Type 0} (window keep : ℕ) (h : List (Event S)) (m : Message) (source id : ℕ) → latest window keep (Came m ∷ h) source id ≡ (if is_of m source id && is_fresh All window keep h m then Some (record { before = h; message = m }) else latest window keep h source id)
latest_after window keep h m source id = found_after id_of (record { before = h; message = m }) (recent All window keep h source) id (m.source == source) (is_fresh All window keep h m)

pub latest_stays : {S : Type 0} (window keep : ℕ) (h : List (Event S)) (m : Message) → is_fresh All window keep h m ≡ false → (source id : ℕ) → latest window keep (Came m ∷ h) source id ≡ latest window keep h source id
latest_stays window keep h m old source id = latest_after window keep h m source id ∙ cond-false _ _ _ (and_right (is_of m source id) _ old)

pub latest_other : {S : Type 0} (window keep : ℕ) (h : List (Event S)) (m : Message) (source id : ℕ) → is_of m source id ≡ false → latest window keep (Came m ∷ h) source id ≡ latest window keep h source id
latest_other window keep h m source id apart = latest_after window keep h m source id ∙ cond-false _ _ _ (and_left (is_of m source id) _ apart)

pub latest_new : {S : Type 0} (window keep : ℕ) (h : List (Event S)) (m : Message) (source id : ℕ) → is_fresh All window keep h m ≡ true → is_of m source id ≡ true → latest window keep (Came m ∷ h) source id ≡ Some (record { before = h; message = m })
latest_new window keep h m source id new same = latest_after window keep h m source id ∙ cond-true _ _ _ (and_from (is_of m source id) _ same new)

module _ {S : Type 0} (device : Rules S) (window keep : ℕ) (start : S) where
  pub performed_new : (h : List (Event S)) (m : Message) → is_fresh All window keep h m ≡ true → performed device All window keep start (Came m ∷ h) ≡ next device (performed device All window keep start h) m.bytes
  performed_new h m new = cond-true _ _ _ new

  pub performed_stays : (h : List (Event S)) (m : Message) → is_fresh All window keep h m ≡ false → performed device All window keep start (Came m ∷ h) ≡ performed device All window keep start h
  performed_stays h m old = cond-false _ _ _ old

  pub answered_copy : (h : List (Event S)) (m : Message) (p : Place S) → origin All window keep h m.source (id_at m.bytes) ≡ Some p → is_copy_of keep m (Some p) ≡ true → answered device All window keep start h m ≡ reply_at device All window keep start p
  answered_copy h m p e copy = ap (answered_by device All window keep start h m) e ∙ cond-true _ _ _ copy

  pub answered_new : (h : List (Event S)) (m : Message) → is_copy All window keep h m ≡ false → answered device All window keep start h m ≡ reply_at device All window keep start (record { before = h; message = m })
  answered_new h m new = go (origin All window keep h m.source (id_at m.bytes)) new
    where
      go : (o : Option (Place S)) → is_copy_of keep m o ≡ false → answered_by device All window keep start h m o ≡ reply_at device All window keep start (record { before = h; message = m })
      go None _ = refl
      go (Some p) e = cond-false _ _ _ e
