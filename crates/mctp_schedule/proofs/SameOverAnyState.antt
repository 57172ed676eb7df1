-- Nothing on the link changes the device from outside, so what reached the responder has no state in it: when a
-- delivery is fresh, and when a request first arrived, is the same over devices of any two states.
use Rattle.std.proofs.Common.{◌≡◌, ℕ, ◌+◌, ◌*◌, ◌≤◌, List, [], ◌∷◌, Some, None, Option, Bool, true, false, refl, sym, ap, ◌∙◌, inl, inr, ⊎_elim}
use Rattle.std.specs.Prelude.{not, nat_lt, bytes_eq, is_some, ◌&&◌, ◌==◌, if◌then◌else◌, map, take, option_map}
use Rattle.std.specs.List.{take-map, list_any}
use Rattle.pldm_wire.specs.Headers.{id_at}
use Rattle.pldm_responder.specs.Events.{Message, Event, Came, Place, is_busy, is_copy, is_copy_of, is_fresh, origin, busy_until, id_of, recent}
use Rattle.mctp_schedule.specs.Logs.{Asked, Happening, Opened, Delivered, Sensed, WentDown, asked_at, message_at, with_reached, reached, endpoint_of}
use Rattle.mctp_schedule.specs.FirstArrivals.{arrives, earlier, first, is_first}
use Rattle.pldm_responder.specs.Recency.{of_number, renewed}
use Rattle.pldm_responder.proofs.RecentFirst.{found_in_map, renewed_in_map}
use Rattle.mctp_schedule.specs.Timely.{AreApart, InTime, ids_arrived, is_in_window, with_first}
use Rattle.pldm_wire.specs.declared.restart_policy.RestartPolicy.TheVariants.{All}

-- ---- whether the responder is busy, and when a request first arrived
module _ (A B : Type 0) (keep : ℕ) where
  request_changes_nothing : {S : Type 0} (es : List (Event S)) (moment : ℕ) (o : Option Asked) → busy_until keep (with_reached moment o es) ≡ busy_until keep es
  request_changes_nothing es moment None = refl
  request_changes_nothing es moment (Some r) = refl

  pub same_busy_until : (log : List Happening) → busy_until keep (reached {S = A} log) ≡ busy_until keep (reached {S = B} log)
  same_busy_until [] = refl
  same_busy_until (Opened r ∷ past) = same_busy_until past
  same_busy_until (Delivered moment k ∷ past) =
      request_changes_nothing (reached {S = A} past) moment (asked_at past k)
      ∙ same_busy_until past
      ∙ sym (request_changes_nothing (reached {S = B} past) moment (asked_at past k))
  same_busy_until (Sensed moment id value ∷ past) = same_busy_until past
  same_busy_until (WentDown moment ∷ past) = refl

  pub same_busy : (log : List Happening) (moment : ℕ) → is_busy keep (reached {S = A} log) moment ≡ is_busy keep (reached {S = B} log) moment
  same_busy log moment = ap (nat_lt moment) (same_busy_until log)

  pub same_first : (log : List Happening) (k : ℕ) → first A keep log k ≡ first B keep log k
  same_first [] k = refl
  same_first (Opened r ∷ past) k = same_first past k
  same_first (Delivered moment j ∷ past) k =
      λ i. earlier (same_first past k i) (j == k && arrives (asked_at past k) (same_busy past moment i)) past
  same_first (Sensed moment id value ∷ past) k = same_first past k
  same_first (WentDown moment ∷ past) k = same_first past k

  pub same_is_first : (past : List Happening) (moment k : ℕ) → is_first A keep past moment k ≡ is_first B keep past moment k
  same_is_first past moment k = λ i. not (is_some (same_first past k i)) && arrives (asked_at past k) (same_busy past moment i)

-- ---- what is fresh
-- the instance ID of a message, and the message at a place
abbrev id_in : Message → ℕ
id_in m = id_at m.bytes

abbrev message_in : {S : Type 0} → Place S → Message
message_in place = place.message

abbrev repeats : ℕ → Message → Option Message → Bool
repeats keep m None = false
repeats keep m (Some n) = bytes_eq m.bytes n.bytes && nat_lt m.moment (n.moment + keep)

copy_by : {S : Type 0} (keep : ℕ) (m : Message) (o : Option (Place S)) → is_copy_of keep m o ≡ repeats keep m (option_map message_in o)
copy_by keep m None = refl
copy_by keep m (Some p) = refl

chosen : {S : Type 0} (b : Bool) (p : Place S) (places : List (Place S)) → map message_in (if b then renewed id_of p places else places) ≡ (if b then renewed id_in p.message (map message_in places) else map message_in places)
chosen true p places = sym (renewed_in_map id_of id_in message_in (λ _. refl) p places)
chosen false p places = refl

module _ (A B : Type 0) (window keep : ℕ) where
  -- the same but for the states
  record Alike (es : List (Event A)) (fs : List (Event B)) : Type 0 where
    busy : busy_until keep es ≡ busy_until keep fs
    recents : (source : ℕ) → map message_in (recent All window keep es source) ≡ map message_in (recent All window keep fs source)

  found : {S : Type 0} (places : List (Place S)) (id : ℕ) → option_map message_in (of_number id_of id (take window places)) ≡ of_number id_in id (take window (map message_in places))
  found places id =
      sym (found_in_map id_of id_in message_in (λ _. refl) id (take window places))
      ∙ ap (of_number id_in id) (sym (take-map message_in window places))

  origins : (es : List (Event A)) (fs : List (Event B)) → Alike es fs → (source id : ℕ) → option_map message_in (origin All window keep es source id) ≡ option_map message_in (origin All window keep fs source id)
  origins es fs alike source id =
      found (recent All window keep es source) id
      ∙ ap (λ ms. of_number id_in id (take window ms)) (alike.recents source)
      ∙ sym (found (recent All window keep fs source) id)

  copies : (es : List (Event A)) (fs : List (Event B)) (m : Message) → Alike es fs → is_copy All window keep es m ≡ is_copy All window keep fs m
  copies es fs m alike =
      copy_by keep m (origin All window keep es m.source (id_at m.bytes))
      ∙ ap (repeats keep m) (origins es fs alike m.source (id_at m.bytes))
      ∙ sym (copy_by keep m (origin All window keep fs m.source (id_at m.bytes)))

  fresh : (es : List (Event A)) (fs : List (Event B)) (m : Message) → Alike es fs → is_fresh All window keep es m ≡ is_fresh All window keep fs m
  fresh es fs m alike = λ i. not (nat_lt m.moment (alike.busy i)) && not (copies es fs m alike i)

  with_message : (es : List (Event A)) (fs : List (Event B)) (m : Message) → Alike es fs → Alike (Came m ∷ es) (Came m ∷ fs)
  with_message es fs m alike = record {
    busy = alike.busy;
    recents = λ source.
        chosen (m.source == source && is_fresh All window keep es m) (record { before = es; message = m }) (recent All window keep es source)
        ∙ (λ i. if m.source == source && fresh es fs m alike i then renewed id_in m (alike.recents source i) else alike.recents source i)
        ∙ sym (chosen (m.source == source && is_fresh All window keep fs m) (record { before = fs; message = m }) (recent All window keep fs source));
  }

  with_request : (es : List (Event A)) (fs : List (Event B)) (moment : ℕ) (o : Option Asked) → Alike es fs → Alike (with_reached moment o es) (with_reached moment o fs)
  with_request es fs moment None alike = alike
  with_request es fs moment (Some r) alike = with_message es fs (message_at moment r) alike

  alike : (log : List Happening) → Alike (reached {S = A} log) (reached {S = B} log)
  alike [] = record { busy = refl; recents = λ source. refl }
  alike (Opened r ∷ past) = alike past
  alike (Delivered moment k ∷ past) = with_request (reached {S = A} past) (reached {S = B} past) moment (asked_at past k) (alike past)
  alike (Sensed moment id value ∷ past) = record { busy = (alike past).busy; recents = (alike past).recents }
  alike (WentDown moment ∷ past) = record { busy = refl; recents = λ source. refl }

  pub same_fresh : (log : List Happening) (m : Message) → is_fresh All window keep (reached {S = A} log) m ≡ is_fresh All window keep (reached {S = B} log) m
  same_fresh log m = fresh (reached {S = A} log) (reached {S = B} log) m (alike log)

  -- what is kept is of the same message
  pub same_origin : (log : List Happening) (source id : ℕ) (p : Place B) → origin All window keep (reached {S = B} log) source id ≡ Some p
      → (q : Place A) × (origin All window keep (reached {S = A} log) source id ≡ Some q) × (q.message ≡ p.message)
  same_origin log source id p is = go (origin All window keep (reached {S = A} log) source id) (origins (reached {S = A} log) (reached {S = B} log) (alike log) source id ∙ ap (option_map message_in) is)
    where
      go : (o : Option (Place A)) → option_map message_in o ≡ Some p.message → (q : Place A) × (o ≡ Some q) × (q.message ≡ p.message)
      go None e = absurd (cc)
      go (Some q) e = (q, refl, cc)

  -- and so is what a window allows for
  same_ids : (log : List Happening) (source : ℕ) → ids_arrived A keep log source ≡ ids_arrived B keep log source
  same_ids [] source = refl
  same_ids (Opened r ∷ past) source = same_ids past source
  same_ids (Delivered moment k ∷ past) source =
      λ i. with_first (same_is_first A B keep past moment k i) (asked_at past k) source (same_ids past source i)
  same_ids (Sensed moment id value ∷ past) source = same_ids past source
  same_ids (WentDown moment ∷ past) source = same_ids past source

  pub same_in_time : (lifetime : ℕ) (log : List Happening) → InTime A window keep lifetime log → InTime B window keep lifetime log
  same_in_time lifetime [] i = tt
  same_in_time lifetime (Opened r ∷ past) i = same_in_time lifetime past i
  same_in_time lifetime (Sensed moment id value ∷ past) i = same_in_time lifetime past i
  same_in_time lifetime (WentDown moment ∷ past) i = same_in_time lifetime past i
  same_in_time lifetime (Delivered moment k ∷ past) i = (
    λ r e. record {
      soon = (i.0 r e).soon;
      in_window = λ came.
          ap (λ ids. list_any (λ id. id == id_at r.message) (take window ids)) (sym (same_ids past (endpoint_of r.source)))
          ∙ (i.0 r e).in_window (ap is_some (same_first A B keep past k) ∙ came);
    },
    same_in_time lifetime past i.1,
  )

  pub same_apart : (lifetime : ℕ) (log : List Happening) → AreApart A window keep lifetime log → AreApart B window keep lifetime log
  same_apart lifetime [] a = tt
  same_apart lifetime (Delivered moment k ∷ past) a = same_apart lifetime past a
  same_apart lifetime (Sensed moment id value ∷ past) a = same_apart lifetime past a
  same_apart lifetime (WentDown moment ∷ past) a = same_apart lifetime past a
  same_apart lifetime (Opened r ∷ past) a = (
    λ k q e s i. (
      (a.0 k q e s i).0,
      ⊎_elim
          (λ (late : q.opening + 2 * keep ≤ r.opening). inl late)
          (λ (out : is_in_window A window keep past r ≡ false). inr (ap (λ ids. list_any (λ id. id == id_at r.message) (take window ids)) (sym (same_ids past (endpoint_of r.source))) ∙ out))
          (a.0 k q e s i).1,
    ),
    same_apart lifetime past a.1,
  )
