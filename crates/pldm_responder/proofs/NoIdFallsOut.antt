-- With a window of all instance IDs none falls out of it.
use Rattle.std.proofs.Common.{◌≡◌, ℕ, ◌<◌, ◌≤◌, Bool, true, false, List, [], ◌∷◌, Option, Some, None, refl, sym, ap, ◌∙◌, ⊎_elim, arith, eqb-true, lit<}
use Rattle.std.specs.Prelude.{not, ◌&&◌, ◌||◌, ◌==◌, take, is_some, slice_index, if◌then◌else◌}
use Rattle.std.proofs.lemmas.Bool.{cases_Bool, cond_both, and_right, cond-false}
use Rattle.std.proofs.lemmas.Nat.{mod_below}
use Rattle.pldm_wire.specs.Headers.{id_at}
use Rattle.pldm_wire.specs.declared.assigned.TheConstants.{INSTANCE_IDS}
use Rattle.pldm_wire.specs.declared.restart_policy.RestartPolicy.{RestartPolicy}
use Rattle.pldm_wire.specs.declared.restart_policy.RestartPolicy.TheVariants.{All}
use Rattle.pldm_platform.specs.Changes.{changed_or}
use Rattle.pldm_responder.specs.Arrivals.{Arrival, Drop, Part, Whole, packets_back}
use Rattle.pldm_responder.specs.Calls.{answer_expected, arrived, events, outcome_expected}
use Rattle.pldm_responder.specs.EachId as each_id
use Rattle.pldm_responder.specs.Events.{Message, Event, Came, Set, Restarted, Changed, Place, id_of, is_busy, is_copy, is_copy_of, is_fresh, is_of, origin, recent}
use Rattle.pldm_responder.specs.Laws.{AllIdsAreNoWindow, AllIdsPerformAlike}
use Rattle.pldm_responder.specs.Performing.{Rules, reply, next, changes, busy_reply, performed, answered_by, answered}
use Rattle.pldm_responder.specs.Recency.{of_number, renewed}
use Rattle.pldm_responder.specs.declared.outcome.Outcome.TheVariants.{Answered}
use Rattle.pldm_responder.proofs.RecentFirst.{Apart, Below, take_all, renewed_apart, renewed_below, renewed_finds, renewed_keeps, no_more}

pub id_is_small : (bytes : List ℕ) → id_at bytes < INSTANCE_IDS
id_is_small bytes = mod_below (slice_index bytes 1) INSTANCE_IDS (lit< tt)

-- what is found once one was put in front, or was not
pub found_after : {A : Type 0} (number : A → ℕ) (x : A) (xs : List A) (n : ℕ) (source fresh : Bool)
    → of_number number n (if source && fresh then renewed number x xs else xs)
    ≡ (if (source && number x == n) && fresh then Some x else of_number number n xs)
found_after number x xs n false fresh = refl
found_after number x xs n true false = sym (cond-false (number x == n && false) _ _ (and_right (number x == n) false refl))
found_after {A} number x xs n true true = ⊎_elim
    (λ (same : (number x == n) ≡ true).
    ap (λ m. of_number number m (renewed number x xs)) (sym (eqb-true (number x) n same)) ∙ renewed_finds number x xs
    ∙ sym (ap (λ b. if b && true then Some x else of_number number n xs) same))
    (λ (other : (number x == n) ≡ false).
    renewed_keeps number x xs n other
    ∙ sym (ap (λ b. if b && true then Some x else of_number number n xs) other))
    (cases_Bool (number x == n))

module _ {S : Type 0} (busy : RestartPolicy) (window keep : ℕ) where
  pub recent_apart : (h : List (Event S)) (source : ℕ) → Apart id_of (recent busy window keep h source)
  recent_apart [] source = tt
  recent_apart (Set _ _ ∷ h) source = recent_apart h source
  recent_apart (Restarted _ ∷ h) source = tt
  recent_apart (Changed _ ∷ h) source = recent_apart h source
  recent_apart (Came m ∷ h) source =
      let before = recent_apart h source in
      cond_both (m.source == source && is_fresh busy window keep h m) _ (recent busy window keep h source) (Apart id_of)
      (λ _. renewed_apart id_of (record { before = h; message = m }) (recent busy window keep h source) before)
      (λ _. before)

  pub recent_below : (h : List (Event S)) (source : ℕ) → Below id_of INSTANCE_IDS (recent busy window keep h source)
  recent_below [] source = tt
  recent_below (Set _ _ ∷ h) source = recent_below h source
  recent_below (Restarted _ ∷ h) source = tt
  recent_below (Changed _ ∷ h) source = recent_below h source
  recent_below (Came m ∷ h) source =
      let before = recent_below h source in
      cond_both (m.source == source && is_fresh busy window keep h m) _ (recent busy window keep h source) (Below id_of INSTANCE_IDS)
      (λ _. renewed_below id_of INSTANCE_IDS (record { before = h; message = m }) (recent busy window keep h source) (id_is_small m.bytes) before)
      (λ _. before)

module _ {S : Type 0} (window keep : ℕ) (wide : INSTANCE_IDS ≤ window) where
  all_recent : (h : List (Event S)) (source : ℕ) → take window (recent All window keep h source) ≡ recent All window keep h source
  all_recent h source =
      let few = no_more id_of INSTANCE_IDS (recent All window keep h source) (recent_apart All window keep h source) (recent_below All window keep h source) in
      take_all window (recent All window keep h source) (omega (arith, few, wide))

  pub same_origin : (h : List (Event S)) (source id : ℕ) → origin All window keep h source id ≡ each_id.origin keep h source id
  same_origin [] source id = ap (of_number id_of id) (all_recent [] source)
  same_origin (Set _ _ ∷ h) source id = same_origin h source id
  same_origin (Restarted t ∷ h) source id = ap (of_number id_of id) (all_recent (Restarted t ∷ h) source)
  same_origin (Changed _ ∷ h) source id = same_origin h source id
  same_origin (Came m ∷ h) source id =
      ap (of_number id_of id) (all_recent (Came m ∷ h) source)
      ∙ found_after id_of (record { before = h; message = m }) (recent All window keep h source) id (m.source == source) (is_fresh All window keep h m)
      ∙ (λ i. if is_of m source id
      && (not (is_busy keep h m.moment) && not (is_copy_of keep m (same_origin h m.source (id_at m.bytes) i)))
      then Some (record { before = h; message = m })
      else of_number id_of id (sym (all_recent h source) i))
      ∙ ap (λ o. if is_of m source id && each_id.is_fresh keep h m then Some (record { before = h; message = m }) else o) (same_origin h source id)

  pub same_copy : (h : List (Event S)) (m : Message) → is_copy All window keep h m ≡ each_id.is_copy keep h m
  same_copy h m = ap (is_copy_of keep m) (same_origin h m.source (id_at m.bytes))

  pub same_fresh : (h : List (Event S)) (m : Message) → is_fresh All window keep h m ≡ each_id.is_fresh keep h m
  same_fresh h m = ap (λ copy. not (is_busy keep h m.moment) && not copy) (same_copy h m)

either_some : {A : Type 0} (b : Bool) (x : A) (o : Option A) → is_some (if b then Some x else o) ≡ (b || is_some o)
either_some true x o = refl
either_some false x o = refl

origin_where_fresh : {S : Type 0} (keep : ℕ) (h : List (Event S)) (source id : ℕ) → is_some (each_id.origin keep h source id) ≡ each_id.has_fresh keep h source id
origin_where_fresh keep [] source id = refl
origin_where_fresh keep (Set _ _ ∷ h) source id = origin_where_fresh keep h source id
origin_where_fresh keep (Restarted _ ∷ h) source id = refl
origin_where_fresh keep (Changed _ ∷ h) source id = origin_where_fresh keep h source id
origin_where_fresh keep (Came m ∷ h) source id =
    either_some (is_of m source id && each_id.is_fresh keep h m) (record { before = h; message = m }) (each_id.origin keep h source id)
    ∙ ap (λ later. is_of m source id && each_id.is_fresh keep h m || later) (origin_where_fresh keep h source id)

pub all_ids_are_no_window : {S : Type 0} → AllIdsAreNoWindow S
all_ids_are_no_window window keep h wide = record {
  origin = same_origin window keep wide h;
  copy = same_copy window keep wide h;
  fresh = same_fresh window keep wide h;
  kept = λ source id. ap is_some (same_origin window keep wide h source id) ∙ origin_where_fresh keep h source id;
}

module _ {S : Type 0} (device : Rules S) (window keep : ℕ) (start : S) (wide : INSTANCE_IDS ≤ window) where
  same_performed : (h : List (Event S)) → performed device All window keep start h ≡ each_id.performed device keep start h
  same_performed [] = refl
  same_performed (Set id value ∷ h) = ap (λ s. changed_or s (device.sensed s id value)) (same_performed h)
  same_performed (Restarted _ ∷ h) = same_performed h
  same_performed (Changed state ∷ h) = refl
  same_performed (Came m ∷ h) =
      λ i. if same_fresh window keep wide h m i then next device (same_performed h i) m.bytes else same_performed h i

  same_answered_by : (h : List (Event S)) (m : Message) (o : Option (Place S)) → answered_by device All window keep start h m o ≡ each_id.answered_by device keep start h m o
  same_answered_by h m None = ap (λ s. reply device s m.bytes) (same_performed h)
  same_answered_by h m (Some place) =
      λ i. if is_copy_of keep m (Some place) then reply device (same_performed place.before i) place.message.bytes else reply device (same_performed h i) m.bytes

  same_answered : (h : List (Event S)) (m : Message) → answered device All window keep start h m ≡ each_id.answered device keep start h m
  same_answered h m =
      ap (answered_by device All window keep start h m) (same_origin window keep wide h m.source (id_at m.bytes))
      ∙ same_answered_by h m (each_id.origin keep h m.source (id_at m.bytes))

  pub same_expected : (own : ℕ) (h : List (Event S)) (m : Message) → answer_expected device own All window keep start h m ≡ each_id.answer_expected device own keep start h m
  same_expected own h m = λ i.
      if is_busy keep h m.moment then Answered false false (packets_back own m (busy_reply m.bytes))
      else (if same_copy window keep wide h m i
      then Answered false false (packets_back own m (same_answered h m i))
      else Answered true (changes device (same_performed h i) m.bytes) (packets_back own m (same_answered h m i)))

  same_outcome : (own : ℕ) (h : List (Event S)) (a : Arrival) → outcome_expected device own All window keep start h a ≡ each_id.outcome_expected device own keep start h a
  same_outcome own h (Drop reason) = refl
  same_outcome own h Part = refl
  same_outcome own h (Whole m) = same_expected own h m

pub all_ids_perform_alike : {S : Type 0} (device : Rules S) → AllIdsPerformAlike device
all_ids_perform_alike device window keep start h wide = (
  same_performed device window keep start wide h,
  same_answered device window keep start wide h,
  λ own calls moment bytes. same_outcome device window keep start wide own (events own calls) (arrived own calls moment bytes),
)
