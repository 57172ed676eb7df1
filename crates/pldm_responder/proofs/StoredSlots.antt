-- How the slots of a row store its answers: what each holds after one of them is filled, and that there is room for it.
use Rattle.std.proofs.Common.{zero, suc, ◌≡◌, ◌≢◌, ℕ, ◌+◌, ◌-◌, ◌∷◌, ◌<◌, ◌≤◌, inl, inr, Bool, true, false, cond, ◌==◌, List, [], ◌++◌, length, take, Option, Some, None, is_some, IsSome, IfSome, refl, sym, ap, ◌∙◌, arith, subst, eqb-true}
use Rattle.std.specs.Prelude.{slice_set, slice_index_or, nat_lt}
use Rattle.std.proofs.Math.Seq.{take-append_seam, drop-append_seam}
use Rattle.std.proofs.lemmas.Bool.{cases_lt}
use Rattle.std.proofs.lemmas.Grind.{common_steps}
use Rattle.std.proofs.lemmas.List.{ext_get_or, get_or_append_left, get_or-append_right, get_or-map, get_or-set_other, get_or-set_same, get_or_past, get_or_read_under, length-append, length-set, length-map}
use Rattle.std.proofs.lemmas.List.Sums.{count_by-le-length, sum_by-append, sum_by-set}
use Rattle.pldm_wire.specs.declared.assigned.TheConstants.{INSTANCE_IDS}
use Rattle.pldm_responder.specs.ResponderStates.{Entry}
use Rattle.pldm_responder.specs.SlotBytes.{AreStored, IsPlaced, IsStored, bytes_at, empty_slot, entries_in, entry_by, no_entry, place_in, slot_at, stored, with_place}
use Rattle.pldm_responder.specs.declared.slots.Slot.{Slot}
use Rattle.pldm_responder.specs.declared.slots.TheConstants.{SLOT_BYTES}

-- ---- a slot
entry_put : (moment : ℕ) (b a rest : List ℕ) → entry_by moment (length b) (length b + length a) ((b ++ a) ++ rest) ≡ record { moment = moment; bytes = b; answer = a }
entry_put moment b a rest =
    let whole : take (length b + length a) ((b ++ a) ++ rest) ≡ b ++ a = subst (λ n. take n ((b ++ a) ++ rest) ≡ b ++ a) (length-append b a) (take-append_seam (b ++ a) rest) in
    rw (whole, take-append_seam b a, drop-append_seam b a) refl

-- the place that a slot takes is one of the row's
pub place_there : (place : Option ℕ) (long : List (List ℕ)) → IfSome place (λ p. p < length long) → place_in place (length long) < length (with_place place long)
place_there None long low = grind (arith, common_steps)
place_there (Some p) long low = low

long_chosen : (both : ℕ) (e : List ℕ → Entry) (x y : List ℕ) → SLOT_BYTES < both → e (cond (nat_lt SLOT_BYTES both) x y) ≡ e x
long_chosen both e x y many =
    let over : nat_lt SLOT_BYTES both ≡ true = grind arith in
    rw over refl

-- one whose messages are short holds those that are put into it
pub short_held : (long : List (List ℕ)) (slot : Slot) (moment : ℕ) (b a rest : List ℕ) → slot.moment ≡ moment → slot.asked ≡ length b → slot.both ≡ length b + length a
    → length b + length a ≤ SLOT_BYTES → slot.bytes ≡ (b ++ a) ++ rest
    → stored long slot ≡ record { moment = moment; bytes = b; answer = a }
short_held long slot moment b a rest same asked both few is =
    let under : nat_lt SLOT_BYTES slot.both ≡ false = grind arith in
    rw under (rw (same, asked, both, is) (entry_put moment b a rest))

-- a slot whose messages are long holds those that are put at its place
pub long_held : (long : List (List ℕ)) (slot : Slot) (p moment : ℕ) (b a rest room : List ℕ) → slot.moment ≡ moment → slot.asked ≡ length b → slot.both ≡ length b + length a
    → slot.place ≡ Some p → p < length long → SLOT_BYTES < length b + length a → room ≡ (b ++ a) ++ rest
    → stored (slice_set long p room) slot ≡ record { moment = moment; bytes = b; answer = a }
long_held long slot p moment b a rest room same asked both place there many is =
    let found : bytes_at (slice_set long p room) slot.place ≡ (b ++ a) ++ rest = ap (bytes_at (slice_set long p room)) place ∙ get_or-set_same long p room [] there ∙ is in
    let over : SLOT_BYTES < slot.both = omega (arith, both, many) in
    long_chosen slot.both (entry_by slot.moment slot.asked slot.both) _ _ over
    ∙ ap (entry_by slot.moment slot.asked slot.both) found
    ∙ rw (same, asked, both) (entry_put moment b a rest)

-- ---- the places of a row
-- 1 for a slot that has one, 0 for any other
abbrev weight : Option ℕ → ℕ
weight place = cond (is_some place) 1 0

-- the slot that stands at a place
pub slot_found : (slots : List Slot) (i : ℕ) (found : Slot) → i < length slots → found ≡ slice_index_or slots i found → found ≡ slot_at slots i
slot_found slots i found there stands = get_or_read_under slots i (length slots) found empty_slot stands there refl

-- there is room for one more where a slot has none
pub room_left : (slots : List Slot) (long : List (List ℕ)) (for_slots for_long i : ℕ) → AreStored slots long for_slots for_long → i < length slots → (slot_at slots i).place ≡ None → length long < for_long
room_left slots long for_slots for_long i are there none =
    let full : Slot = record { moment = 0; asked = 0; both = 0; place = Some 0; bytes = [] } in
    let changed = sum_by-set (λ (slot : Slot). weight slot.place) slots i full empty_slot there in
    let few = count_by-le-length (λ (slot : Slot). is_some slot.place) (slice_set slots i full) in
    let was : weight (slot_at slots i).place ≡ 0 = ap weight none in
    omega (arith, changed, few, was, are.places, are.within, are.room, length-set slots i full)

-- no more places than slots
pub few_places : (slots : List Slot) (long : List (List ℕ)) (for_slots for_long : ℕ) → AreStored slots long for_slots for_long → length long ≤ INSTANCE_IDS
few_places slots long for_slots for_long are =
    omega (arith, are.places, are.few, count_by-le-length (λ (slot : Slot). is_some slot.place) slots)

slot_set : (slots : List Slot) (id i : ℕ) (slot : Slot) → i ≢ id → slot_at (slice_set slots id slot) i ≡ slot_at slots i
slot_set slots id i slot other = get_or-set_other slots id i slot empty_slot other

-- as many places, or more
no_fewer : (old new : Option ℕ) (places after : ℕ) → IsPlaced old new places after → places ≤ after
no_fewer old new places after (inl same) = omega (arith, same.1)
no_fewer old new places after (inr more) = omega (arith, more.1.1)

still_there : (place : Option ℕ) (places after : ℕ) → places ≤ after → IfSome place (λ p. p < places) → IfSome place (λ p. p < after)
still_there None places after more low = tt
still_there (Some p) places after more low = omega arith

still_stored : (slot : Slot) (places after : ℕ) → places ≤ after → IsStored slot places → IsStored slot after
still_stored slot places after more is = record { request = is.request; answer = is.answer; some = is.some; long = is.long; place = still_there slot.place places after more is.place }

each_is : (slots : List Slot) (id i : ℕ) (slot : Slot) (places after : ℕ) → places ≤ after → id < length slots → ((j : ℕ) → IsStored (slot_at slots j) places) → IsStored slot after
    → (t : Bool) → (i == id) ≡ t → IsStored (slot_at (slice_set slots id slot) i) after
each_is slots id i slot places after more there each is true h =
    subst (λ (s : Slot). IsStored s after) (sym (ap (λ j. slot_at (slice_set slots id slot) j) (eqb-true i id h) ∙ get_or-set_same slots id slot empty_slot there)) is
each_is slots id i slot places after more there each is false h =
    subst (λ (s : Slot). IsStored s after) (sym (slot_set slots id i slot (λ same. grind arith))) (still_stored (slot_at slots i) places after more (each i))

-- the next place is no slot's
not_next : (place : Option ℕ) (places : ℕ) → IfSome place (λ p. p < places) → place ≢ Some places
not_next None places low same = cc
not_next (Some p) places low same = grind arith

place_by : (slots : List Slot) (id i : ℕ) (slot : Slot) → id < length slots → (t : Bool) → (id == i) ≡ t → (slot_at (slice_set slots id slot) i).place ≡ cond t slot.place (slot_at slots i).place
place_by slots id i slot there true h =
    ap (λ j. (slot_at (slice_set slots id slot) j).place) (sym (eqb-true id i h)) ∙ ap (λ (s : Slot). s.place) (get_or-set_same slots id slot empty_slot there)
place_by slots id i slot there false h = ap (λ (s : Slot). s.place) (slot_set slots id i slot (λ same. grind arith))

place_set : (slots : List Slot) (id i : ℕ) (slot : Slot) → id < length slots → (slot_at (slice_set slots id slot) i).place ≡ cond (id == i) slot.place (slot_at slots i).place
place_set slots id i slot there =
    place_by slots id i slot there (id == i) refl

apart_is : (slots : List Slot) (long : List (List ℕ)) (for_slots for_long id b after : ℕ) (new : Option ℕ) → AreStored slots long for_slots for_long → IsPlaced (slot_at slots id).place new (length long) after
    → IsSome new → new ≡ (slot_at slots b).place → id ≡ b
apart_is slots long for_slots for_long id b after new are (inl same) some is = are.apart id b (subst IsSome same.0 some) (sym same.0 ∙ is)
apart_is slots long for_slots for_long id b after new are (inr more) some is = absurd (not_next (slot_at slots b).place (length long) (are.each b).place (sym is ∙ more.1.0))

-- no two slots have one place after the change
apart_by : (slots : List Slot) (long : List (List ℕ)) (for_slots for_long id a b after : ℕ) (slot : Slot) → AreStored slots long for_slots for_long → id < length slots → IsPlaced (slot_at slots id).place slot.place (length long) after
    → (t u : Bool) → (id == a) ≡ t → (id == b) ≡ u
    → IsSome (cond t slot.place (slot_at slots a).place) → cond t slot.place (slot_at slots a).place ≡ cond u slot.place (slot_at slots b).place → a ≡ b
apart_by slots long for_slots for_long id a b after slot are there placed true true h k some is = sym (eqb-true id a h) ∙ eqb-true id b k
apart_by slots long for_slots for_long id a b after slot are there placed true false h k some is = sym (eqb-true id a h) ∙ apart_is slots long for_slots for_long id b after slot.place are placed some is
apart_by slots long for_slots for_long id a b after slot are there placed false true h k some is = sym (apart_is slots long for_slots for_long id a after slot.place are placed (subst IsSome is some) (sym is)) ∙ eqb-true id b k
apart_by slots long for_slots for_long id a b after slot are there placed false false h k some is = are.apart a b some is

-- ---- a row after one slot is filled
counted : (old new : Option ℕ) (places after : ℕ) → IsPlaced old new places after → weight new + places ≡ weight old + after
counted old new places after (inl same) = rw (same.0, same.1) refl
counted old new places after (inr more) = rw (more.0, more.1.0, more.1.1) (omega arith)

pub filled_stored : (slots : List Slot) (long later : List (List ℕ)) (for_slots for_long id : ℕ) (slot : Slot) → AreStored slots long for_slots for_long → id < length slots → IsStored slot (length later)
    → IsPlaced (slot_at slots id).place slot.place (length long) (length later) → AreStored (slice_set slots id slot) later for_slots for_long
filled_stored slots long later for_slots for_long id slot are there is placed =
    let more = no_fewer (slot_at slots id).place slot.place (length long) (length later) placed in
    record {
      few = omega (arith, length-set slots id slot, are.few);
      each = λ i. each_is slots id i slot (length long) (length later) more there are.each is (i == id) refl;
      apart = λ a b some same. apart_by slots long for_slots for_long id a b (length later) slot are there placed (id == a) (id == b) refl refl
          (subst IsSome (place_set slots id a slot there) some) (sym (place_set slots id a slot there) ∙ same ∙ place_set slots id b slot there);
      places =
          let changed = sum_by-set (λ (slot : Slot). weight slot.place) slots id slot empty_slot there in
          let more = counted (slot_at slots id).place slot.place (length long) (length later) placed in
          omega (arith, changed, more, are.places);
      within = omega (arith, length-set slots id slot, are.within);
      room = are.room;
    }

-- one more slot, which is empty
added_by : (slots : List Slot) (i : ℕ) → slot_at (slots ++ empty_slot ∷ []) i ≡ slot_at slots i
added_by slots i =
    elim (cases_lt i (length slots)) [
      | inl within ↦ get_or_append_left slots (empty_slot ∷ []) empty_slot i within
      | inr past ↦ get_or-append_right slots (empty_slot ∷ []) (length slots) i empty_slot refl past ∙ none_at (i - length slots) ∙ sym (get_or_past slots i empty_slot past)
    ]
  where
    none_at : (i : ℕ) → slice_index_or (empty_slot ∷ []) i empty_slot ≡ empty_slot
    none_at zero = refl
    none_at (suc i) = refl

pub added_stored : (slots : List Slot) (long : List (List ℕ)) (for_slots for_long : ℕ) → AreStored slots long for_slots for_long → length slots < INSTANCE_IDS → length slots < for_slots
    → AreStored (slots ++ empty_slot ∷ []) long for_slots for_long
added_stored slots long for_slots for_long are few room = record {
  few = omega (arith, length-append slots (empty_slot ∷ []), few);
  each = λ i. subst (λ (s : Slot). IsStored s (length long)) (sym (added_by slots i)) (are.each i);
  apart = λ a b some same. are.apart a b (subst (λ (s : Slot). IsSome s.place) (added_by slots a) some) (ap (λ (s : Slot). s.place) (sym (added_by slots a)) ∙ same ∙ ap (λ (s : Slot). s.place) (added_by slots b));
  places = sum_by-append (λ (slot : Slot). weight slot.place) slots (empty_slot ∷ []) ∙ omega (arith, are.places);
  within = omega (arith, length-append slots (empty_slot ∷ []), room);
  room = are.room;
}

-- the bytes at a place stay where no other slot's are written
bytes_stay : (long later : List (List ℕ)) (place old : Option ℕ) → IfSome place (λ p. p < length long) → (IsSome place → place ≢ old)
    → ((q : ℕ) → q < length long → old ≢ Some q → slice_index_or later q [] ≡ slice_index_or long q []) → bytes_at later place ≡ bytes_at long place
bytes_stay long later None old low apart others = refl
bytes_stay long later (Some p) old low apart others = others p low (λ same. apart refl (sym same))

-- what a slot holds, by the bytes at its place
abbrev held_with : Slot → List ℕ → Entry
held_with slot bytes = entry_by slot.moment slot.asked slot.both (cond (nat_lt SLOT_BYTES slot.both) bytes slot.bytes)

filled_at : (slots : List Slot) (long later : List (List ℕ)) (for_slots for_long id : ℕ) (slot : Slot) (e : Entry) → AreStored slots long for_slots for_long → id < length slots → stored later slot ≡ e
    → ((q : ℕ) → q < length long → (slot_at slots id).place ≢ Some q → slice_index_or later q [] ≡ slice_index_or long q [])
    → (i : ℕ) → i < length slots → (t : Bool) → (i == id) ≡ t
    → stored later (slot_at (slice_set slots id slot) i) ≡ slice_index_or (slice_set (entries_in long slots) id e) i no_entry
filled_at slots long later for_slots for_long id slot e are there held others i within true h =
    let same = eqb-true i id h in
    ap (λ j. stored later (slot_at (slice_set slots id slot) j)) same
    ∙ ap (stored later) (get_or-set_same slots id slot empty_slot there)
    ∙ held
    ∙ sym (get_or-set_same (entries_in long slots) id e no_entry (rw length-map there))
    ∙ ap (λ j. slice_index_or (slice_set (entries_in long slots) id e) j no_entry) (sym same)
filled_at slots long later for_slots for_long id slot e are there held others i within false h =
    let other : i ≢ id = λ same. grind arith in
    ap (stored later) (slot_set slots id i slot other)
    ∙ ap (held_with (slot_at slots i)) (bytes_stay long later (slot_at slots i).place (slot_at slots id).place (are.each i).place (λ some same. other (are.apart i id some same)) others)
    ∙ sym (get_or-map (stored long) slots i empty_slot no_entry within)
    ∙ sym (get_or-set_other (entries_in long slots) id i e no_entry other)

pub filled_entries : (slots : List Slot) (long later : List (List ℕ)) (for_slots for_long id : ℕ) (slot : Slot) (e : Entry) → AreStored slots long for_slots for_long → id < length slots → stored later slot ≡ e
    → ((q : ℕ) → q < length long → (slot_at slots id).place ≢ Some q → slice_index_or later q [] ≡ slice_index_or long q [])
    → entries_in later (slice_set slots id slot) ≡ slice_set (entries_in long slots) id e
filled_entries slots long later for_slots for_long id slot e are there held others =
    let size : length (entries_in later (slice_set slots id slot)) ≡ length slots = length-map (slice_set slots id slot) (stored later) ∙ length-set slots id slot in
    ext_get_or no_entry (entries_in later (slice_set slots id slot)) (slice_set (entries_in long slots) id e)
    (size ∙ sym (length-set (entries_in long slots) id e ∙ length-map slots (stored long)))
    (λ i low.
    let near : i < length slots = subst (λ n. i < n) size low in
    get_or-map (stored later) (slice_set slots id slot) i empty_slot no_entry (rw length-set near)
    ∙ filled_at slots long later for_slots for_long id slot e are there held others i near (i == id) refl)
