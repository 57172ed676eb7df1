-- What is kept by an order over slots: what a look-up finds, and what is kept once an answer is put in front, or in the
-- place of one.
use Rattle.std.proofs.Common.{◌≡◌, ℕ, zero, suc, ◌+◌, ◌<◌, ◌≤◌, max, true, false, List, [], ◌∷◌, ◌++◌, length, Option, Some, None, refl, sym, ap, ◌∙◌, subst, arith, eqb-true, eq-eqb, length-append}
use Rattle.std.specs.Prelude.{◌==◌, replicate, reverse, take, slice_index_or, slice_set, option_map, if◌then◌else◌}
use Rattle.std.proofs.lemmas.Bool.{cond-true, cond-false}
use Rattle.std.proofs.lemmas.List.{get_or-replicate, length-replicate, get_or-set_other, get_or-set_same, length-set, reverse-append, take-map}
use Rattle.pldm_wire.specs.Settings.{IsWindow}
use Rattle.pldm_responder.specs.ResponderStates.{Entry, id_in}
use Rattle.pldm_responder.specs.Recency.{of_number, without, renewed, replaced, AllBelow, IsApart}
use Rattle.pldm_responder.specs.Orders.{AreInOrder, IsTable, id_of, newest_first, slot_in}
use Rattle.pldm_responder.specs.SlotBytes.{no_entry}
use Rattle.pldm_responder.specs.SourceAnswers.{AllKept, AreLatest, in_slot, kept_by}
use Rattle.pldm_responder.specs.declared.order.Indexed.{Indexed}
use Rattle.pldm_responder.proofs.RecentFirst.{by_test, found_here, found_later, dropped, stays, none_later}
use Rattle.pldm_responder.proofs.SlotOrders.{apart_push, below_push, found_below, found_in, found_reversed}

found_kept : (slots : List Entry) (n : ℕ) (xs : List Indexed) → AllKept slots xs → of_number id_in n (kept_by slots xs) ≡ option_map (in_slot slots) (of_number id_of n xs)
found_kept slots n [] all = refl
found_kept slots n (x ∷ xs) all =
    let later = found_kept slots n xs all.1 in
    by_test (x.id == n)
    (λ (same : (x.id == n) ≡ true).
    found_here id_in n (in_slot slots x) (kept_by slots xs) (ap (λ m. m == n) all.0 ∙ same)
    ∙ sym (ap (option_map (in_slot slots)) (found_here id_of n x xs same)))
    (λ (other : (x.id == n) ≡ false).
    found_later id_in n (in_slot slots x) (kept_by slots xs) (ap (λ m. m == n) all.0 ∙ other)
    ∙ later
    ∙ sym (ap (option_map (in_slot slots)) (found_later id_of n x xs other)))

without_kept : (slots : List Entry) (n : ℕ) (xs : List Indexed) → AllKept slots xs → without id_in n (kept_by slots xs) ≡ kept_by slots (without id_of n xs)
without_kept slots n [] all = refl
without_kept slots n (x ∷ xs) all =
    let later = without_kept slots n xs all.1 in
    by_test (x.id == n)
    (λ (same : (x.id == n) ≡ true).
    dropped id_in n (in_slot slots x) (kept_by slots xs) (ap (λ m. m == n) all.0 ∙ same) ∙ later
    ∙ sym (ap (kept_by slots) (dropped id_of n x xs same)))
    (λ (other : (x.id == n) ≡ false).
    stays id_in n (in_slot slots x) (kept_by slots xs) (ap (λ m. m == n) all.0 ∙ other)
    ∙ ap (λ es. in_slot slots x ∷ es) later
    ∙ sym (ap (kept_by slots) (stays id_of n x xs other)))

all_without : (slots : List Entry) (n : ℕ) (xs : List Indexed) → AllKept slots xs → AllKept slots (without id_of n xs)
all_without slots n [] all = tt
all_without slots n (x ∷ xs) all =
    let later = all_without slots n xs all.1 in
    by_test (x.id == n)
    (λ (same : (x.id == n) ≡ true). subst (AllKept slots) (sym (dropped id_of n x xs same)) later)
    (λ (other : (x.id == n) ≡ false). subst (AllKept slots) (sym (stays id_of n x xs other)) (all.0, later))

all_taken : (slots : List Entry) (w : ℕ) (xs : List Indexed) → AllKept slots xs → AllKept slots (take w xs)
all_taken slots zero xs all = tt
all_taken slots (suc w) [] all = tt
all_taken slots (suc w) (x ∷ xs) all = (all.0, all_taken slots w xs all.1)

-- ---- slots that hold the same
module _ (slots more : List Entry) (same : (x : Indexed) → in_slot more x ≡ in_slot slots x) where
  alike_kept : (xs : List Indexed) → kept_by more xs ≡ kept_by slots xs
  alike_kept [] = refl
  alike_kept (x ∷ xs) = λ i. same x i ∷ alike_kept xs i

  all_alike : (xs : List Indexed) → AllKept slots xs → AllKept more xs
  all_alike [] all = tt
  all_alike (x ∷ xs) all = (ap id_in (same x) ∙ all.0, all_alike xs all.1)

-- past the last one there is no answer, as in an empty slot
past_last : (slots : List Entry) (i : ℕ) → slice_index_or (slots ++ no_entry ∷ []) i no_entry ≡ slice_index_or slots i no_entry
past_last [] zero = refl
past_last [] (suc i) = refl
past_last (e ∷ slots) zero = refl
past_last (e ∷ slots) (suc i) = past_last slots i

-- a slot more, where it is the next one
pub record Reached (slots more : List Entry) (slot : ℕ) : Type 0 where
  pub same : (x : Indexed) → in_slot more x ≡ in_slot slots x
  pub used : length more ≡ max (length slots) (slot + 1)

pub one_more : (slots more : List Entry) (slot : ℕ) → slot ≡ length slots → more ≡ slots ++ no_entry ∷ [] → Reached slots more slot
one_more slots more slot next is = record {
  same = λ x. ap (λ es. slice_index_or es x.slot no_entry) is ∙ past_last slots x.slot;
  used = let long : length more ≡ length slots + 1 = ap length is ∙ length-append slots (no_entry ∷ []) in omega (arith, long, next);
}

pub no_more_slots : (slots more : List Entry) (slot : ℕ) → slot < length slots → more ≡ slots → Reached slots more slot
no_more_slots slots more slot low is = record {
  same = λ x. ap (λ es. slice_index_or es x.slot no_entry) is;
  used = let long : length more ≡ length slots = ap length is in omega (arith, long, low);
}

-- ---- a slot that none of these has is filled
module _ (slots : List Entry) (slot : ℕ) (e : Entry) where
  others_stay : (x : Indexed) → (x.slot == slot) ≡ false → in_slot (slice_set slots slot e) x ≡ in_slot slots x
  others_stay x other = get_or-set_other slots slot x.slot e no_entry (λ same. let wrong : true ≡ false = sym (eq-eqb x.slot slot same) ∙ other in cc)

  same_kept : (xs : List Indexed) → of_number slot_in slot xs ≡ None → kept_by (slice_set slots slot e) xs ≡ kept_by slots xs
  same_kept [] none = refl
  same_kept (x ∷ xs) none =
      let parts = none_later slot_in slot x xs none in
      λ i. others_stay x parts.0 i ∷ same_kept xs parts.1 i

  all_stay : (xs : List Indexed) → of_number slot_in slot xs ≡ None → AllKept slots xs → AllKept (slice_set slots slot e) xs
  all_stay [] none all = tt
  all_stay (x ∷ xs) none all =
      let parts = none_later slot_in slot x xs none in
      (ap id_in (others_stay x parts.0) ∙ all.0, all_stay xs parts.1 all.1)

apart_reversed : {A : Type 0} (number : A → ℕ) (xs : List A) → IsApart number xs → IsApart number (reverse xs)
apart_reversed number [] apart = tt
apart_reversed number (x ∷ xs) apart =
    subst (IsApart number) (sym (reverse-append (x ∷ []) xs))
    (apart_push number x (reverse xs) (apart_reversed number xs apart.1) (found_reversed number (number x) xs apart.1 ∙ apart.0))

below_reversed : {A : Type 0} (number : A → ℕ) (n : ℕ) (xs : List A) → AllBelow number n xs → AllBelow number n (reverse xs)
below_reversed number n [] below = tt
below_reversed number n (x ∷ xs) below =
    subst (AllBelow number n) (sym (reverse-append (x ∷ []) xs)) (below_push number n x (reverse xs) (below_reversed number n xs below.1) below.0)

record Put (later kept : List Entry) (newest : List Indexed) : Type 0 where
  entries : kept_by later newest ≡ kept
  all : AllKept later newest

-- ---- an answer is put in front
put_in_front : (window id : ℕ) (slots : List Entry) (old new : List Indexed) (slot : ℕ) (e : Entry) → 1 ≤ window → slot < length slots → id_in e ≡ id → AllKept slots (newest_first old) → AreInOrder new
    → newest_first new ≡ take window (renewed id_of (record { id = id; slot = slot }) (newest_first old)) → Put (slice_set slots slot e) (take window (renewed id_in e (kept_by slots (newest_first old)))) (newest_first new)
put_in_front zero id slots old new slot e some there named all are front = absurd (omega (arith, some))
put_in_front (suc w) id slots old new slot e some there named all are front =
    let x : Indexed = record { id = id; slot = slot } in
    let later = slice_set slots slot e in
    let others = without id_of id (newest_first old) in
    let rest = take w others in
    let apart : IsApart slot_in (x ∷ rest) = subst (IsApart slot_in) front (apart_reversed slot_in new are.slots) in
    let here : in_slot later x ≡ e = get_or-set_same slots slot e no_entry there in
    let all_others = all_without slots id (newest_first old) all in
    record {
      entries = ap (kept_by later) front
          ∙ (λ i. here i ∷ same_kept slots slot e rest apart.0 i)
          ∙ ap (λ es. e ∷ es) (sym (take-map (in_slot slots) w others) ∙ ap (take w) (sym (without_kept slots id (newest_first old) all) ∙ ap (λ n. without id_in n (kept_by slots (newest_first old))) (sym named)));
      all = subst (AllKept later) (sym front) (ap id_in here ∙ named, all_stay slots slot e rest apart.0 (all_taken slots w others all_others));
    }

-- ---- an answer is put in the place of one
replaced_none : (e : Entry) (n : ℕ) (es : List Entry) → id_in e ≡ n → of_number id_in n es ≡ None → replaced id_in e es ≡ es
replaced_none e n [] named none = refl
replaced_none e n (y ∷ es) named none =
    let parts = none_later id_in n y es none in
    let here : (if id_in y == id_in e then e else y) ≡ y = cond-false (id_in y == id_in e) e y (ap (λ m. id_in y == m) named ∙ parts.0) in
    λ i. here i ∷ replaced_none e n es named parts.1 i

put_in_place : (slots : List Entry) (n slot : ℕ) (e : Entry) (xs : List Indexed) (x0 : Indexed) → of_number id_of n xs ≡ Some x0 → x0.slot ≡ slot → slot < length slots → id_in e ≡ n
    → IsApart id_of xs → IsApart slot_in xs → AllKept slots xs → Put (slice_set slots slot e) (replaced id_in e (kept_by slots xs)) xs
put_in_place slots n slot e [] x0 is at there named ids apart all = absurd (cc)
put_in_place slots n slot e (x ∷ xs) x0 is at there named ids apart all =
    let later = slice_set slots slot e in
    let rest : of_number id_of n xs ≡ Some x0 → Put later (replaced id_in e (kept_by slots xs)) xs = λ found. put_in_place slots n slot e xs x0 found at there named ids.1 apart.1 all.1 in
    by_test (x.id == n)
    (λ (same : (x.id == n) ≡ true).
    let it : x ≡ x0 = let both : Some x ≡ Some x0 = sym (found_here id_of n x xs same) ∙ is in cc in
    let its_slot : x.slot ≡ slot = ap slot_in it ∙ at in
    let its_id : x.id ≡ n = eqb-true x.id n same in
    let here : in_slot later x ≡ e = ap (λ s. slice_index_or later s no_entry) its_slot ∙ get_or-set_same slots slot e no_entry there in
    let chosen : (if id_in (in_slot slots x) == id_in e then e else in_slot slots x) ≡ e = cond-true (id_in (in_slot slots x) == id_in e) e (in_slot slots x) (eq-eqb _ _ (all.0 ∙ its_id ∙ sym named)) in
    let none : of_number slot_in slot xs ≡ None = ap (λ s. of_number slot_in s xs) (sym its_slot) ∙ apart.0 in
    let no_other : of_number id_in n (kept_by slots xs) ≡ None = found_kept slots n xs all.1 ∙ ap (option_map (in_slot slots)) (ap (λ m. of_number id_of m xs) (sym its_id) ∙ ids.0) in
    record {
      entries = λ i. (here ∙ sym chosen) i ∷ (same_kept slots slot e xs none ∙ sym (replaced_none e n (kept_by slots xs) named no_other)) i;
      all = (ap id_in here ∙ named ∙ sym its_id, all_stay slots slot e xs none all.1);
    })
    (λ (other : (x.id == n) ≡ false).
    let found : of_number id_of n xs ≡ Some x0 = sym (found_later id_of n x xs other) ∙ is in
    let after = rest found in
    let not_its : (x.slot == slot) ≡ false = by_test (x.slot == slot)
    (λ (same : (x.slot == slot) ≡ true). absurd (found_in id_of slot_in n x.slot xs x0 found (at ∙ sym (eqb-true x.slot slot same)) apart.0))
    (λ (different : (x.slot == slot) ≡ false). different) in
    let here = others_stay slots slot e x not_its in
    let chosen : (if id_in (in_slot slots x) == id_in e then e else in_slot slots x) ≡ in_slot slots x =
    cond-false (id_in (in_slot slots x) == id_in e) e (in_slot slots x) ((λ i. all.0 i == named i) ∙ other) in
    record {
      entries = λ i. (here ∙ sym chosen) i ∷ after.entries i;
      all = (ap id_in here ∙ all.0, after.all);
    })

-- ---- by the steps of a row
pub record Found (slots : List Entry) (order : List Indexed) (id slot : ℕ) : Type 0 where
  pub place : Indexed
  pub has : of_number id_of id (newest_first order) ≡ Some place
  pub at : place.slot ≡ slot
  pub there : slot < length slots
  pub entry : Some (slice_index_or slots slot no_entry) ≡ of_number id_in id (kept_by slots (newest_first order))

module _ (window : ℕ) (table : List (Option ℕ)) (slots : List Entry) (order : List Indexed) (rooms : ℕ) (are : AreLatest window table slots order rooms) where
  by_table : (id : ℕ) → id < 32 → slice_index_or table id None ≡ option_map slot_in (of_number id_of id (newest_first order))
  by_table id small = are.table.slots id small ∙ ap (option_map slot_in) (sym (found_reversed id_of id order are.ordered.ids))

  pub slot_there : (id slot : ℕ) → id < 32 → slice_index_or table id None ≡ Some slot → Found slots order id slot
  slot_there id slot small is = go (of_number id_of id (newest_first order)) refl (sym (by_table id small) ∙ is)
    where
      go : (o : Option Indexed) → of_number id_of id (newest_first order) ≡ o → option_map slot_in o ≡ Some slot → Found slots order id slot
      go None at e = absurd (cc)
      go (Some x) at e =
          let same : x.slot ≡ slot = cc in
          let low = found_below id_of slot_in id (length order) (newest_first order) x (below_reversed slot_in (length order) order are.ordered.below) at in record {
            place = x;
            has = at;
            at = same;
            there = omega (arith, low, same, are.used);
            entry = ap (λ s. Some (slice_index_or slots s no_entry)) (sym same) ∙ sym (found_kept slots id (newest_first order) are.kept ∙ ap (option_map (in_slot slots)) at);
          }

  pub none_there : (id : ℕ) → id < 32 → slice_index_or table id None ≡ None → of_number id_in id (kept_by slots (newest_first order)) ≡ None
  none_there id small is = found_kept slots id (newest_first order) are.kept ∙ go (of_number id_of id (newest_first order)) (sym (by_table id small) ∙ is)
    where
      go : (o : Option Indexed) → option_map slot_in o ≡ None → option_map (in_slot slots) o ≡ None
      go None e = refl
      go (Some x) e = absurd (cc)

  -- an answer is put in front, in a slot that there is now
  module _ (id slot : ℕ) (new : List Indexed) (more : List Entry) (e : Entry) (in_order : AreInOrder new) (few : length new ≤ window)
      (front : newest_first new ≡ take window (renewed id_of (record { id = id; slot = slot }) (newest_first order)))
      (used : length new ≡ max (length order) (slot + 1)) (reached : Reached slots more slot) (named : id_in e ≡ id) where
    put_first : Put (slice_set more slot e) (take window (renewed id_in e (kept_by slots (newest_first order)))) (newest_first new)
    put_first =
        subst (λ es. Put (slice_set more slot e) (take window (renewed id_in e es)) (newest_first new)) (alike_kept slots more reached.same (newest_first order))
        (put_in_front window id more order new slot e are.window.0 (omega (arith, reached.used)) named (all_alike slots more reached.same (newest_first order) are.kept) in_order front)

    pub kept_in_front : kept_by (slice_set more slot e) (newest_first new) ≡ take window (renewed id_in e (kept_by slots (newest_first order)))
    kept_in_front = put_first.entries

    pub still_latest : (later : List (Option ℕ)) (rooms_now : ℕ) → IsTable later new → AllBelow id_of 32 new → rooms_now ≡ rooms → AreLatest window later (slice_set more slot e) new rooms_now
    still_latest later rooms_now is_table small same_rooms = record {
      window = are.window;
      used = length-set more slot e ∙ omega (arith, reached.used, used, are.used);
      few = few;
      ordered = in_order;
      kept = put_first.all;
      table = is_table;
      small = small;
      rooms = let enough = are.rooms in omega (arith, enough, same_rooms);
    }

  -- an answer is put in the place of one
  module _ (id slot : ℕ) (e : Entry) (found : Found slots order id slot) (named : id_in e ≡ id) where
    put_there : Put (slice_set slots slot e) (replaced id_in e (kept_by slots (newest_first order))) (newest_first order)
    put_there = put_in_place slots id slot e (newest_first order) found.place found.has found.at found.there named
        (apart_reversed id_of order are.ordered.ids) (apart_reversed slot_in order are.ordered.slots) are.kept

    pub kept_in_place : kept_by (slice_set slots slot e) (newest_first order) ≡ replaced id_in e (kept_by slots (newest_first order))
    kept_in_place = put_there.entries

    pub latest_in_place : AreLatest window table (slice_set slots slot e) order rooms
    latest_in_place = record {
      window = are.window;
      used = length-set slots slot e ∙ are.used;
      few = are.few;
      ordered = are.ordered;
      kept = put_there.all;
      table = are.table;
      small = are.small;
      rooms = are.rooms;
    }

  pub none_replaced : (id : ℕ) (e : Entry) → id < 32 → slice_index_or table id None ≡ None → id_in e ≡ id → replaced id_in e (kept_by slots (newest_first order)) ≡ kept_by slots (newest_first order)
  none_replaced id e small none named = replaced_none e id (kept_by slots (newest_first order)) named (none_there id small none)

-- a new one
pub new_latest : (window : ℕ) (table : List (Option ℕ)) (slots : List Entry) (order : List Indexed) (rooms : ℕ) → IsWindow window → table ≡ replicate 32 None → slots ≡ [] → order ≡ [] → window ≤ rooms → AreLatest window table slots order rooms
new_latest window table slots order rooms is none empty unordered room =
    subst (λ (parts : List (Option ℕ) × (List Entry × List Indexed)). AreLatest window parts.0 parts.1.0 parts.1.1 rooms) (λ i. (sym none i, (sym empty i, sym unordered i))) (record {
      window = is;
      used = refl;
      few = omega arith;
      ordered = record { ids = tt; slots = tt; below = tt };
      kept = tt;
      table = record { slots = λ id small. get_or-replicate 32 id None None small; all = length-replicate {A = Option ℕ} 32 None };
      small = tt;
      rooms = room;
    })
