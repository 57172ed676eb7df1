-- A list that is stored the oldest first, and read the newest first.
use Rattle.std.proofs.Common.{◌≡◌, ◌≢◌, ℕ, suc, ◌+◌, ◌<◌, ◌≤◌, max, is_some, true, false, List, [], ◌∷◌, ◌++◌, length, Option, Some, None, refl, sym, ap, ◌∙◌, subst, arith, eqb-true, eq-eqb}
use Rattle.std.specs.Prelude.{not, ◌==◌, nat_lt, reverse, take, slice_index_or, slice_set, option_map, IsSome, if◌then◌else◌}
use Rattle.std.proofs.lemmas.Bool.{cond-true, cond-false, eqb-false, ne_eqb, le-ltb, lt-ltb}
use Rattle.std.proofs.lemmas.List.{append-nil, get_or-set_other, get_or-set_same, length-set, reverse-append, length-reverse, length-append}
use Rattle.std.proofs.lemmas.List.Elements.{filter-append}
use Rattle.std.proofs.Math.Seq.{take-append_seam}
use Rattle.pldm_responder.specs.Recency.{of_number, without, renewed, IsApart, AllBelow}
use Rattle.pldm_responder.specs.Orders.{AreInOrder, IsRenewed, IsTable, IsTabled, id_of, last_slot, newest_first, slot_in, slot_or}
use Rattle.pldm_responder.specs.declared.order.Indexed.{Indexed}
use Rattle.pldm_responder.proofs.RecentFirst.{by_test, found_here, found_later, dropped, stays, none_later, another, all_others, none_of_it, apart_without, below_without, take_all}

module _ {A : Type 0} (number : A → ℕ) where
  reverse_cons : (x : A) (xs : List A) → reverse (x ∷ xs) ≡ reverse xs ++ x ∷ []
  reverse_cons x xs = reverse-append (x ∷ []) xs

  pub reverse_push : (x : A) (xs : List A) → reverse (xs ++ x ∷ []) ≡ x ∷ reverse xs
  reverse_push x xs = reverse-append xs (x ∷ [])

  -- ---- what is found in it
  found_append : (n : ℕ) (xs : List A) (x : A) → (number x == n) ≡ false → of_number number n (xs ++ x ∷ []) ≡ of_number number n xs
  found_append n [] x other = found_later number n x [] other
  found_append n (y ∷ xs) x other = ap (λ o. if number y == n then Some y else o) (found_append n xs x other)

  found_last : (n : ℕ) (xs : List A) (x : A) → of_number number n xs ≡ None → (number x == n) ≡ true → of_number number n (xs ++ x ∷ []) ≡ Some x
  found_last n [] x none same = found_here number n x [] same
  found_last n (y ∷ xs) x none same =
      let parts = none_later number n y xs none in
      found_later number n y (xs ++ x ∷ []) parts.0 ∙ found_last n xs x parts.1 same

  pub found_reversed : (n : ℕ) (xs : List A) → IsApart number xs → of_number number n (reverse xs) ≡ of_number number n xs
  found_reversed n [] apart = refl
  found_reversed n (x ∷ xs) apart =
      let later = found_reversed n xs apart.1 in
      ap (of_number number n) (reverse_cons x xs)
      ∙ by_test (number x == n)
      (λ (same : (number x == n) ≡ true).
      let none : of_number number n (reverse xs) ≡ None = later ∙ ap (λ m. of_number number m xs) (sym (eqb-true (number x) n same)) ∙ apart.0 in
      found_last n (reverse xs) x none same ∙ sym (found_here number n x xs same))
      (λ (other : (number x == n) ≡ false).
      found_append n (reverse xs) x other ∙ later ∙ sym (found_later number n x xs other))

  pub without_reversed : (n : ℕ) (xs : List A) → reverse (without number n xs) ≡ without number n (reverse xs)
  without_reversed n [] = refl
  without_reversed n (x ∷ xs) =
      let later = without_reversed n xs in
      let split : without number n (reverse (x ∷ xs)) ≡ without number n (reverse xs) ++ without number n (x ∷ []) = ap (without number n) (reverse_cons x xs) ∙ filter-append (λ y. not (number y == n)) (reverse xs) (x ∷ []) in
      by_test (number x == n)
      (λ (same : (number x == n) ≡ true).
      ap reverse (dropped number n x xs same) ∙ later
      ∙ sym (append-nil (without number n (reverse xs)))
      ∙ sym (split ∙ ap (λ ys. without number n (reverse xs) ++ ys) (dropped number n x [] same)))
      (λ (other : (number x == n) ≡ false).
      ap reverse (stays number n x xs other) ∙ reverse_cons x (without number n xs) ∙ ap (λ ys. ys ++ x ∷ []) later
      ∙ sym (split ∙ ap (λ ys. without number n (reverse xs) ++ ys) (stays number n x [] other)))

  -- ---- one is taken out
  pub one_fewer : (n : ℕ) (xs : List A) → IsApart number xs → IsSome (of_number number n xs) → length xs ≡ suc (length (without number n xs))
  one_fewer n [] apart has = absurd (cc)
  one_fewer n (x ∷ xs) apart has =
      by_test (number x == n)
      (λ (same : (number x == n) ≡ true).
      let none : of_number number n xs ≡ None = ap (λ m. of_number number m xs) (sym (eqb-true (number x) n same)) ∙ apart.0 in
      ap suc (sym (ap length (dropped number n x xs same ∙ all_others number n xs none))))
      (λ (other : (number x == n) ≡ false).
      ap suc (one_fewer n xs apart.1 (subst IsSome (found_later number n x xs other) has))
      ∙ ap suc (sym (ap length (stays number n x xs other))))

  -- ---- one is put behind
  pub apart_push : (x : A) (xs : List A) → IsApart number xs → of_number number (number x) xs ≡ None → IsApart number (xs ++ x ∷ [])
  apart_push x [] apart none = (refl, tt)
  apart_push x (y ∷ xs) apart none =
      let parts = none_later number (number x) y xs none in
      let other : (number x == number y) ≡ false = ne_eqb (number x) (number y) (λ same. let wrong : true ≡ false = sym (eq-eqb (number y) (number x) (sym same)) ∙ parts.0 in cc) in
      (found_append (number y) xs x other ∙ apart.0, apart_push x xs apart.1 parts.1)

  pub below_push : (n : ℕ) (x : A) (xs : List A) → AllBelow number n xs → number x < n → AllBelow number n (xs ++ x ∷ [])
  below_push n x [] below less = (less, tt)
  below_push n x (y ∷ xs) below less = (below.0, below_push n x xs below.1 less)

  pub below_more : (n m : ℕ) (xs : List A) → n ≤ m → AllBelow number n xs → AllBelow number m xs
  below_more n m [] l below = tt
  below_more n m (y ∷ xs) l below = (let b = below.0 in omega (arith, b, l), below_more n m xs l below.1)

  pub below_none : (n : ℕ) (xs : List A) → AllBelow number n xs → of_number number n xs ≡ None
  below_none n [] below = refl
  below_none n (y ∷ xs) below =
      found_later number n y xs (ne_eqb (number y) n (λ same. let b = below.0 in absurd (omega (arith, same, b)))) ∙ below_none n xs below.1

-- ---- one that has two numbers
pub found_in : {A : Type 0} (number other : A → ℕ) (n m : ℕ) (xs : List A) (x : A) → of_number number n xs ≡ Some x → other x ≡ m → of_number other m xs ≡ None → ⊥
found_in number other n m [] x is at none = cc
found_in number other n m (y ∷ xs) x is at none =
    let parts = none_later other m y xs none in
    let later : of_number number n xs ≡ Some x → ⊥ = λ e. found_in number other n m xs x e at parts.1 in
    by_test (number y == n)
    (λ (same : (number y == n) ≡ true).
    let it : y ≡ x = let both : Some y ≡ Some x = sym (found_here number n y xs same) ∙ is in cc in
    let number_is : other y ≡ m = ap other it ∙ at in
    let wrong : true ≡ false = sym (eq-eqb (other y) m number_is) ∙ parts.0 in cc)
    (λ (apart : (number y == n) ≡ false). later (sym (found_later number n y xs apart) ∙ is))

pub found_below : {A : Type 0} (number other : A → ℕ) (n m : ℕ) (xs : List A) (x : A) → AllBelow other m xs → of_number number n xs ≡ Some x → other x < m
found_below number other n m [] x below is = absurd (cc)
found_below number other n m (y ∷ xs) x below is =
    let later : of_number number n xs ≡ Some x → other x < m = λ e. found_below number other n m xs x below.1 e in
    by_test (number y == n)
    (λ (same : (number y == n) ≡ true).
    let it : y ≡ x = let e : Some y ≡ Some x = sym (found_here number n y xs same) ∙ is in cc in
    subst (λ z. other z < m) it below.0)
    (λ (apart : (number y == n) ≡ false). later (sym (found_later number n y xs apart) ∙ is))

module _ {A : Type 0} (number other : A → ℕ) (n m : ℕ) where
  pub has_other : (xs : List A) (x : A) → of_number number n xs ≡ Some x → other x ≡ m → IsSome (of_number other m xs)
  has_other xs x is at = go (of_number other m xs) refl
    where
      go : (o : Option A) → of_number other m xs ≡ o → IsSome o
      go None none = absurd (found_in number other n m xs x is at none)
      go (Some y) some = refl

  -- it is taken out by the one or by the other
  pub taken_by_other : (xs : List A) (x : A) → of_number number n xs ≡ Some x → other x ≡ m → IsApart number xs → IsApart other xs → without other m xs ≡ without number n xs
  taken_by_other [] x is at one two = refl
  taken_by_other (y ∷ xs) x is at one two =
      let later : of_number number n xs ≡ Some x → without other m xs ≡ without number n xs = λ found. taken_by_other xs x found at one.1 two.1 in
      by_test (number y == n)
      (λ (same : (number y == n) ≡ true).
      let it : y ≡ x = let both : Some y ≡ Some x = sym (found_here number n y xs same) ∙ is in cc in
      let its : other y ≡ m = ap other it ∙ at in
      dropped other m y xs (eq-eqb (other y) m its)
      ∙ all_others other m xs (ap (λ k. of_number other k xs) (sym its) ∙ two.0)
      ∙ sym (dropped number n y xs same ∙ all_others number n xs (ap (λ k. of_number number k xs) (sym (eqb-true (number y) n same)) ∙ one.0)))
      (λ (apart : (number y == n) ≡ false).
      let found : of_number number n xs ≡ Some x = sym (found_later number n y xs apart) ∙ is in
      let not_its : (other y == m) ≡ false = by_test (other y == m)
      (λ (same : (other y == m) ≡ true). absurd (found_in number other n (other y) xs x found (at ∙ sym (eqb-true (other y) m same)) two.0))
      (λ (different : (other y == m) ≡ false). different) in
      stays other m y xs not_its ∙ ap (λ ys. y ∷ ys) (later found) ∙ sym (stays number n y xs apart))

-- ---- what becomes of an order
-- an instance ID was put in front of the others, and they are in order still
pub record RenewsInOrder (window id : ℕ) (old new : List Indexed) (slot : ℕ) : Type 0 where
  pub renewed : IsRenewed window id old new slot
  pub still : AreInOrder new

-- the oldest is taken out
oldest_out : (first : Indexed) (rest : List Indexed) → AreInOrder (first ∷ rest) → without slot_in first.slot (first ∷ rest) ≡ rest
oldest_out first rest are =
    dropped slot_in first.slot first rest (eq-eqb first.slot first.slot refl) ∙ all_others slot_in first.slot rest are.slots.0

last_of : (xs : List Indexed) (x : Indexed) → last_slot (xs ++ x ∷ []) ≡ x.slot
last_of [] x = refl
last_of (y ∷ []) x = refl
last_of (y ∷ z ∷ xs) x = last_of (z ∷ xs) x

module _ (window id : ℕ) (old : List Indexed) (are : AreInOrder old) where
  ids_reversed : of_number id_of id (newest_first old) ≡ of_number id_of id old
  ids_reversed = found_reversed id_of id old are.ids

  -- it has a slot
  renews_own : (x : Indexed) → of_number id_of id old ≡ Some x → length old ≤ window → RenewsInOrder window id old (without slot_in x.slot old ++ record { id = id; slot = x.slot } ∷ []) x.slot
  renews_own own found few =
      let x : Indexed = record { id = id; slot = own.slot } in
      let kept = without slot_in own.slot old in
      let by_id = taken_by_other id_of slot_in id own.slot old own found refl are.ids are.slots in
      let short = one_fewer slot_in own.slot old are.slots (has_other id_of slot_in id own.slot old own found refl) in
      let long : length (kept ++ x ∷ []) ≡ length old = length-append kept (x ∷ []) ∙ omega (arith, short) in
      let in_front : newest_first (kept ++ x ∷ []) ≡ renewed id_of x (newest_first old) = reverse_push id_of x kept ∙ ap (λ ys. x ∷ reverse ys) by_id ∙ ap (λ ys. x ∷ ys) (without_reversed id_of id old) in
      record {
        renewed = record {
          order = in_front ∙ sym (take_all window (renewed id_of x (newest_first old)) (subst (λ ys. length ys ≤ window) in_front (subst (λ n. n ≤ window) (sym (length-reverse (kept ++ x ∷ []) ∙ long)) few)));
          slot_is = sym (ap (λ o. slot_or o (if nat_lt (length (newest_first old)) window then length (newest_first old) else last_slot (newest_first old))) (ids_reversed ∙ found));
        };
        still = record {
          ids = apart_push id_of x kept (subst (IsApart id_of) (sym by_id) (apart_without id_of id old are.ids)) (ap (of_number id_of id) by_id ∙ none_of_it id_of id old);
          slots = apart_push slot_in x kept (apart_without slot_in own.slot old are.slots) (none_of_it slot_in own.slot old);
          below = subst (λ n. AllBelow slot_in n (kept ++ x ∷ [])) (sym long) (below_push slot_in (length old) x kept (below_without slot_in own.slot (length old) old are.below) (found_below id_of slot_in id (length old) old own are.below found));
        };
      }

  -- it gets the next one
  renews_next : length old < window → of_number id_of id old ≡ None → RenewsInOrder window id old (old ++ record { id = id; slot = length old } ∷ []) (length old)
  renews_next free is =
      let none = is in
      let x : Indexed = record { id = id; slot = length old } in
      let no_other : of_number id_of id (newest_first old) ≡ None = ids_reversed ∙ none in
      let long : length (old ++ x ∷ []) ≡ length old + 1 = length-append old (x ∷ []) in
      let same_length = length-reverse old in
      let in_front : newest_first (old ++ x ∷ []) ≡ renewed id_of x (newest_first old) = reverse_push id_of x old ∙ ap (λ ys. x ∷ ys) (sym (all_others id_of id (newest_first old) no_other)) in
      record {
        renewed = record {
          order = in_front ∙ sym (take_all window (renewed id_of x (newest_first old)) (subst (λ ys. length ys ≤ window) in_front (subst (λ n. n ≤ window) (sym (length-reverse (old ++ x ∷ []) ∙ long)) (omega (arith, free)))));
          slot_is = sym (ap (λ o. slot_or o (if nat_lt (length (newest_first old)) window then length (newest_first old) else last_slot (newest_first old))) no_other
              ∙ cond-true (nat_lt (length (newest_first old)) window) _ _ (lt-ltb (length (newest_first old)) window (omega (arith, free, same_length)))
              ∙ same_length);
        };
        still = record {
          ids = apart_push id_of x old are.ids none;
          slots = apart_push slot_in x old are.slots (below_none slot_in (length old) old are.below);
          below = subst (λ n. AllBelow slot_in n (old ++ x ∷ [])) (sym long) (below_push slot_in (length old + 1) x old (below_more slot_in (length old) (length old + 1) old (omega arith) are.below) (omega arith));
        };
      }

-- it gets that of the oldest, which falls out
renews_oldest : (window id : ℕ) (first : Indexed) (rest : List Indexed) → AreInOrder (first ∷ rest) → suc (length rest) ≡ window → of_number id_of id (first ∷ rest) ≡ None
    → RenewsInOrder window id (first ∷ rest) (rest ++ record { id = id; slot = first.slot } ∷ []) first.slot
renews_oldest window id first rest are full is =
    let old = first ∷ rest in
    let none = is in
    let x : Indexed = record { id = id; slot = first.slot } in
    let no_other : of_number id_of id (newest_first old) ≡ None = found_reversed id_of id old are.ids ∙ none in
    let back : newest_first old ≡ newest_first rest ++ first ∷ [] = reverse_cons id_of first rest in
    let same_length : length (newest_first old) ≡ suc (length rest) = length-reverse old in
    let long : length (rest ++ x ∷ []) ≡ suc (length rest) = length-append rest (x ∷ []) ∙ omega arith in
    record {
      renewed = record {
        order = reverse_push id_of x rest
            ∙ sym (ap (λ ys. x ∷ ys) (ap (λ n. take n (newest_first rest ++ first ∷ [])) (sym (length-reverse rest)) ∙ take-append_seam (newest_first rest) (first ∷ [])))
            ∙ sym (ap (λ w. take w (renewed id_of x (newest_first old))) (sym full) ∙ ap (λ ys. x ∷ take (length rest) ys) (all_others id_of id (newest_first old) no_other ∙ back));
        slot_is = sym (ap (λ o. slot_or o (if nat_lt (length (newest_first old)) window then length (newest_first old) else last_slot (newest_first old))) no_other
            ∙ cond-false (nat_lt (length (newest_first old)) window) _ _ (le-ltb (length (newest_first old)) window (omega (arith, same_length, full)))
            ∙ ap last_slot back ∙ last_of (newest_first rest) first);
      };
      still = record {
        ids = apart_push id_of x rest are.ids.1 (none_later id_of id first rest none).1;
        slots = apart_push slot_in x rest are.slots.1 are.slots.0;
        below = subst (λ n. AllBelow slot_in n (rest ++ x ∷ [])) (sym long) (below_push slot_in (suc (length rest)) x rest are.below.1 are.below.0);
      };
    }

-- ---- the same, by the steps of `renew`
module _ (window id : ℕ) (old order new : List Indexed) (slot : ℕ) (are : AreInOrder old) (few : length old ≤ window) (pushed : new ≡ order ++ record { id = id; slot = slot } ∷ []) where
  own_is : (x : Indexed) → of_number id_of id old ≡ Some x → x.slot ≡ slot → order ≡ without slot_in slot old → RenewsInOrder window id old new slot
  own_is x found same left =
      subst (λ (ys : List Indexed × ℕ). RenewsInOrder window id old ys.0 ys.1)
      (λ i. ((ap (λ s. without slot_in s old ++ record { id = id; slot = s } ∷ []) same ∙ ap (λ ys. ys ++ record { id = id; slot = slot } ∷ []) (sym left) ∙ sym pushed) i, same i))
      (renews_own window id old are x found few)

  next_is : length old < window → of_number id_of id old ≡ None → slot ≡ length old → order ≡ old → RenewsInOrder window id old new slot
  next_is free is of left =
      let x = renews_next window id old are free is in
      subst (λ (ys : List Indexed × ℕ). RenewsInOrder window id old ys.0 ys.1)
      (λ i. ((ap (λ s. old ++ record { id = id; slot = s } ∷ []) (sym of) ∙ ap (λ ys. ys ++ record { id = id; slot = slot } ∷ []) (sym left) ∙ sym pushed) i, sym of i)) x

oldest_is : (window id : ℕ) (old order new : List Indexed) (slot : ℕ) → AreInOrder old → length old ≤ window → new ≡ order ++ record { id = id; slot = slot } ∷ []
    → 0 < window → window ≤ length old → (found : Indexed) → of_number id_of id old ≡ None → found ≡ slice_index_or old 0 found → slot ≡ found.slot → order ≡ without slot_in found.slot old → RenewsInOrder window id old new slot
oldest_is window id [] order new slot are few pushed some full found is value of left = absurd (omega (arith, some, full))
oldest_is window id (first ∷ rest) order new slot are few pushed some full found is value of left =
    let x = renews_oldest window id first rest are (omega (arith, few, full)) is in
    let same : first.slot ≡ slot = sym (of ∙ ap slot_in value) in
    let others : order ≡ rest = left ∙ ap (λ s. without slot_in s (first ∷ rest)) (ap slot_in value) ∙ oldest_out first rest are in
    subst (λ (ys : List Indexed × ℕ). RenewsInOrder window id (first ∷ rest) ys.0 ys.1)
    (λ i. ((ap (λ s. rest ++ record { id = id; slot = s } ∷ []) same ∙ ap (λ ys. ys ++ record { id = id; slot = slot } ∷ []) (sym others) ∙ sym pushed) i, same i)) x

-- ---- the table by instance ID
none_from : (o : Option Indexed) → option_map slot_in o ≡ None → o ≡ None
none_from None e = refl
none_from (Some x) e = absurd (cc)

-- what has a slot by the table
pub record Owns (order : List Indexed) (id slot : ℕ) : Type 0 where
  pub entry : Indexed
  pub found : of_number id_of id order ≡ Some entry
  pub same : entry.slot ≡ slot

owned_by : (order : List Indexed) (id slot : ℕ) (o : Option Indexed) → of_number id_of id order ≡ o → option_map slot_in o ≡ Some slot → Owns order id slot
owned_by order id slot None at is = absurd (cc)
owned_by order id slot (Some x) at is = record { entry = x; found = at; same = cc }

module _ (by_id : List (Option ℕ)) (old : List Indexed) (table : IsTable by_id old) (id : ℕ) (small : id < 32) where
  pub none_in_table : slice_index_or by_id id None ≡ None → of_number id_of id old ≡ None
  none_in_table is = none_from (of_number id_of id old) (sym (table.slots id small) ∙ is)

  pub some_in_table : (slot : ℕ) → slice_index_or by_id id None ≡ Some slot → Owns old id slot
  some_in_table slot is = owned_by old id slot (of_number id_of id old) refl (sym (table.slots id small) ∙ is)

table_pushed : (mid : List (Option ℕ)) (kept : List Indexed) (id slot : ℕ) → length mid ≡ 32 → id < 32 → of_number id_of id kept ≡ None
    → ((i : ℕ) → i < 32 → i ≢ id → slice_index_or mid i None ≡ option_map slot_in (of_number id_of i kept))
    → IsTable (slice_set mid id (Some slot)) (kept ++ record { id = id; slot = slot } ∷ [])
table_pushed mid kept id slot all small none others = record {
  slots = λ i low. by_test (id == i)
      (λ (same : (id == i) ≡ true).
      ap (λ j. slice_index_or (slice_set mid id (Some slot)) j None) (sym (eqb-true id i same))
      ∙ get_or-set_same mid id (Some slot) None (omega (arith, small, all))
      ∙ sym (ap (option_map slot_in) (found_last id_of i kept (record { id = id; slot = slot }) (ap (λ j. of_number id_of j kept) (sym (eqb-true id i same)) ∙ none) same)))
      (λ (other : (id == i) ≡ false).
      let apart : i ≢ id = λ e. eqb-false id i other (sym e) in
      get_or-set_other mid id i (Some slot) None apart
      ∙ others i low apart
      ∙ sym (ap (option_map slot_in) (found_append id_of i kept (record { id = id; slot = slot }) other)));
  all = length-set mid id (Some slot) ∙ all;
}

module _ (by_id : List (Option ℕ)) (old : List Indexed) (table : IsTable by_id old) (low : AllBelow id_of 32 old) (are : AreInOrder old) (id slot : ℕ) (small : id < 32) (order new : List Indexed) (later : List (Option ℕ)) (pushed : new ≡ order ++ record { id = id; slot = slot } ∷ []) where
  made : (kept : List Indexed) (mid : List (Option ℕ)) → order ≡ kept → later ≡ slice_set mid id (Some slot) → length mid ≡ 32 → AllBelow id_of 32 kept → of_number id_of id kept ≡ None
      → ((i : ℕ) → i < 32 → i ≢ id → slice_index_or mid i None ≡ option_map slot_in (of_number id_of i kept)) → IsTabled later new
  made kept mid left written all below none others =
      let x : Indexed = record { id = id; slot = slot } in
      let is : new ≡ kept ++ x ∷ [] = pushed ∙ ap (λ ys. ys ++ x ∷ []) left in
      record {
        table = subst (λ (y : List (Option ℕ) × List Indexed). IsTable y.0 y.1) (λ i. (sym written i, sym is i)) (table_pushed mid kept id slot all small none others);
        small = subst (AllBelow id_of 32) (sym is) (below_push id_of 32 x kept below small);
      }

  own_table : (x : Indexed) → of_number id_of id old ≡ Some x → x.slot ≡ slot → order ≡ without slot_in slot old → later ≡ slice_set by_id id (Some slot) → IsTabled later new
  own_table x found same left written =
      made (without id_of id old) by_id (left ∙ taken_by_other id_of slot_in id slot old x found same are.ids are.slots) written table.all (below_without id_of id 32 old low) (none_of_it id_of id old)
      (λ i near apart. table.slots i near ∙ ap (option_map slot_in) (sym (another id_of id i old apart)))

  next_table : of_number id_of id old ≡ None → order ≡ old → later ≡ slice_set by_id id (Some slot) → IsTabled later new
  next_table none left written = made old by_id left written table.all low none (λ i near apart. table.slots i near)

oldest_table : (by_id : List (Option ℕ)) (old : List Indexed) → IsTable by_id old → AllBelow id_of 32 old → AreInOrder old → (id slot : ℕ) → id < 32 → (order new : List Indexed) (later : List (Option ℕ)) → new ≡ order ++ record { id = id; slot = slot } ∷ []
    → 0 < length old → (found : Indexed) → found ≡ slice_index_or old 0 found → of_number id_of id old ≡ None → order ≡ without slot_in found.slot old → later ≡ slice_set (slice_set by_id found.id None) id (Some slot) → IsTabled later new
oldest_table by_id [] table low are id slot small order new later pushed some found value none left written = absurd (omega (arith, some))
oldest_table by_id (first ∷ rest) table low are id slot small order new later pushed some found value none left written =
    made by_id (first ∷ rest) table low are id slot small order new later pushed rest (slice_set by_id found.id None) (left ∙ ap (λ s. without slot_in s (first ∷ rest)) (ap slot_in value) ∙ oldest_out first rest are) written (length-set by_id found.id None ∙ table.all) low.1 (none_later id_of id first rest none).1
    (λ i near apart. by_test (first.id == i)
    (λ (same : (first.id == i) ≡ true).
    let it : found.id ≡ i = ap id_of value ∙ eqb-true first.id i same in
    let here : slice_index_or (slice_set by_id found.id None) i None ≡ None = ap (λ j. slice_index_or (slice_set by_id found.id None) j None) (sym it) ∙ get_or-set_same by_id found.id None None (let all = table.all in omega (arith, it, near, all)) in
    here ∙ sym (ap (λ j. option_map slot_in (of_number id_of j rest)) (sym (eqb-true first.id i same)) ∙ ap (option_map slot_in) are.ids.0))
    (λ (other : (first.id == i) ≡ false).
    get_or-set_other by_id found.id i None None (λ e. eqb-false first.id i other (sym (ap id_of value) ∙ sym e))
    ∙ table.slots i near
    ∙ ap (option_map slot_in) (found_later id_of i first rest other)))

-- ---- the slot that is chosen, with what is left of the order and of the table: its own, the next one, or that of the
-- oldest, which falls out
pub data Choice (window id : ℕ) (old : List Indexed) (by_id : List (Option ℕ)) (order : List Indexed) (table : List (Option ℕ)) (slot : ℕ) : Type 0 where
  own : Owns old id slot → order ≡ without slot_in slot old → table ≡ by_id → Choice window id old by_id order table slot
  next : length old < window → of_number id_of id old ≡ None → slot ≡ length old → order ≡ old → table ≡ by_id → Choice window id old by_id order table slot
  oldest : window ≤ length old → of_number id_of id old ≡ None → (found : Indexed) → found ≡ slice_index_or old 0 found → slot ≡ found.slot → order ≡ without slot_in found.slot old → table ≡ slice_set by_id found.id None
      → Choice window id old by_id order table slot

-- the slot is one that was used, or the next one, and none of the others
pub record IsChosen (window : ℕ) (old order : List Indexed) (slot : ℕ) : Type 0 where
  pub within : slot < window
  pub reached : slot ≤ length old
  pub used : length order + 1 ≡ max (length old) (slot + 1)
  pub fresh : of_number slot_in slot order ≡ None

first_found : (old : List Indexed) (found : Indexed) → 0 < length old → found ≡ slice_index_or old 0 found → AllBelow slot_in (length old) old → (found.slot < length old) × IsSome (of_number slot_in found.slot old)
first_found [] found some value below = absurd (omega (arith, some))
first_found (first ∷ rest) found some value below =
    let same = ap slot_in value in
    (let b = below.0 in omega (arith, b, same), ap is_some (found_here slot_in found.slot first rest (eq-eqb first.slot found.slot (sym same))))

left_out : (window : ℕ) (old order : List Indexed) (slot : ℕ) → AreInOrder old → length old ≤ window → slot < length old → IsSome (of_number slot_in slot old) → order ≡ without slot_in slot old → IsChosen window old order slot
left_out window old order slot are few low has left =
    let fewer = one_fewer slot_in slot old are.slots has in
    record {
      within = omega (arith, low, few);
      reached = omega (arith, low);
      used = omega (arith, low, fewer, ap length left);
      fresh = ap (of_number slot_in slot) left ∙ none_of_it slot_in slot old;
    }

module _ (window id : ℕ) (old : List Indexed) (by_id : List (Option ℕ)) (are : AreInOrder old) (some : 0 < window) (few : length old ≤ window) (order : List Indexed) (table : List (Option ℕ)) (slot : ℕ) where
  pub chosen : Choice window id old by_id order table slot → IsChosen window old order slot
  chosen (own owns left same) =
      left_out window old order slot are few
      (subst (λ s. s < length old) owns.same (found_below id_of slot_in id (length old) old owns.entry are.below owns.found))
      (has_other id_of slot_in id slot old owns.entry owns.found owns.same) left
  chosen (next free none is left same) = record {
    within = omega (arith, free, is);
    reached = omega (arith, is);
    used = omega (arith, is, ap length left);
    fresh = ap (of_number slot_in slot) left ∙ ap (λ s. of_number slot_in s old) is ∙ below_none slot_in (length old) old are.below;
  }
  chosen (oldest full none found value is left cleared) =
      let first = first_found old found (omega (arith, some, full)) value are.below in
      left_out window old order slot are few
      (subst (λ s. s < length old) (sym is) first.0)
      (subst (λ s. IsSome (of_number slot_in s old)) (sym is) first.1)
      (left ∙ ap (λ s. without slot_in s old) (sym is))

  module _ (new : List Indexed) (pushed : new ≡ order ++ record { id = id; slot = slot } ∷ []) where
    pub renewed_by : Choice window id old by_id order table slot → RenewsInOrder window id old new slot
    renewed_by (own owns left same) = own_is window id old order new slot are few pushed owns.entry owns.found owns.same left
    renewed_by (next free none is left same) = next_is window id old order new slot are few pushed free none is left
    renewed_by (oldest full none found value is left cleared) = oldest_is window id old order new slot are few pushed some full found none value is left

    pub tabled_by : IsTabled by_id old → id < 32 → (later : List (Option ℕ)) → later ≡ slice_set table id (Some slot) → Choice window id old by_id order table slot → IsTabled later new
    tabled_by tabled small later written (own owns left same) =
        own_table by_id old tabled.table tabled.small are id slot small order new later pushed owns.entry owns.found owns.same left (written ∙ ap (λ t. slice_set t id (Some slot)) same)
    tabled_by tabled small later written (next free none is left same) =
        next_table by_id old tabled.table tabled.small are id slot small order new later pushed none left (written ∙ ap (λ t. slice_set t id (Some slot)) same)
    tabled_by tabled small later written (oldest full none found value is left cleared) =
        oldest_table by_id old tabled.table tabled.small are id slot small order new later pushed (omega (arith, some, full)) found value none left (written ∙ ap (λ t. slice_set t id (Some slot)) cleared)
