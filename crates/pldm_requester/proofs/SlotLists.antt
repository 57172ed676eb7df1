-- What is remembered of each request, once a slot was written.
use Rattle.std.proofs.Common.{◌≡◌, ◌⊎◌, ℕ, zero, suc, ◌+◌, ◌-◌, ◌%◌, ◌<◌, ◌≤◌, Bool, true, false, cond, List, [], ◌∷◌, ◌++◌, length, Option, Some, None, refl, sym, ap, ◌∙◌, inl, inr, arith, lit≤, length-append, eq-eqb}
use Rattle.std.specs.Prelude.{◌==◌, nat_lt, nat_le, option_map, slice_get, slice_set}
use Rattle.std.proofs.Math.ListN.{length-set}
use Rattle.std.proofs.lemmas.Bool.{and_parts, and_from, cases_eq, cond-true, cond-false, ne_eqb, ltb-true, ltb-false, leb-true, leb-false, lt-ltb, le-leb, lt-leb}
use Rattle.std.proofs.lemmas.Option.{slice_get_within}
use Rattle.pldm_requester.specs.Pacing.{kept}
use Rattle.pldm_requester.specs.Steps.{Memo, is_kept, is_recent, outline, outline_if}
use Rattle.pldm_requester.specs.Slots.{remembered_in, freed, outlined_at, put_slot, AreSlots}
use Rattle.pldm_requester.specs.declared.pace.Pace.{Pace}

-- ---- a list with a write or one more
pub slice_get-set_at : {X : Type 0} (xs : List X) (i : ℕ) (x : X) → i < length xs → slice_get (slice_set xs i x) i ≡ Some x
slice_get-set_at [] i x h = absurd (omega arith)
slice_get-set_at (y ∷ ys) zero x h = refl
slice_get-set_at (y ∷ ys) (suc i) x h = slice_get-set_at ys i x (omega arith)

pub slice_get-set_other : {X : Type 0} (xs : List X) (i k : ℕ) (x : X) → (k ≡ i → ⊥) → slice_get (slice_set xs i x) k ≡ slice_get xs k
slice_get-set_other [] i k x h = refl
slice_get-set_other (y ∷ ys) zero zero x h = absurd (h refl)
slice_get-set_other (y ∷ ys) zero (suc k) x h = refl
slice_get-set_other (y ∷ ys) (suc i) zero x h = refl
slice_get-set_other (y ∷ ys) (suc i) (suc k) x h = slice_get-set_other ys i k x (λ e. h (ap suc e))

pub slice_get-push_at : {X : Type 0} (xs : List X) (x : X) (k : ℕ) → k ≡ length xs → slice_get (xs ++ x ∷ []) k ≡ Some x
slice_get-push_at [] x zero h = refl
slice_get-push_at [] x (suc k) h = absurd (omega arith)
slice_get-push_at (y ∷ ys) x zero h = absurd (omega arith)
slice_get-push_at (y ∷ ys) x (suc k) h = slice_get-push_at ys x k (omega arith)

pub slice_get-push_below : {X : Type 0} (xs : List X) (x : X) (k : ℕ) → k < length xs → slice_get (xs ++ x ∷ []) k ≡ slice_get xs k
slice_get-push_below [] x k h = absurd (omega arith)
slice_get-push_below (y ∷ ys) x zero h = refl
slice_get-push_below (y ∷ ys) x (suc k) h = slice_get-push_below ys x k (omega arith)

-- ---- the last requests
pub recent_parts : (count n : ℕ) → is_recent count n ≡ true → (n < count) × (count ≤ n + 32)
recent_parts count n h =
    let parts = and_parts (nat_lt n count) (nat_le count (n + 32)) h in (ltb-true n count parts.0, leb-true count (n + 32) parts.1)

pub recent_from : (count n : ℕ) → n < count → count ≤ n + 32 → is_recent count n ≡ true
recent_from count n g h = and_from (nat_lt n count) (nat_le count (n + 32)) (lt-ltb n count g) (le-leb count (n + 32) h)

pub remembered_parts : (count : ℕ) (slots : List Memo) (n : ℕ) (memo : Memo) → remembered_in count slots n ≡ Some memo → (is_recent count n ≡ true) × (slice_get slots (n % 32) ≡ Some memo)
remembered_parts count slots n memo h = go (is_recent count n) refl h
  where
    go : (b : Bool) → is_recent count n ≡ b → cond b (slice_get slots (n % 32)) None ≡ Some memo → (is_recent count n ≡ true) × (slice_get slots (n % 32) ≡ Some memo)
    go true e h = (e, h)
    go false e h = cc

-- ---- a slot that is written
set_by : (count n k : ℕ) (slots : List Memo) (memo : Memo) → is_recent count n ≡ true → n % 32 < length slots → (k ≡ n) ⊎ (k ≡ n → ⊥) → (b : Bool) → is_recent count k ≡ b
    → cond b (slice_get (slice_set slots (n % 32) memo) (k % 32)) None ≡ cond (k == n) (Some memo) (cond b (slice_get slots (k % 32)) None)
set_by count n k slots memo here within (inl same) true r =
    ap (λ i. slice_get (slice_set slots (n % 32) memo) (i % 32)) same ∙ slice_get-set_at slots (n % 32) memo within ∙ sym (cond-true (k == n) _ _ (eq-eqb k n same))
set_by count n k slots memo here within (inl same) false r =
    let wrong : true ≡ false = sym here ∙ ap (is_recent count) (sym same) ∙ r in absurd (cc)
set_by count n k slots memo here within (inr other) true r =
    let a = recent_parts count n here in
    let b = recent_parts count k r in
    slice_get-set_other slots (n % 32) (k % 32) memo (λ e. other (omega (arith, a.0, a.1, b.0, b.1, e))) ∙ sym (cond-false (k == n) _ _ (ne_eqb k n other))
set_by count n k slots memo here within (inr other) false r = sym (cond-false (k == n) _ _ (ne_eqb k n other))

pub remembered_in-set : (count n k : ℕ) (slots : List Memo) (memo : Memo) → is_recent count n ≡ true → n % 32 < length slots
    → remembered_in count (slice_set slots (n % 32) memo) k ≡ cond (k == n) (Some memo) (remembered_in count slots k)
remembered_in-set count n k slots memo here within =
    set_by count n k slots memo here within (cases_eq k n) (is_recent count k) refl

-- ---- a new request
-- the slot of a number other than the new one
kept_slot : (count n : ℕ) (slots : List Memo) (memo : Memo) → AreSlots count slots → n < count → count ≤ n + 31 → slice_get (put_slot count slots memo) (n % 32) ≡ slice_get slots (n % 32)
kept_slot count n slots memo are l r = go (nat_lt count 32) refl
  where
    go : (b : Bool) → nat_lt count 32 ≡ b → slice_get (cond b (slots ++ memo ∷ []) (slice_set slots (count % 32) memo)) (n % 32) ≡ slice_get slots (n % 32)
    go true e =
        let few = ltb-true count 32 e in
        let long = are.some (omega arith) in
        slice_get-push_below slots memo (n % 32) (omega arith)
    go false e = slice_get-set_other slots (count % 32) (n % 32) memo (λ same. absurd (omega arith))

new_slot : (count : ℕ) (slots : List Memo) (memo : Memo) → AreSlots count slots → slice_get (put_slot count slots memo) (count % 32) ≡ Some memo
new_slot count slots memo are = go (nat_lt count 32) refl
  where
    go : (b : Bool) → nat_lt count 32 ≡ b → slice_get (cond b (slots ++ memo ∷ []) (slice_set slots (count % 32) memo)) (count % 32) ≡ Some memo
    go true e =
        let few = ltb-true count 32 e in
        let long = are.some (omega arith) in
        slice_get-push_at slots memo (count % 32) (omega arith)
    go false e =
        let many = ltb-false count 32 e in
        let long = are.all (omega arith) in
        slice_get-set_at slots (count % 32) memo (omega arith)

put_by : (count n : ℕ) (slots : List Memo) (memo : Memo) → AreSlots count slots → (n ≡ count) ⊎ (n ≡ count → ⊥) → (b : Bool) → is_recent (count + 1) n ≡ b
    → cond b (slice_get (put_slot count slots memo) (n % 32)) None ≡ cond (n == count) (Some memo) (cond b (remembered_in count slots n) None)
put_by count n slots memo are (inl same) true r =
    ap (λ i. slice_get (put_slot count slots memo) (i % 32)) same ∙ new_slot count slots memo are ∙ sym (cond-true (n == count) _ _ (eq-eqb n count same))
put_by count n slots memo are (inl same) false r =
    let now : is_recent (count + 1) n ≡ true = recent_from (count + 1) n (omega arith) (omega arith) in absurd (cc)
put_by count n slots memo are (inr other) true r =
    let a = recent_parts (count + 1) n r in
    let before : is_recent count n ≡ true = recent_from count n (omega (arith, a.0, other)) (omega (arith, a.1)) in
    kept_slot count n slots memo are (omega (arith, a.0, other)) (omega (arith, a.1)) ∙ sym (cond-true (is_recent count n) _ _ before) ∙ sym (cond-false (n == count) _ _ (ne_eqb n count other))
put_by count n slots memo are (inr other) false r = sym (cond-false (n == count) _ _ (ne_eqb n count other))

pub remembered_in-put : (count n : ℕ) (slots : List Memo) (memo : Memo) → AreSlots count slots
    → remembered_in (count + 1) (put_slot count slots memo) n ≡ cond (n == count) (Some memo) (cond (is_recent (count + 1) n) (remembered_in count slots n) None)
remembered_in-put count n slots memo are = put_by count n slots memo are (cases_eq n count) (is_recent (count + 1) n) refl

put_length : (count : ℕ) (slots : List Memo) (memo : Memo) → AreSlots count slots → length (put_slot count slots memo) ≡ cond (nat_lt count 32) (count + 1) 32
put_length count slots memo are = go (nat_lt count 32) refl
  where
    go : (b : Bool) → nat_lt count 32 ≡ b → length (cond b (slots ++ memo ∷ []) (slice_set slots (count % 32) memo)) ≡ cond b (count + 1) 32
    go true e =
        let few = ltb-true count 32 e in
        let long = are.some (omega arith) in
        omega (arith, length-append slots (memo ∷ []))
    go false e =
        let many = ltb-false count 32 e in
        length-set slots (count % 32) memo ∙ are.all many

pub AreSlots-put : (count : ℕ) (slots : List Memo) (memo : Memo) → AreSlots count slots → AreSlots (count + 1) (put_slot count slots memo)
AreSlots-put count slots memo are = record {
  some = λ few. put_length count slots memo are ∙ cond-true (nat_lt count 32) _ _ (lt-ltb count 32 (omega arith));
  all = λ many. put_length count slots memo are ∙ go (nat_lt count 32) refl many;
}
  where
    go : (b : Bool) → nat_lt count 32 ≡ b → 32 ≤ count + 1 → cond b (count + 1) 32 ≡ 32
    go true e many = let few = ltb-true count 32 e in omega arith
    go false e many = refl

-- ---- requests are so far apart
slot_there : (xs : List Memo) (k : ℕ) → k < length xs → (memo : Memo) × (slice_get xs k ≡ Some memo)
slot_there [] k h = absurd (omega arith)
slot_there (x ∷ xs) zero h = (x, refl)
slot_there (x ∷ xs) (suc k) h = slot_there xs k (omega arith)

pub remembered_there : (count : ℕ) (slots : List Memo) (n : ℕ) → AreSlots count slots → n < count → count ≤ n + 32 → (memo : Memo) × (remembered_in count slots n ≡ Some memo)
remembered_there count slots n are l r = (found.0, cond-true (is_recent count n) _ _ (recent_from count n l r) ∙ found.1)
  where
    within : n % 32 < length slots
    within = go (nat_lt count 32) refl
      where
        go : (b : Bool) → nat_lt count 32 ≡ b → n % 32 < length slots
        go true e =
            let few = ltb-true count 32 e in
            let long = are.some (omega arith) in
            omega arith
        go false e =
            let many = ltb-false count 32 e in
            let long = are.all (omega arith) in
            omega arith

    found : (memo : Memo) × (slice_get slots (n % 32) ≡ Some memo)
    found = slot_there slots (n % 32) within

-- ---- what is kept no longer
pub kept_range : (pace : Pace) → (8 ≤ kept pace) × (kept pace ≤ 32)
kept_range pace = go pace.brief
  where
    go : (b : Bool) → (8 ≤ cond b 8 32) × (cond b 8 32 ≤ 32)
    go true = (lit≤ tt, lit≤ tt)
    go false = (lit≤ tt, lit≤ tt)

outlined_length : (place : ℕ) (slots : List Memo) (o : Option Memo) → length (outlined_at place slots o) ≡ length slots
outlined_length place slots None = refl
outlined_length place slots (Some memo) = length-set slots place (outline memo)

freed_length : (pace : Pace) (count : ℕ) (slots : List Memo) → length (freed pace count slots) ≡ length slots
freed_length pace count slots = go (nat_lt count (kept pace))
  where
    place : ℕ
    place = (count - kept pace) % 32

    go : (b : Bool) → length (cond b slots (outlined_at place slots (slice_get slots place))) ≡ length slots
    go true = refl
    go false = outlined_length place slots (slice_get slots place)

pub AreSlots-freed : (pace : Pace) (count : ℕ) (slots : List Memo) → AreSlots count slots → AreSlots count (freed pace count slots)
AreSlots-freed pace count slots are = record {
  some = λ few. freed_length pace count slots ∙ are.some few;
  all = λ many. freed_length pace count slots ∙ are.all many;
}

-- the slot of the request that is kept no longer
pub last_kept : (pace : Pace) (count : ℕ) (slots : List Memo) → AreSlots count slots → kept pace ≤ count
    → (memo : Memo) × (remembered_in count slots (count - kept pace) ≡ Some memo)
last_kept pace count slots are many =
    let k = kept_range pace in
    remembered_there count slots (count - kept pace) are (omega (arith, k.0, many)) (omega (arith, k.1, many))

pub freed_is : (pace : Pace) (count n : ℕ) (slots : List Memo) → AreSlots count slots
    → remembered_in count (freed pace count slots) n ≡ outline_if (n + kept pace == count) (remembered_in count slots n)
freed_is pace count n slots are = go (nat_lt count (kept pace)) refl
  where
    place : ℕ
    place = (count - kept pace) % 32

    none : count < kept pace → remembered_in count slots n ≡ outline_if (n + kept pace == count) (remembered_in count slots n)
    none few = ap (λ b. outline_if b (remembered_in count slots n)) (sym (ne_eqb (n + kept pace) count (λ e. omega (arith, few, e))))

    some : kept pace ≤ count → remembered_in count (outlined_at place slots (slice_get slots place)) n ≡ outline_if (n + kept pace == count) (remembered_in count slots n)
    some many =
        ap (λ o. remembered_in count (outlined_at place slots o) n) parts.1
        ∙ remembered_in-set count (count - kept pace) n slots (outline found.0) parts.0 (slice_get_within slots place found.0 parts.1)
        ∙ by (cases_eq n (count - kept pace))
      where
        found : (memo : Memo) × (remembered_in count slots (count - kept pace) ≡ Some memo)
        found = last_kept pace count slots are many

        parts : (is_recent count (count - kept pace) ≡ true) × (slice_get slots place ≡ Some found.0)
        parts = remembered_parts count slots (count - kept pace) found.0 found.1

        by : (n ≡ count - kept pace) ⊎ (n ≡ count - kept pace → ⊥) → cond (n == count - kept pace) (Some (outline found.0)) (remembered_in count slots n) ≡ outline_if (n + kept pace == count) (remembered_in count slots n)
        by (inl same) =
            let here : n + kept pace ≡ count = omega (arith, same, many) in
            cond-true (n == count - kept pace) _ _ (eq-eqb n (count - kept pace) same)
            ∙ ap (option_map outline) (sym found.1) ∙ ap (λ k. option_map outline (remembered_in count slots k)) (sym same)
            ∙ ap (λ b. outline_if b (remembered_in count slots n)) (sym (eq-eqb (n + kept pace) count here))
        by (inr other) =
            cond-false (n == count - kept pace) _ _ (ne_eqb n (count - kept pace) other)
            ∙ ap (λ b. outline_if b (remembered_in count slots n)) (sym (ne_eqb (n + kept pace) count (λ e. other (omega (arith, e)))))

    go : (b : Bool) → nat_lt count (kept pace) ≡ b → remembered_in count (cond b slots (outlined_at place slots (slice_get slots place))) n ≡ outline_if (n + kept pace == count) (remembered_in count slots n)
    go true e = none (ltb-true count (kept pace) e)
    go false e = some (ltb-false count (kept pace) e)

-- one more request is kept, and one less
pub kept_then : (pace : Pace) (count n : ℕ) → (n + kept pace ≡ count → ⊥) → is_kept pace count n ≡ is_kept pace (count + 1) n
kept_then pace count n other = go (nat_le count (n + kept pace)) refl
  where
    go : (b : Bool) → nat_le count (n + kept pace) ≡ b → b ≡ nat_le (count + 1) (n + kept pace)
    go true e = let i = leb-true count (n + kept pace) e in sym (le-leb (count + 1) (n + kept pace) (omega (arith, i, other)))
    go false e = let i = leb-false count (n + kept pace) e in sym (lt-leb (count + 1) (n + kept pace) (omega (arith, i)))

pub not_kept_then : (pace : Pace) (count n : ℕ) → n + kept pace ≡ count → is_kept pace (count + 1) n ≡ false
not_kept_then pace count n e = lt-leb (count + 1) (n + kept pace) (omega (arith, e))

pub kept_new : (pace : Pace) (count n : ℕ) → count ≤ n + 8 → is_kept pace count n ≡ true
kept_new pace count n near = let k = kept_range pace in le-leb count (n + kept pace) (omega (arith, k.0, near))
