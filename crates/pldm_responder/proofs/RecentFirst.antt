-- Lists that have the newest first, and one element of each number.
use Rattle.std.proofs.Common.{◌≡◌, ◌≢◌, ◌⊎◌, ℕ, zero, suc, ◌<◌, ◌≤◌, Bool, true, false, List, [], ◌∷◌, length, Some, None, refl, sym, ap, ◌∙◌, ⊎_elim, arith, eqb-true, eq-eqb, subst}
use Rattle.std.specs.Prelude.{not, ◌==◌, map, take, option_map, if◌then◌else◌}
use Rattle.std.proofs.lemmas.Bool.{cases_Bool, cases_order, eqb-false, cond-true, cond-false, not_from_true, not_from_false}
use Rattle.pldm_responder.specs.Recency.{of_number, without, renewed, IsApart, AllBelow}

take_take : {A : Type 0} (w : ℕ) (xs : List A) → take w (take w xs) ≡ take w xs
take_take zero xs = refl
take_take (suc w) [] = refl
take_take (suc w) (x ∷ xs) = ap (λ ys. x ∷ ys) (take_take w xs)

pub by_test : {P : Type 0} (b : Bool) → (b ≡ true → P) → (b ≡ false → P) → P
by_test b f g = ⊎_elim f g (cases_Bool b)

-- a list that is no longer is taken whole
pub take_all : {A : Type 0} (w : ℕ) (xs : List A) → length xs ≤ w → take w xs ≡ xs
take_all zero [] short = refl
take_all zero (x ∷ xs) short = absurd (omega arith)
take_all (suc w) [] short = refl
take_all (suc w) (x ∷ xs) short = ap (λ ys. x ∷ ys) (take_all w xs (omega arith))

module _ {A : Type 0} (number : A → ℕ) where
  abbrev pub Apart : List A → Type 0
  Apart xs = IsApart number xs

  abbrev pub Below : ℕ → List A → Type 0
  Below n xs = AllBelow number n xs

  -- ---- what is found
  pub found_here : (n : ℕ) (x : A) (xs : List A) → (number x == n) ≡ true → of_number number n (x ∷ xs) ≡ Some x
  found_here n x xs same = cond-true (number x == n) _ _ same

  pub found_later : (n : ℕ) (x : A) (xs : List A) → (number x == n) ≡ false → of_number number n (x ∷ xs) ≡ of_number number n xs
  found_later n x xs other = cond-false (number x == n) _ _ other

  pub dropped : (n : ℕ) (x : A) (xs : List A) → (number x == n) ≡ true → without number n (x ∷ xs) ≡ without number n xs
  dropped n x xs same = cond-false (not (number x == n)) _ _ (not_from_true _ same)

  pub stays : (n : ℕ) (x : A) (xs : List A) → (number x == n) ≡ false → without number n (x ∷ xs) ≡ x ∷ without number n xs
  stays n x xs other = cond-true (not (number x == n)) _ _ (not_from_false _ other)

  -- where none is found, none of that number is there
  pub none_later : (n : ℕ) (x : A) (xs : List A) → of_number number n (x ∷ xs) ≡ None → ((number x == n) ≡ false) × (of_number number n xs ≡ None)
  none_later n x xs none = by_test (number x == n)
      (λ (same : (number x == n) ≡ true). absurd (let wrong : Some x ≡ None = sym (found_here n x xs same) ∙ none in cc))
      (λ (other : (number x == n) ≡ false). (other, sym (found_later n x xs other) ∙ none))

  pub none_in_front : (n w : ℕ) (xs : List A) → of_number number n xs ≡ None → of_number number n (take w xs) ≡ None
  none_in_front n zero xs none = refl
  none_in_front n (suc w) [] none = refl
  none_in_front n (suc w) (x ∷ xs) none =
      let parts = none_later n x xs none in
      found_later n x (take w xs) parts.0 ∙ none_in_front n w xs parts.1

  -- what is found in front is found
  pub found_in_front : (n w : ℕ) (xs : List A) (x : A) → of_number number n (take w xs) ≡ Some x → of_number number n xs ≡ Some x
  found_in_front n zero xs x is = absurd (cc)
  found_in_front n (suc w) [] x is = absurd (cc)
  found_in_front n (suc w) (y ∷ xs) x is = by_test (number y == n)
      (λ (same : (number y == n) ≡ true). found_here n y xs same ∙ sym (found_here n y (take w xs) same) ∙ is)
      (λ (other : (number y == n) ≡ false). found_later n y xs other ∙ found_in_front n w xs x (sym (found_later n y (take w xs) other) ∙ is))

  -- ---- the others
  pub all_others : (n : ℕ) (xs : List A) → of_number number n xs ≡ None → without number n xs ≡ xs
  all_others n [] none = refl
  all_others n (x ∷ xs) none =
      let parts = none_later n x xs none in
      stays n x xs parts.0 ∙ ap (λ ys. x ∷ ys) (all_others n xs parts.1)

  pub none_of_it : (n : ℕ) (xs : List A) → of_number number n (without number n xs) ≡ None
  none_of_it n [] = refl
  none_of_it n (x ∷ xs) = by_test (number x == n)
      (λ (same : (number x == n) ≡ true). ap (of_number number n) (dropped n x xs same) ∙ none_of_it n xs)
      (λ (other : (number x == n) ≡ false). ap (of_number number n) (stays n x xs other) ∙ found_later n x (without number n xs) other ∙ none_of_it n xs)

  -- another number is found as before
  pub another : (n m : ℕ) (xs : List A) → m ≢ n → of_number number m (without number n xs) ≡ of_number number m xs
  another n m [] ne = refl
  another n m (x ∷ xs) ne =
      let later = another n m xs ne in
      by_test (number x == n)
      (λ (same : (number x == n) ≡ true). by_test (number x == m)
      (λ (both : (number x == m) ≡ true). absurd (ne (sym (eqb-true (number x) m both) ∙ eqb-true (number x) n same)))
      (λ (other : (number x == m) ≡ false). ap (of_number number m) (dropped n x xs same) ∙ later ∙ sym (found_later m x xs other)))
      (λ (apart : (number x == n) ≡ false). by_test (number x == m)
      (λ (it : (number x == m) ≡ true). ap (of_number number m) (stays n x xs apart) ∙ found_here m x (without number n xs) it ∙ sym (found_here m x xs it))
      (λ (other : (number x == m) ≡ false). ap (of_number number m) (stays n x xs apart) ∙ found_later m x (without number n xs) other ∙ later ∙ sym (found_later m x xs other)))

  pub none_without : (n m : ℕ) (xs : List A) → of_number number m xs ≡ None → of_number number m (without number n xs) ≡ None
  none_without n m [] none = refl
  none_without n m (x ∷ xs) none = by_test (number x == n)
      (λ (same : (number x == n) ≡ true). ap (of_number number m) (dropped n x xs same) ∙ none_without n m xs (none_later m x xs none).1)
      (λ (other : (number x == n) ≡ false).
      let parts = none_later m x xs none in
      ap (of_number number m) (stays n x xs other)
      ∙ found_later m x (without number n xs) parts.0
      ∙ none_without n m xs parts.1)

  pub apart_without : (n : ℕ) (xs : List A) → Apart xs → Apart (without number n xs)
  apart_without n [] apart = tt
  apart_without n (x ∷ xs) apart = by_test (number x == n)
      (λ (same : (number x == n) ≡ true). subst Apart (sym (dropped n x xs same)) (apart_without n xs apart.1))
      (λ (other : (number x == n) ≡ false). subst Apart (sym (stays n x xs other)) (none_without n (number x) xs apart.0, apart_without n xs apart.1))

  -- ---- one is put in front
  pub renewed_apart : (x : A) (xs : List A) → Apart xs → Apart (renewed number x xs)
  renewed_apart x xs apart = (none_of_it (number x) xs, apart_without (number x) xs apart)

  pub renewed_finds : (x : A) (xs : List A) → of_number number (number x) (renewed number x xs) ≡ Some x
  renewed_finds x xs = found_here (number x) x (without number (number x) xs) (eq-eqb (number x) (number x) refl)

  pub renewed_keeps : (x : A) (xs : List A) (n : ℕ) → (number x == n) ≡ false → of_number number n (renewed number x xs) ≡ of_number number n xs
  renewed_keeps x xs n other =
      found_later n x (without number (number x) xs) other
      ∙ another (number x) n xs (λ same. eqb-false (number x) n other (sym same))

  -- ---- the front of a list, in which one is put in front
  front_without : (w n : ℕ) (xs : List A) → Apart xs → take w (without number n (take (suc w) xs)) ≡ take w (without number n xs)
  front_without zero n xs apart = refl
  front_without (suc w) n [] apart = refl
  front_without (suc w) n (x ∷ xs) apart = by_test (number x == n)
      (λ (same : (number x == n) ≡ true).
      let none : of_number number n xs ≡ None = ap (λ m. of_number number m xs) (sym (eqb-true (number x) n same)) ∙ apart.0 in
      ap (take (suc w)) (dropped n x (take (suc w) xs) same ∙ all_others n (take (suc w) xs) (none_in_front n (suc w) xs none))
      ∙ take_take (suc w) xs
      ∙ ap (take (suc w)) (sym (all_others n xs none) ∙ sym (dropped n x xs same)))
      (λ (other : (number x == n) ≡ false).
      ap (take (suc w)) (stays n x (take (suc w) xs) other)
      ∙ ap (λ ys. x ∷ ys) (front_without w n xs apart.1)
      ∙ ap (take (suc w)) (sym (stays n x xs other)))

  pub front_renewed : (w : ℕ) (x : A) (xs : List A) → Apart xs → take w (renewed number x (take w xs)) ≡ take w (renewed number x xs)
  front_renewed zero x xs apart = refl
  front_renewed (suc w) x xs apart = ap (λ ys. x ∷ ys) (front_without w (number x) xs apart)

  -- ---- there are no more than there are numbers
  pub below_without : (n m : ℕ) (xs : List A) → Below m xs → Below m (without number n xs)
  below_without n m [] below = tt
  below_without n m (x ∷ xs) below = by_test (number x == n)
      (λ (same : (number x == n) ≡ true). subst (Below m) (sym (dropped n x xs same)) (below_without n m xs below.1))
      (λ (other : (number x == n) ≡ false). subst (Below m) (sym (stays n x xs other)) (below.0, below_without n m xs below.1))

  pub renewed_below : (m : ℕ) (x : A) (xs : List A) → number x < m → Below m xs → Below m (renewed number x xs)
  renewed_below m x xs small below = (small, below_without (number x) m xs below)

  smaller : (k n : ℕ) → k < suc n → (k ≡ n → ⊥) → k < n
  smaller k n less ne = ⊎_elim (λ (e : k ≡ n). absurd (ne e)) (λ (l : (k < n) ⊎ (n < k)). ⊎_elim (λ (a : k < n). a) (λ (b : n < k). absurd (omega arith)) l) (cases_order k n)

  lower : (n : ℕ) (xs : List A) → Below (suc n) xs → Below n (without number n xs)
  lower n [] below = tt
  lower n (x ∷ xs) below = by_test (number x == n)
      (λ (same : (number x == n) ≡ true). subst (Below n) (sym (dropped n x xs same)) (lower n xs below.1))
      (λ (other : (number x == n) ≡ false).
      let ne = eqb-false (number x) n other in
      subst (Below n) (sym (stays n x xs other)) (smaller (number x) n below.0 ne, lower n xs below.1))

  one_less : (n : ℕ) (xs : List A) → Apart xs → length xs ≤ suc (length (without number n xs))
  one_less n [] apart = omega arith
  one_less n (x ∷ xs) apart = by_test (number x == n)
      (λ (same : (number x == n) ≡ true).
      let none : of_number number n xs ≡ None = ap (λ m. of_number number m xs) (sym (eqb-true (number x) n same)) ∙ apart.0 in
      let e : length (without number n (x ∷ xs)) ≡ length xs = ap length (dropped n x xs same ∙ all_others n xs none) in
      omega (arith, e))
      (λ (other : (number x == n) ≡ false).
      let e : length (without number n (x ∷ xs)) ≡ suc (length (without number n xs)) = ap length (stays n x xs other) in
      let i = one_less n xs apart.1 in
      omega (arith, e, i))

  pub no_more : (n : ℕ) (xs : List A) → Apart xs → Below n xs → length xs ≤ n
  no_more zero [] apart below = omega arith
  no_more zero (x ∷ xs) apart below = absurd (let l = below.0 in omega arith)
  no_more (suc n) xs apart below =
      let i = one_less n xs apart in
      let j = no_more n (without number n xs) (apart_without n xs apart) (lower n xs below) in
      omega (arith, i, j)

-- ---- the same elements under another form
module _ {A B : Type 0} (number : A → ℕ) (other : B → ℕ) (f : A → B) (same : (x : A) → other (f x) ≡ number x) where
  pub found_in_map : (n : ℕ) (xs : List A) → of_number other n (map f xs) ≡ option_map f (of_number number n xs)
  found_in_map n [] = refl
  found_in_map n (x ∷ xs) =
      (λ i. if same x i == n then Some (f x) else found_in_map n xs i) ∙ chosen (number x == n)
    where
      chosen : (b : Bool) → (if b then Some (f x) else option_map f (of_number number n xs)) ≡ option_map f (if b then Some x else of_number number n xs)
      chosen true = refl
      chosen false = refl

  pub without_in_map : (n : ℕ) (xs : List A) → without other n (map f xs) ≡ map f (without number n xs)
  without_in_map n [] = refl
  without_in_map n (x ∷ xs) =
      (λ i. if not (same x i == n) then f x ∷ without_in_map n xs i else without_in_map n xs i) ∙ chosen (not (number x == n))
    where
      chosen : (b : Bool) → (if b then f x ∷ map f (without number n xs) else map f (without number n xs)) ≡ map f (if b then x ∷ without number n xs else without number n xs)
      chosen true = refl
      chosen false = refl

  pub renewed_in_map : (x : A) (xs : List A) → renewed other (f x) (map f xs) ≡ map f (renewed number x xs)
  renewed_in_map x xs = ap (λ n. f x ∷ without other n (map f xs)) (same x) ∙ ap (λ ys. f x ∷ ys) (without_in_map (number x) xs)
