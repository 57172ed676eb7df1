-- The numbers of a requester's requests over all requests.
use Rattle.std.proofs.Common.{◌≡◌, ◌⊎◌, ℕ, zero, suc, ◌+◌, ◌<◌, ◌≤◌, Bool, true, false, List, [], ◌∷◌, length, map, Some, refl, sym, ap, ◌∙◌, inl, inr, arith, eq-eqb, eqb-true}
use Rattle.std.specs.Prelude.{◌||◌, ◌==◌, filter, slice_get, slice_index, if◌then◌else◌}
use Rattle.std.specs.List.{AllByRecursion, list_any, range_with_len}
use Rattle.std.proofs.lemmas.Bool.{cases_Bool, cases_eq, ne_eqb}

pub index_get : (xs : List ℕ) (i x : ℕ) → slice_get xs i ≡ Some x → slice_index xs i ≡ x
index_get [] i x e = absurd (cc)
index_get (y ∷ xs) zero x e = cc
index_get (y ∷ xs) (suc i) x e = index_get xs i x e

pub get_index : (xs : List ℕ) (i : ℕ) → i < length xs → slice_get xs i ≡ Some (slice_index xs i)
get_index [] i h = absurd (omega arith)
get_index (y ∷ xs) zero h = refl
get_index (y ∷ xs) (suc i) h = get_index xs i (omega arith)

-- ---- whether a number is among those of the own ones that pass a test
module _ (f : ℕ → ℕ) (test : ℕ → Bool) (k : ℕ) where
  abbrev among : List ℕ → Bool
  among xs = list_any (λ n. n == k) (map f (filter test xs))

  skip : (start n : ℕ) → (f start ≡ k → ⊥) → among (range_with_len start (suc n)) ≡ among (range_with_len (start + 1) n)
  skip start n other = go (test start)
    where
      go : (b : Bool) → list_any (λ m. m == k) (map f (if b then start ∷ filter test (range_with_len (start + 1) n) else filter test (range_with_len (start + 1) n))) ≡ among (range_with_len (start + 1) n)
      go true = ap (λ b. b || among (range_with_len (start + 1) n)) (ne_eqb (f start) k other)
      go false = refl

  pub among_none : (start n : ℕ) → ((i : ℕ) → start ≤ i → i < start + n → f i ≡ k → ⊥) → among (range_with_len start n) ≡ false
  among_none start zero h = refl
  among_none start (suc n) h = skip start n (h start (omega arith) (omega arith)) ∙ among_none (start + 1) n (λ i low high. h i (omega arith) (omega arith))

  pub among_one : (own start n : ℕ) → start ≤ own → own < start + n → f own ≡ k → ((i : ℕ) → start ≤ i → i < start + n → f i ≡ k → i ≡ own) → among (range_with_len start n) ≡ test own
  among_one own start zero low high is one = absurd (omega arith)
  among_one own start (suc n) low high is one = go (cases_eq start own) (λ next. among_one own (start + 1) n (omega arith) (omega arith) is (λ i l h. one i (omega arith) (omega arith)))
    where
      here : (b : Bool) → test start ≡ b → f start ≡ k → among (range_with_len (start + 1) n) ≡ false → list_any (λ m. m == k) (map f (if b then start ∷ filter test (range_with_len (start + 1) n) else filter test (range_with_len (start + 1) n))) ≡ b
      here true t at rest = ap (λ b. b || among (range_with_len (start + 1) n)) (eq-eqb (f start) k at)
      here false t at rest = rest

      go : (start ≡ own) ⊎ (start ≡ own → ⊥) → ((start ≡ own → ⊥) → among (range_with_len (start + 1) n) ≡ test own) → among (range_with_len start (suc n)) ≡ test own
      go (inl same) rest =
          here (test start) refl (ap f same ∙ is) (among_none (start + 1) n (λ i l h at. absurd (let e = one i (omega arith) (omega arith) at in omega (arith, e, same)))) ∙ ap test same
      go (inr other) rest =
          skip start n (λ at. other (one start (omega arith) (omega arith) at)) ∙ rest other

-- ---- a number that is listed is that of an own one
pub listed_own : (f : ℕ → ℕ) (k bound : ℕ) (xs : List ℕ) → AllByRecursion (λ n. n < bound) xs → list_any (λ n. n == k) (map f xs) ≡ true → (n : ℕ) × (n < bound) × (f n ≡ k)
listed_own f k bound [] all e = absurd (cc)
listed_own f k bound (x ∷ xs) all e = go (cases_Bool (f x == k)) (λ rest. listed_own f k bound xs all.1 rest)
  where
    go : (f x == k ≡ true) ⊎ (f x == k ≡ false) → (list_any (λ n. n == k) (map f xs) ≡ true → (n : ℕ) × (n < bound) × (f n ≡ k)) → (n : ℕ) × (n < bound) × (f n ≡ k)
    go (inl t) rest = (x, all.0, eqb-true (f x) k t)
    go (inr t) rest = rest (sym (ap (λ b. b || list_any (λ n. n == k) (map f xs)) t) ∙ e)
