-- What stands at the places of a list.
use Rattle.std.proofs.Common.{◌≡◌, ◌⊎◌, ℕ, zero, suc, ◌<◌, ◌≤◌, drop, take, List, [], ◌∷◌, ◌++◌, length, Option, Some, None, refl, ap, ◌∙◌, inl, inr, ⊎_elim, arith}
use Rattle.std.specs.Prelude.{slice_get, slice_set, slice_index_or}

pub get_set_at : {X : Type 0} (xs : List X) (i : ℕ) (x : X) → i < length xs → slice_get (slice_set xs i x) i ≡ Some x
get_set_at [] i x h = absurd (omega arith)
get_set_at (y ∷ ys) zero x h = refl
get_set_at (y ∷ ys) (suc i) x h = get_set_at ys i x (omega arith)

pub get_set_other : {X : Type 0} (xs : List X) (i k : ℕ) (x : X) → (k ≡ i → ⊥) → slice_get (slice_set xs i x) k ≡ slice_get xs k
get_set_other [] i k x h = refl
get_set_other (y ∷ ys) zero zero x h = absurd (h refl)
get_set_other (y ∷ ys) zero (suc k) x h = refl
get_set_other (y ∷ ys) (suc i) zero x h = refl
get_set_other (y ∷ ys) (suc i) (suc k) x h = get_set_other ys i k x (λ e. h (ap suc e))

pub get_or : {X : Type 0} (xs : List X) (i : ℕ) (d : X) → i < length xs → slice_get xs i ≡ Some (slice_index_or xs i d)
get_or [] i d h = absurd (omega arith)
get_or (x ∷ xs) zero d h = refl
get_or (x ∷ xs) (suc i) d h = get_or xs i d (omega arith)

pub or_get : {X : Type 0} (xs : List X) (i : ℕ) (d x : X) → slice_get xs i ≡ Some x → slice_index_or xs i d ≡ x
or_get [] i d x e = absurd (cc)
or_get (y ∷ xs) zero d x e = cc
or_get (y ∷ xs) (suc i) d x e = or_get xs i d x e

pub get_within : {X : Type 0} (xs : List X) (i : ℕ) (x : X) → slice_get xs i ≡ Some x → i < length xs
get_within [] i x e = absurd (cc)
get_within (y ∷ xs) zero x e = omega arith
get_within (y ∷ xs) (suc i) x e = let z = get_within xs i x e in omega arith

pub get_past : {X : Type 0} (xs : List X) (i : ℕ) → length xs ≤ i → slice_get xs i ≡ None
get_past [] i h = refl
get_past (x ∷ xs) zero h = absurd (omega arith)
get_past (x ∷ xs) (suc i) h = get_past xs i (omega arith)

pub get_before : {X : Type 0} (xs ys : List X) (i : ℕ) → i < length xs → slice_get (xs ++ ys) i ≡ slice_get xs i
get_before [] ys i h = absurd (omega arith)
get_before (x ∷ xs) ys zero h = refl
get_before (x ∷ xs) ys (suc i) h = get_before xs ys i (omega arith)

pub get_front : {X : Type 0} (xs : List X) (y : X) (i : ℕ) → i < length xs → slice_get (xs ++ y ∷ []) i ≡ slice_get xs i
get_front xs y i h = get_before xs (y ∷ []) i h

pub get_last : {X : Type 0} (xs : List X) (y : X) → slice_get (xs ++ y ∷ []) (length xs) ≡ Some y
get_last [] y = refl
get_last (x ∷ xs) y = get_last xs y

pub get_pushed : {X : Type 0} (xs : List X) (y : X) (i : ℕ) (a : X) → slice_get (xs ++ y ∷ []) i ≡ Some a → (slice_get xs i ≡ Some a) ⊎ ((i ≡ length xs) × (a ≡ y))
get_pushed [] y zero a e = inr (refl, cc)
get_pushed [] y (suc i) a e = absurd (cc)
get_pushed (x ∷ xs) y zero a e = inl e
get_pushed (x ∷ xs) y (suc i) a e =
    ⊎_elim (λ (z : slice_get xs i ≡ Some a). inl z) (λ (z : (i ≡ length xs) × (a ≡ y)). inr (ap suc z.0, z.1)) (get_pushed xs y i a e)

pub length_pushed : {X : Type 0} (xs : List X) (y : X) → length (xs ++ y ∷ []) ≡ suc (length xs)
length_pushed [] y = refl
length_pushed (x ∷ xs) y = ap suc (length_pushed xs y)

-- two lists with the same at each place are the same
pub same_places : {X : Type 0} (xs ys : List X) → ((i : ℕ) → slice_get xs i ≡ slice_get ys i) → xs ≡ ys
same_places [] [] h = refl
same_places [] (y ∷ ys) h = absurd (let e = h 0 in cc)
same_places (x ∷ xs) [] h = absurd (let e = h 0 in cc)
same_places (x ∷ xs) (y ∷ ys) h =
    let first : x ≡ y = let e : ◌≡◌ {A = Option _} (Some x) (Some y) = h 0 in cc in
    let rest = same_places xs ys (λ i. h (suc i)) in
    ap (λ z. z ∷ xs) first ∙ ap (λ zs. y ∷ zs) rest

pub length_set : {X : Type 0} (xs : List X) (i : ℕ) (x : X) → length (slice_set xs i x) ≡ length xs
length_set [] i x = refl
length_set (y ∷ ys) zero x = refl
length_set (y ∷ ys) (suc i) x = ap suc (length_set ys i x)

pub set_last : {X : Type 0} (xs : List X) (x y : X) → slice_set (xs ++ x ∷ []) (length xs) y ≡ xs ++ y ∷ []
set_last [] x y = refl
set_last (z ∷ xs) x y = ap (λ zs. z ∷ zs) (set_last xs x y)

pub or_set_at : {X : Type 0} (xs : List X) (i : ℕ) (x d : X) → i < length xs → slice_index_or (slice_set xs i x) i d ≡ x
or_set_at xs i x d h = or_get (slice_set xs i x) i d x (get_set_at xs i x h)

pub or_set_other : {X : Type 0} (xs : List X) (i k : ℕ) (x d : X) → (k ≡ i → ⊥) → slice_index_or (slice_set xs i x) k d ≡ slice_index_or xs k d
or_set_other [] i k x d h = refl
or_set_other (y ∷ ys) zero zero x d h = absurd (h refl)
or_set_other (y ∷ ys) zero (suc k) x d h = refl
or_set_other (y ∷ ys) (suc i) zero x d h = refl
or_set_other (y ∷ ys) (suc i) (suc k) x d h = or_set_other ys i k x d (λ e. h (ap suc e))

pub drop_at : {X : Type 0} (xs : List X) (i : ℕ) (x : X) → slice_get xs i ≡ Some x → drop i xs ≡ x ∷ drop (suc i) xs
drop_at [] i x e = absurd (cc)
drop_at (y ∷ ys) zero x e = let same : y ≡ x = cc in ap (λ z. z ∷ ys) same
drop_at (y ∷ ys) (suc i) x e = drop_at ys i x e

pub take_all : {X : Type 0} (n : ℕ) (xs : List X) → length xs ≤ n → take n xs ≡ xs
take_all zero [] h = refl
take_all (suc n) [] h = refl
take_all zero (x ∷ xs) h = absurd (omega arith)
take_all (suc n) (x ∷ xs) h = ap (λ ys. x ∷ ys) (take_all n xs (omega arith))
