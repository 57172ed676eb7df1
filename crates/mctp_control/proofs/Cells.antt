-- A choice by a test, and the first bytes of a list.
use Rattle.std.proofs.Common.{◌≡◌, ℕ, ◌≤◌, Bool, true, false, List, [], ◌∷◌, length, slice_index, drop, if◌then◌else◌, refl, arith}

-- what holds of a choice by a test
pub by_test : {A : Type 0} (P : A → Type 0) (test : Bool) (a b : A) → (test ≡ true → P a) → (test ≡ false → P b) → P (if test then a else b)
by_test P true a b passed failed = passed refl
by_test P false a b passed failed = failed refl

pub one : (bytes : List ℕ) → length bytes ≡ 1 → bytes ≡ slice_index bytes 0 ∷ []
one [] h = absurd (omega arith)
one (a ∷ []) h = refl
one (a ∷ b ∷ rest) h = absurd (omega arith)

pub two : (bytes : List ℕ) → length bytes ≡ 2 → bytes ≡ slice_index bytes 0 ∷ slice_index bytes 1 ∷ []
two [] h = absurd (omega arith)
two (a ∷ []) h = absurd (omega arith)
two (a ∷ b ∷ []) h = refl
two (a ∷ b ∷ c ∷ rest) h = absurd (omega arith)

pub none : (bytes : List ℕ) → length bytes ≡ 0 → bytes ≡ []
none [] h = refl
none (a ∷ rest) h = absurd (omega arith)

pub front_three : (bytes : List ℕ) → 3 ≤ length bytes → bytes ≡ slice_index bytes 0 ∷ slice_index bytes 1 ∷ slice_index bytes 2 ∷ drop 3 bytes
front_three [] h = absurd (omega arith)
front_three (a ∷ []) h = absurd (omega arith)
front_three (a ∷ b ∷ []) h = absurd (omega arith)
front_three (a ∷ b ∷ c ∷ rest) h = refl

pub front_four : (bytes : List ℕ) → 4 ≤ length bytes → bytes ≡ slice_index bytes 0 ∷ slice_index bytes 1 ∷ slice_index bytes 2 ∷ slice_index bytes 3 ∷ drop 4 bytes
front_four [] h = absurd (omega arith)
front_four (a ∷ []) h = absurd (omega arith)
front_four (a ∷ b ∷ []) h = absurd (omega arith)
front_four (a ∷ b ∷ c ∷ []) h = absurd (omega arith)
front_four (a ∷ b ∷ c ∷ d ∷ rest) h = refl
