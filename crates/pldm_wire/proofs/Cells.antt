-- Lists of a known length are their elements, one by one.
use Rattle.std.proofs.Common.{◌≡◌, ℕ, ◌≤◌, Bool, true, false, List, ◌++◌, length, drop, if◌then◌else◌, sym, ◌∙◌, ap, subst, refl, arith}
use Rattle.std.proofs.lemmas.List.{take_all, take-append-drop}
use Rattle.pldm_wire.specs.Places.{bytes_at}
use Rattle.pldm_wire.proofs.Placed.{take_bytes}

-- what holds of a choice by a test
pub by_test : {A : Type 0} (P : A → Type 0) (test : Bool) (a b : A) → (test ≡ true → P a) → (test ≡ false → P b) → P (if test then a else b)
by_test P true a b passed failed = passed refl
by_test P false a b passed failed = failed refl

-- all bytes by place
pub all_bytes : (n : ℕ) (bytes : List ℕ) → length bytes ≡ n → bytes ≡ bytes_at 0 n bytes
all_bytes n bytes h = sym (take_all n bytes (omega arith)) ∙ take_bytes 0 n bytes (omega arith)

-- the first bytes by place, and the rest
pub front_bytes : (n : ℕ) (bytes : List ℕ) → n ≤ length bytes → bytes ≡ bytes_at 0 n bytes ++ drop n bytes
front_bytes n bytes h = sym (take-append-drop n bytes) ∙ ap (λ front. front ++ drop n bytes) (take_bytes 0 n bytes (omega arith))

-- what holds of a list of known length by place
pub by_cells : (n : ℕ) (P : List ℕ → Type 0) (bytes : List ℕ) → length bytes ≡ n → P (bytes_at 0 n bytes) → P bytes
by_cells n P bytes h p = subst P (sym (all_bytes n bytes h)) p
