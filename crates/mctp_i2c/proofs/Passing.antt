-- Checks that all pass, and bytes with one more behind them.
use Rattle.std.proofs.Common.{◌≡◌, ℕ, zero, suc, ◌+◌, ◌-◌, ◌<◌, Bool, true, false, List, [], ◌∷◌, ◌++◌}
use Rattle.std.proofs.Common.{length, take, slice_index, Option, Some, None, Result, Ok, Err, IsErr, refl}
use Rattle.std.proofs.Common.{sym, ap, subst, ◌∙◌, arith, inl, inr, length-append}
use Rattle.std.proofs.lemmas.Bool.{cases_lt}
use Rattle.std.proofs.lemmas.List.{take_more, get_or_append_left, get_or_past}
use Rattle.std.proofs.Math.Seq.{take-append_seam, take-length, get_or-append_seam}
use Rattle.mctp_i2c.specs.Changes.{AreBytes}
use Rattle.mctp_i2c.specs.Refusals.{first_failing, unless, front, last}

-- no check of the list fails
abbrev pub AllPass : {F : Type 0} → List (Bool × F) → Type 0
AllPass [] = Unit {0}
AllPass ((fails, fault) ∷ checks) = (fails ≡ false) × AllPass checks

pub none_failing : {F : Type 0} (checks : List (Bool × F)) → AllPass checks → first_failing checks ≡ None
none_failing [] h = refl
none_failing ((true, fault) ∷ checks) h = absurd (let e = h.0 in cc)
none_failing ((false, fault) ∷ checks) h = none_failing checks h.1

pub all_pass : {F : Type 0} (checks : List (Bool × F)) → first_failing checks ≡ None → AllPass checks
all_pass [] h = tt
all_pass ((false, fault) ∷ checks) h = (refl, all_pass checks h)
all_pass ((true, fault) ∷ checks) h = cc

-- what is found where none fails
pub found_is : {F A : Type 0} (fault : Option F) (x y : A) → unless fault x ≡ Ok y → (fault ≡ None) × (x ≡ y)
found_is None x y h = (refl, cc)
found_is (Some fault) x y h = cc

pub unless-none : {F A : Type 0} (fault : Option F) (x : A) → fault ≡ None → unless fault x ≡ Ok x
unless-none None x h = refl
unless-none (Some fault) x h = cc

-- what can be no value is an error
pub no_value : {A F : Type 0} (r : Result A F) → ((x : A) → r ≡ Ok x → ⊥) → IsErr r
no_value (Ok x) h = absurd (h x refl)
no_value (Err e) h = refl

count_before : (n : ℕ) → n + 1 - 1 ≡ n
count_before n = omega arith

before_last : (bytes : List ℕ) (byte : ℕ) → length (bytes ++ byte ∷ []) - 1 ≡ length bytes
before_last bytes byte = ap (λ n. n - 1) (length-append bytes (byte ∷ [])) ∙ count_before (length bytes)

pub front-append : (bytes : List ℕ) (byte : ℕ) → front (bytes ++ byte ∷ []) ≡ bytes
front-append bytes byte =
    ap (λ n. take n (bytes ++ byte ∷ [])) (before_last bytes byte) ∙ take-append_seam bytes (byte ∷ [])

pub last-append : (bytes : List ℕ) (byte : ℕ) → last (bytes ++ byte ∷ []) ≡ byte
last-append bytes byte =
    ap (slice_index (bytes ++ byte ∷ [])) (before_last bytes byte) ∙ get_or-append_seam bytes byte [] 0

-- a list of some bytes is all but the last, and that one
pub front_and_last : (bytes : List ℕ) → 0 < length bytes → bytes ≡ front bytes ++ last bytes ∷ []
front_and_last bytes h =
    let i = length bytes - 1 in
    let whole : i + 1 ≡ length bytes = omega arith in
    sym (sym (take_more bytes i 0 (omega arith)) ∙ ap (λ n. take n bytes) whole ∙ take-length bytes)

-- bytes before others are bytes
pub front_bytes : (bytes more : List ℕ) → AreBytes (bytes ++ more) → AreBytes bytes
front_bytes bytes more are i =
    elim (cases_lt i (length bytes)) [
      | inl within ↦ subst (λ (n : ℕ). n < 256) (get_or_append_left bytes more 0 i within) (are i)
      | inr past ↦ omega (arith, get_or_past bytes i 0 past)
    ]

-- and so are bytes with others after them
pub both_bytes : (bytes more : List ℕ) → AreBytes bytes → AreBytes more → AreBytes (bytes ++ more)
both_bytes [] more are too i = too i
both_bytes (byte ∷ bytes) more are too zero = are 0
both_bytes (byte ∷ bytes) more are too (suc i) = both_bytes bytes more (λ k. are (suc k)) too i
