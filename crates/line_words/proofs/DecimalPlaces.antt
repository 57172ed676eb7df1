-- Decimal digits, read one after the other.
use Rattle.std.proofs.Common.{◌≡◌, ℕ, ◌+◌, ◌-◌, ◌*◌, ◌^◌, ◌<◌, ◌≤◌, true, List, ◌∷◌, length, drop, get_or, refl, sym, ◌∙◌, ◌&&◌, add-one, drop-cons, lit<, arith}
use Rattle.std.specs.List.{list_all}
use Rattle.std.proofs.Math.Nat.{pow-suc, pow-le-pow_right}
use Rattle.std.proofs.lemmas.Bool.Decides.{nat_tests}
use Rattle.line_words.specs.declared.numbers.TheConstants.{MAX_DIGITS}
use Rattle.line_words.specs.Numbers.{decimal_value, is_digit}

by_ten : (value digit place rest : ℕ) → value * (place * 10) + (digit * place + rest) ≡ (value * 10 + digit) * place + rest
by_ten value digit place rest = omega arith

-- a digit that goes to the value is worth there what it was worth at its place
onto_value : (value digit : ℕ) (more : List ℕ) → value * 10 ^ length (digit ∷ more) + decimal_value (digit ∷ more) ≡ (value * 10 + (digit - 48)) * 10 ^ length more + decimal_value more
onto_value value digit more = rw pow-suc (by_ten value (digit - 48) (10 ^ length more) (decimal_value more))

pub next_digit : (digits : List ℕ) (index value digit total : ℕ) → index < length digits → digit ≡ get_or digits index 0 - 48 → total ≡ value * 10 ^ length (drop index digits) + decimal_value (drop index digits) → total ≡ (value * 10 + digit) * 10 ^ length (drop (index + 1) digits) + decimal_value (drop (index + 1) digits)
next_digit digits index value digit total within is before =
    let rest : drop index digits ≡ get_or digits index 0 ∷ drop (index + 1) digits = rw (add-one, drop-cons digits index 0) refl in
    let here = rw rest at before in
    here ∙ onto_value value (get_or digits index 0) (drop (index + 1) digits) ∙ rw (sym is) refl

pub next_below : (value digit index : ℕ) → value < 10 ^ index → digit < 10 → value * 10 + digit < 10 ^ (index + 1)
next_below value digit index below small = rw (add-one, pow-suc) (omega arith)

pub next_fits : (value index : ℕ) → value < 10 ^ index → index < MAX_DIGITS → value * 10 + 9 < 2 ^ 64
next_fits value index below few =
    let most : 10 ^ index ≤ 10 ^ 15 = pow-le-pow_right (lit< tt) {i = index} {j = 15} (omega arith) in
    omega arith

pub at_most_all : (value index : ℕ) → value < 10 ^ index → index ≤ MAX_DIGITS → value < 10 ^ MAX_DIGITS
at_most_all value index below few =
    let most : 10 ^ index ≤ 10 ^ MAX_DIGITS = pow-le-pow_right (lit< tt) {i = index} {j = MAX_DIGITS} few in
    omega arith

pub digit_bounds : (b : ℕ) → is_digit b ≡ true → (48 ≤ b) × (b ≤ 57)
digit_bounds b is = (grind (arith, nat_tests), grind (arith, nat_tests))

-- whether all of the rest are digits, by the first of the rest
pub all_digits : (word : List ℕ) (index : ℕ) → index < length word
    → list_all is_digit (drop index word) ≡ (is_digit (get_or word index 0) && list_all is_digit (drop (index + 1) word))
all_digits word index within =
    let rest : drop index word ≡ get_or word index 0 ∷ drop (index + 1) word = rw (add-one, drop-cons word index 0) refl in
    rw rest refl
