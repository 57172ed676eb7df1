-- How many digits a number has, and how they stand in their place.
use Rattle.std.proofs.Common.{◌≡◌, ℕ, zero, suc, ◌+◌, ◌*◌, ◌/◌, ◌%◌, ◌^◌, ◌<◌, ◌≤◌, [], ◌∷◌, length, sym, ap, ◌∙◌, arith, length-append}
use Rattle.std.specs.Fmt.{decimal}
use Rattle.std.proofs.Math.Nat.{pow-succ'}
use Rattle.std.proofs.lemmas.Fmt.{decimal_digit, decimal_step}

some_power : (k : ℕ) → 0 < 10 ^ k
some_power zero = omega arith
some_power (suc k) = omega (arith, some_power k, pow-succ' 10 k)

-- the power of ten that a number reaches gives how many digits it has
pub digits_by_power : (k n : ℕ) → 10 ^ k ≤ n → n < 10 * 10 ^ k → n < 2 ^ 64 → length (decimal n) ≡ k + 1
digits_by_power zero n low high small = ap length (decimal_digit n (omega arith))
digits_by_power (suc k) n low high small =
    let power = pow-succ' 10 k in
    let few : length (decimal (n / 10)) ≡ k + 1 = digits_by_power k (n / 10) (omega (arith, power)) (omega (arith, power)) (omega arith) in
    ap length (decimal_step n (omega (arith, power, some_power k)) small)
    ∙ length-append (decimal (n / 10)) ((48 + n % 10) ∷ []) ∙ omega (arith, few)

pub digit_of_zero : (n : ℕ) → n ≡ 0 → 1 ≡ length (decimal n)
digit_of_zero n none = sym (ap length (decimal_digit n (omega arith)))
