-- Polynomials over two values as numbers: their sums, their products with powers of x, and those
-- with the divisor.
use Rattle.std.proofs.Common.{◌≡◌, ℕ, zero, suc, ◌+◌, ◌*◌, ◌/◌, ◌^◌, ◌<◌, bit_xor, sym, ap, ◌∙◌, arith, add-zero, lit<}
use Rattle.std.proofs.lemmas.Nat.{pow_pos, shl-shr, xor_comm, xor_lt, xor_shr, xor_block}
use Rattle.std.proofs.Math.Nat.{pow-suc}
use Rattle.std.specs.Int.Bits.{xor_assoc, xor_self, xor_zero_r}
use Rattle.pldm_wire.specs.Crc.{times_divisor}

-- a sum of two sums, the inner terms exchanged
pub xor_exchange : (a b c d : ℕ) → bit_xor (bit_xor a b) (bit_xor c d) ≡ bit_xor (bit_xor a c) (bit_xor b d)
xor_exchange a b c d =
    xor_assoc a b (bit_xor c d)
    ∙ ap (bit_xor a) (sym (xor_assoc b c d) ∙ ap (λ x. bit_xor x d) (xor_comm b c) ∙ xor_assoc c b d)
    ∙ sym (xor_assoc a c (bit_xor b d))

-- what is added twice is gone
pub xor_twice : (a b : ℕ) → bit_xor a (bit_xor a b) ≡ b
xor_twice a b = sym (xor_assoc a a b) ∙ ap (λ x. bit_xor x b) (xor_self a)

-- two whose sum is 0 are the same
pub same_from_xor : (a b : ℕ) → bit_xor a b ≡ 0 → a ≡ b
same_from_xor a b h = sym (xor_zero_r a) ∙ ap (bit_xor a) (sym h) ∙ xor_twice a b

-- a sum times a power of x, and low bits after it
pub xor_shift_then : (a b k low : ℕ) → low < 2 ^ k → bit_xor a b * 2 ^ k + low ≡ bit_xor (a * 2 ^ k) (b * 2 ^ k + low)
xor_shift_then a b k low h =
    sym (ap (λ x. bit_xor x (b * 2 ^ k + low)) (sym (add-zero (a * 2 ^ k))) ∙ xor_block k a b 0 low (pow_pos k) h)

-- a sum times a power of x
xor_shift : (a b k : ℕ) → bit_xor a b * 2 ^ k ≡ bit_xor (a * 2 ^ k) (b * 2 ^ k)
xor_shift a b k =
    sym (add-zero (bit_xor a b * 2 ^ k)) ∙ xor_shift_then a b k 0 (pow_pos k) ∙ ap (bit_xor (a * 2 ^ k)) (add-zero (b * 2 ^ k))

zero_then : (k low : ℕ) → 0 * 2 ^ k + low ≡ low
zero_then k low = omega arith

-- low bits after a number times a power of x are added to it
pub shift_then : (a k low : ℕ) → low < 2 ^ k → a * 2 ^ k + low ≡ bit_xor (a * 2 ^ k) low
shift_then a k low h =
    ap (λ x. x * 2 ^ k + low) (sym (xor_zero_r a)) ∙ xor_shift_then a 0 k low h ∙ ap (bit_xor (a * 2 ^ k)) (zero_then k low)

-- the divisor times a sum
pub times_divisor-xor : (a b : ℕ) → times_divisor (bit_xor a b) ≡ bit_xor (times_divisor a) (times_divisor b)
times_divisor-xor a b =
    rw (xor_shift a b 8, xor_shift a b 2, xor_shift a b 1, xor_exchange (a * 2 ^ 8) (b * 2 ^ 8) (a * 2 ^ 2) (b * 2 ^ 2), xor_exchange (a * 2) (b * 2) a b)
    (xor_exchange (bit_xor (a * 2 ^ 8) (a * 2 ^ 2)) (bit_xor (b * 2 ^ 8) (b * 2 ^ 2)) (bit_xor (a * 2) a) (bit_xor (b * 2) b))

turned : (a m k : ℕ) → a * 2 ^ k * m ≡ a * m * 2 ^ k
turned a m k = omega arith

-- the divisor times a number times a power of x
pub times_divisor-shift : (a k : ℕ) → times_divisor (a * 2 ^ k) ≡ times_divisor a * 2 ^ k
times_divisor-shift a k =
    rw (xor_shift (bit_xor (a * 2 ^ 8) (a * 2 ^ 2)) (bit_xor (a * 2) a) k, xor_shift (a * 2 ^ 8) (a * 2 ^ 2) k, xor_shift (a * 2) a k, turned a (2 ^ 8) k, turned a (2 ^ 2) k, turned a 2 k)

-- what the bits of a multiple of the divisor from x^8 on have beside those of the factor
abbrev beside : ℕ → ℕ
beside a = bit_xor (a * 2 ^ 2 / 2 ^ 8) (bit_xor (a * 2 / 2 ^ 8) (a / 2 ^ 8))

high_bits : (a : ℕ) → times_divisor a / 2 ^ 8 ≡ bit_xor a (beside a)
high_bits a =
    xor_shr (bit_xor (a * 2 ^ 8) (a * 2 ^ 2)) (bit_xor (a * 2) a) 8
    ∙ ap (λ x. bit_xor x (bit_xor (a * 2) a / 2 ^ 8)) (xor_shr (a * 2 ^ 8) (a * 2 ^ 2) 8 ∙ ap (λ x. bit_xor x (a * 2 ^ 2 / 2 ^ 8)) (shl-shr a 8))
    ∙ ap (bit_xor (bit_xor a (a * 2 ^ 2 / 2 ^ 8))) (xor_shr (a * 2) a 8)
    ∙ xor_assoc a (a * 2 ^ 2 / 2 ^ 8) (bit_xor (a * 2 / 2 ^ 8) (a / 2 ^ 8))

-- where the multiple is below x^8 there are none, so the factor is a number of fewer bits
factor_of_low : (a : ℕ) → times_divisor a < 2 ^ 8 → a ≡ beside a
factor_of_low a low = same_from_xor a (beside a) (sym (high_bits a) ∙ omega arith)

shorter : (k a : ℕ) → a < 2 ^ suc k → beside a < 2 ^ k
shorter k a h =
    let fewer : a / 2 ^ 8 < 2 ^ k = omega (arith, pow_pos k, pow-suc 2 k) in
    let once : a * 2 / 2 ^ 8 < 2 ^ k = omega (arith, pow_pos k, pow-suc 2 k) in
    let twice : a * 2 ^ 2 / 2 ^ 8 < 2 ^ k = omega (arith, pow_pos k, pow-suc 2 k) in
    xor_lt k (a * 2 ^ 2 / 2 ^ 8) (bit_xor (a * 2 / 2 ^ 8) (a / 2 ^ 8)) twice (xor_lt k (a * 2 / 2 ^ 8) (a / 2 ^ 8) once fewer)

no_factor : (k a : ℕ) → a < 2 ^ k → times_divisor a < 2 ^ 8 → a ≡ 0
no_factor zero a h low = omega arith
no_factor (suc k) a h low = no_factor k a (omega (arith, factor_of_low a low, shorter k a h)) low

below_power : (a : ℕ) → a < 2 ^ a
below_power zero = lit< tt
below_power (suc a) = omega (arith, pow-suc 2 a, below_power a)

-- no multiple of the divisor is below x^8, but 0
pub no_low_multiple : (a : ℕ) → times_divisor a < 2 ^ 8 → a ≡ 0
no_low_multiple a = no_factor a a (below_power a)
