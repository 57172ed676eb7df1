-- Polynomials over two values as numbers: their sums, their products with powers, and those with the divisor.
use Rattle.std.proofs.Common.{◌≡◌, ℕ, zero, suc, ◌+◌, ◌*◌, ◌^◌, ◌<◌, bit_xor, refl, sym, ap, ◌∙◌, arith, add-zero}
use Rattle.std.proofs.lemmas.Nat.{pow_pos, xor_comm, xor_block}
use Rattle.std.specs.Int.Bits.{xor_assoc, xor_self, xor_zero_r}
use Rattle.mctp_serial.specs.Remainders.{divisor, times_divisor}

pub xor_zero : (a : ℕ) → bit_xor 0 a ≡ a
xor_zero a = xor_comm 0 a ∙ xor_zero_r a

-- a sum of two sums, the inner terms exchanged
pub xor_exchange : (a b c d : ℕ) → bit_xor (bit_xor a b) (bit_xor c d) ≡ bit_xor (bit_xor a c) (bit_xor b d)
xor_exchange a b c d =
    xor_assoc a b (bit_xor c d)
    ∙ ap (bit_xor a) (sym (xor_assoc b c d) ∙ ap (λ x. bit_xor x d) (xor_comm b c) ∙ xor_assoc c b d)
    ∙ sym (xor_assoc a c (bit_xor b d))

-- what is added twice is gone
pub xor_twice : (a b : ℕ) → bit_xor a (bit_xor a b) ≡ b
xor_twice a b = sym (xor_assoc a a b) ∙ ap (λ x. bit_xor x b) (xor_self a) ∙ xor_zero b

-- two whose sum is 0 are the same
pub same_from_xor : (a b : ℕ) → bit_xor a b ≡ 0 → a ≡ b
same_from_xor a b h = sym (xor_zero_r a) ∙ ap (bit_xor a) (sym h) ∙ xor_twice a b

-- a sum behind higher powers, and some of those
xor_shift_then : (a b k low : ℕ) → low < 2 ^ k → bit_xor a b * 2 ^ k + low ≡ bit_xor (a * 2 ^ k) (b * 2 ^ k + low)
xor_shift_then a b k low h =
    sym (ap (λ x. bit_xor x (b * 2 ^ k + low)) (sym (add-zero (a * 2 ^ k))) ∙ xor_block k a b 0 low (pow_pos k) h ∙ ap (λ x. bit_xor a b * 2 ^ k + x) (xor_zero low))

pub xor_shift : (a b k : ℕ) → bit_xor a b * 2 ^ k ≡ bit_xor (a * 2 ^ k) (b * 2 ^ k)
xor_shift a b k =
    sym (add-zero (bit_xor a b * 2 ^ k)) ∙ xor_shift_then a b k 0 (pow_pos k) ∙ ap (bit_xor (a * 2 ^ k)) (add-zero (b * 2 ^ k))

zero_then : (k low : ℕ) → 0 * 2 ^ k + low ≡ low
zero_then k low = omega arith

pub shift_then : (a k low : ℕ) → low < 2 ^ k → a * 2 ^ k + low ≡ bit_xor (a * 2 ^ k) low
shift_then a k low h =
    ap (λ x. x * 2 ^ k + low) (sym (xor_zero_r a)) ∙ xor_shift_then a 0 k low h ∙ ap (bit_xor (a * 2 ^ k)) (zero_then k low)

-- the divisor times a sum
pub times_divisor-xor : (a b : ℕ) → times_divisor (bit_xor a b) ≡ bit_xor (times_divisor a) (times_divisor b)
times_divisor-xor a b =
    rw (xor_shift a b 16, xor_shift a b 11, xor_shift a b 4, xor_exchange (a * 2 ^ 16) (b * 2 ^ 16) (a * 2 ^ 11) (b * 2 ^ 11), xor_exchange (a * 2 ^ 4) (b * 2 ^ 4) a b)
    (xor_exchange (bit_xor (a * 2 ^ 16) (a * 2 ^ 11)) (bit_xor (b * 2 ^ 16) (b * 2 ^ 11)) (bit_xor (a * 2 ^ 4) a) (bit_xor (b * 2 ^ 4) b))

turned : (a m k : ℕ) → a * 2 ^ k * m ≡ a * m * 2 ^ k
turned a m k = omega arith

-- the divisor times a number behind higher powers
pub times_divisor-shift : (a k : ℕ) → times_divisor (a * 2 ^ k) ≡ times_divisor a * 2 ^ k
times_divisor-shift a k =
    rw (xor_shift (bit_xor (a * 2 ^ 16) (a * 2 ^ 11)) (bit_xor (a * 2 ^ 4) a) k, xor_shift (a * 2 ^ 16) (a * 2 ^ 11) k, xor_shift (a * 2 ^ 4) a k, turned a (2 ^ 16) k, turned a (2 ^ 11) k, turned a (2 ^ 4) k) refl

-- of one bit
pub times_divisor-bit : (bit : ℕ) → bit < 2 → times_divisor bit ≡ bit * divisor
times_divisor-bit zero h = refl
times_divisor-bit (suc zero) h = refl
times_divisor-bit (suc (suc bit)) h = absurd (omega arith)
