-- A step of the long division of a checksum keeps the remainder.
use Rattle.std.proofs.Common.{◌≡◌, ℕ, suc, ◌+◌, ◌-◌, ◌*◌, ◌^◌, ◌<◌, ◌≤◌, List, [], ◌∷◌, ◌++◌, length, bit_xor, refl, sym, ap, subst, ◌∙◌, arith, inl, inr, lit<, add-zero}
use Rattle.std.specs.List.{fold, flat_map}
use Rattle.std.specs.Int.Bits.{xor_assoc}
use Rattle.std.proofs.lemmas.Nat.{pow_pos, xor_comm, xor_lt, xor_block}
use Rattle.std.proofs.lemmas.Nat.Bits.{bit_at-lt}
use Rattle.std.proofs.Math.Nat.{pow-suc}
use Rattle.std.proofs.lemmas.Bool.{cases_lt, cond_below, cond_above}
use Rattle.pldm_wire.proofs.Polynomials.{shift_then, xor_exchange, xor_shift_then, xor_twice}
use Rattle.pldm_wire.specs.Crc32.{IsCrc32, IsRemainder, bit_divided, bits_of, crc32, dividend, divided_bits, divisor, exponents, times}

-- a sum times a power of x
xor_shift : (a b k : ℕ) → bit_xor a b * 2 ^ k ≡ bit_xor (a * 2 ^ k) (b * 2 ^ k)
xor_shift a b k =
    sym (add-zero (bit_xor a b * 2 ^ k)) ∙ xor_shift_then a b k 0 (pow_pos k) ∙ ap (bit_xor (a * 2 ^ k)) (add-zero (b * 2 ^ k))

-- a sum times a polynomial
times-xor : (ks : List ℕ) (a b : ℕ) → times ks (bit_xor a b) ≡ bit_xor (times ks a) (times ks b)
times-xor [] a b = refl
times-xor (k ∷ ks) a b =
    ap (λ x. bit_xor x (times ks (bit_xor a b))) (xor_shift a b k)
    ∙ ap (bit_xor (bit_xor (a * 2 ^ k) (b * 2 ^ k))) (times-xor ks a b)
    ∙ xor_exchange (a * 2 ^ k) (b * 2 ^ k) (times ks a) (times ks b)

turned : (a m : ℕ) → a * 2 * m ≡ a * m * 2
turned a m = omega arith

-- a number times x times a polynomial
times-double : (ks : List ℕ) (a : ℕ) → times ks (a * 2) ≡ times ks a * 2
times-double [] a = refl
times-double (k ∷ ks) a =
    ap (λ x. bit_xor x (times ks (a * 2))) (turned a (2 ^ k))
    ∙ ap (bit_xor (a * 2 ^ k * 2)) (times-double ks a)
    ∙ sym (xor_shift (a * 2 ^ k) (times ks a) 1)

times_one : times exponents 1 ≡ divisor
times_one = refl

-- a number from x^32 on, below x^33, is below x^32 without the divisor
pub subtracted_low : (number : ℕ) → 2 ^ 32 ≤ number → number < 2 ^ 33 → bit_xor number divisor < 2 ^ 32
subtracted_low number least below =
    let low = number - 2 ^ 32 in
    let lt : low < 2 ^ 32 = omega arith in
    let same : bit_xor (1 * 2 ^ 32 + low) (1 * 2 ^ 32 + 0x4c11db7) ≡ bit_xor 1 1 * 2 ^ 32 + bit_xor low 0x4c11db7 = xor_block 32 1 1 low 0x4c11db7 lt (lit< tt) in
    let whole : 1 * 2 ^ 32 + low ≡ number = omega arith in
    let small : bit_xor low 0x4c11db7 < 2 ^ 32 = xor_lt 32 low 0x4c11db7 lt (lit< tt) in
    subst (λ (x : ℕ). bit_xor x divisor < 2 ^ 32) whole (subst (λ (x : ℕ). x < 2 ^ 32) (sym same) (omega (arith, small)))

pub number_low : (remainder bit : ℕ) → remainder < 2 ^ 32 → bit ≤ 1 → bit_xor (remainder * 2) (bit * 2 ^ 32) < 2 ^ 33
number_low remainder bit lt few = xor_lt 33 (remainder * 2) (bit * 2 ^ 32) (omega arith) (omega arith)

-- what is divided, with the next bit
abbrev with_bit : ℕ → ℕ → ℕ
with_bit number bit = bit_xor (number * 2) (bit * 2 ^ 32)

-- it is a multiple of the divisor and the same of its remainder
doubled : (number remainder bit : ℕ) (h : IsRemainder number remainder) → with_bit number bit ≡ bit_xor (times exponents (h.quotient * 2)) (with_bit remainder bit)
doubled number remainder bit h =
    ap (λ x. bit_xor (x * 2) (bit * 2 ^ 32)) h.divided
    ∙ ap (λ x. bit_xor x (bit * 2 ^ 32)) (xor_shift (times exponents h.quotient) remainder 1)
    ∙ xor_assoc (times exponents h.quotient * 2) (remainder * 2) (bit * 2 ^ 32)
    ∙ ap (λ x. bit_xor x (with_bit remainder bit)) (sym (times-double exponents h.quotient))

next_bit : (number remainder bit : ℕ) → bit ≤ 1 → IsRemainder number remainder → IsRemainder (with_bit number bit) (bit_divided remainder bit)
next_bit number remainder bit few h =
    let left = with_bit remainder bit in
    let below : left < 2 ^ 33 = number_low remainder bit h.below few in
    elim (cases_lt left (2 ^ 32)) [
      | inl less ↦
          subst (λ (x : ℕ). IsRemainder (with_bit number bit) x) (cond_below left (2 ^ 32) left (bit_xor left divisor) less)
          (record { below = less; quotient = h.quotient * 2; divided = doubled number remainder bit h })
      | inr more ↦
          subst (λ (x : ℕ). IsRemainder (with_bit number bit) x) (cond_above left (2 ^ 32) left (bit_xor left divisor) (bit_xor left divisor) more refl)
          (record {
            below = subtracted_low left more below;
            quotient = bit_xor (h.quotient * 2) 1;
            divided =
                doubled number remainder bit h
                ∙ ap (bit_xor (times exponents (h.quotient * 2))) (sym (ap (bit_xor divisor) (xor_comm left divisor) ∙ xor_twice divisor left))
                ∙ sym (xor_assoc (times exponents (h.quotient * 2)) divisor (bit_xor left divisor))
                ∙ ap (λ x. bit_xor x (bit_xor left divisor)) (sym (times-xor exponents (h.quotient * 2) 1));
          })
    ]

abbrev AreBits : List ℕ → Type 0
AreBits [] = Unit {0}
AreBits (bit ∷ bits) = (bit < 2) × AreBits bits

both_are_bits : (bits more : List ℕ) → AreBits bits → AreBits more → AreBits (bits ++ more)
both_are_bits [] more h g = g
both_are_bits (bit ∷ bits) more h g = (h.0, both_are_bits bits more h.1 g)

of_byte_are_bits : (byte : ℕ) → AreBits (bits_of byte)
of_byte_are_bits byte =
    let bit = bit_at-lt byte in
    (bit 0, (bit 1, (bit 2, (bit 3, (bit 4, (bit 5, (bit 6, (bit 7, tt))))))))

of_bytes_are_bits : (bytes : List ℕ) → AreBits (flat_map bits_of bytes)
of_bytes_are_bits [] = tt
of_bytes_are_bits (byte ∷ bytes) = both_are_bits (bits_of byte) (flat_map bits_of bytes) (of_byte_are_bits byte) (of_bytes_are_bits bytes)

all_divided : (bits : List ℕ) (number remainder : ℕ) → AreBits bits → IsRemainder number remainder → IsRemainder (fold with_bit number bits) (fold bit_divided remainder bits)
all_divided [] number remainder are h = h
all_divided (bit ∷ bits) number remainder are h =
    all_divided bits (with_bit number bit) (bit_divided remainder bit) are.1 (next_bit number remainder bit (omega (arith, are.0)) h)

-- a number with one more bit after it
abbrev bit_after : ℕ → ℕ → ℕ
bit_after number bit = number * 2 + bit

-- what is divided is the number of the bits times x^32, and ones above them
one_step : (number ones bit : ℕ) → bit < 2 → with_bit (bit_xor (number * 2 ^ 32) ones) bit ≡ bit_xor (bit_after number bit * 2 ^ 32) (ones * 2)
one_step number ones bit lt =
    ap (λ x. bit_xor x (bit * 2 ^ 32)) (xor_shift (number * 2 ^ 32) ones 1 ∙ ap (λ x. bit_xor x (ones * 2)) (sym (turned number (2 ^ 32))))
    ∙ xor_assoc (number * 2 * 2 ^ 32) (ones * 2) (bit * 2 ^ 32)
    ∙ ap (bit_xor (number * 2 * 2 ^ 32)) (xor_comm (ones * 2) (bit * 2 ^ 32))
    ∙ sym (xor_assoc (number * 2 * 2 ^ 32) (bit * 2 ^ 32) (ones * 2))
    ∙ ap (λ x. bit_xor x (ones * 2)) (sym (xor_shift (number * 2) bit 32) ∙ ap (λ x. x * 2 ^ 32) (sym (shift_then number 1 bit lt)))

more_ones : (n ones : ℕ) → ones * 2 * 2 ^ n ≡ ones * 2 ^ suc n
more_ones n ones = omega (arith, ap (λ x. ones * x) (pow-suc 2 n))

joined : (bits : List ℕ) (number ones : ℕ) → AreBits bits → fold with_bit (bit_xor (number * 2 ^ 32) ones) bits ≡ bit_xor (fold bit_after number bits * 2 ^ 32) (ones * 2 ^ length bits)
joined [] number ones are = ap (bit_xor (number * 2 ^ 32)) (omega arith)
joined (bit ∷ bits) number ones are =
    ap (λ x. fold with_bit x bits) (one_step number ones bit are.0)
    ∙ joined bits (bit_after number bit) (ones * 2) are.1
    ∙ ap (bit_xor (fold bit_after (bit_after number bit) bits * 2 ^ 32)) (more_ones (length bits) ones)

all_joined : (bits : List ℕ) → AreBits bits → fold with_bit (2 ^ 32 - 1) bits ≡ dividend bits
all_joined bits are = joined bits 0 (2 ^ 32 - 1) are

pub crc32_is_remainder : (bytes : List ℕ) → IsCrc32 bytes (crc32 bytes)
unfolding divided_bits
crc32_is_remainder bytes =
    let are = of_bytes_are_bits bytes in
    let start : IsRemainder (2 ^ 32 - 1) (2 ^ 32 - 1) = record { below = lit< tt; quotient = 0; divided = refl } in
    record {
      remainder = divided_bits bytes;
      remains = subst (λ (x : ℕ). IsRemainder x (divided_bits bytes)) (all_joined (flat_map bits_of bytes) are) (all_divided (flat_map bits_of bytes) (2 ^ 32 - 1) (2 ^ 32 - 1) are start);
      turned = refl;
    }
