-- A number has one remainder by the divisor, and a step of long division keeps it.
use Rattle.std.proofs.Common.{◌≡◌, ℕ, ◌+◌, ◌-◌, ◌*◌, ◌^◌, ◌<◌, nat_lt, cond, bit_xor, refl, sym, ap, subst, ◌∙◌, arith, inl, inr, lit<}
use Rattle.std.proofs.lemmas.Nat.{xor_comm, xor_lt, xor_block}
use Rattle.std.proofs.lemmas.Bool.{cases_lt, cond_below, cond_above}
use Rattle.std.specs.Int.Bits.{xor_assoc, xor_self}
use Rattle.pldm_wire.specs.Crc.{divisor, times_divisor, IsRemainder, brought_down}
use Rattle.pldm_wire.proofs.Polynomials.{xor_exchange, xor_twice, same_from_xor, xor_shift_then, times_divisor-xor, times_divisor-shift, no_low_multiple}

-- the multiples of the divisor that two remainders leave differ as the remainders do
multiples_apart : (number remainder other : ℕ) (h : IsRemainder number remainder) (g : IsRemainder number other)
    → times_divisor (bit_xor h.quotient g.quotient) ≡ bit_xor remainder other
multiples_apart number remainder other h g =
    times_divisor-xor h.quotient g.quotient
    ∙ same_from_xor (bit_xor (times_divisor h.quotient) (times_divisor g.quotient)) (bit_xor remainder other)
    (xor_exchange (times_divisor h.quotient) (times_divisor g.quotient) remainder other
    ∙ ap (λ x. bit_xor x (bit_xor (times_divisor g.quotient) other)) (sym h.divided)
    ∙ ap (bit_xor number) (sym g.divided)
    ∙ xor_self number)

pub one_remainder : (number remainder other : ℕ) → IsRemainder number remainder → IsRemainder number other → remainder ≡ other
one_remainder number remainder other h g =
    let apart = multiples_apart number remainder other h g in
    let none = no_low_multiple (bit_xor h.quotient g.quotient) (omega (arith, apart, xor_lt 8 remainder other h.below g.below)) in
    same_from_xor remainder other (sym apart ∙ ap times_divisor none)

-- adding a multiple of the divisor leaves the remainder
multiple_added : (factor number remainder : ℕ) → IsRemainder number remainder → IsRemainder (bit_xor (times_divisor factor) number) remainder
multiple_added factor number remainder h = record {
  below = h.below;
  quotient = bit_xor factor h.quotient;
  divided =
      ap (bit_xor (times_divisor factor)) h.divided
      ∙ sym (xor_assoc (times_divisor factor) (times_divisor h.quotient) remainder)
      ∙ ap (λ x. bit_xor x remainder) (sym (times_divisor-xor factor h.quotient));
}

-- a number times a power of x and low bits is a multiple of the divisor and the same of its remainder
shifted : (number remainder k low : ℕ) → low < 2 ^ k → (h : IsRemainder number remainder)
    → bit_xor (times_divisor (h.quotient * 2 ^ k)) (remainder * 2 ^ k + low) ≡ number * 2 ^ k + low
shifted number remainder k low lt h =
    ap (λ x. bit_xor x (remainder * 2 ^ k + low)) (times_divisor-shift h.quotient k)
    ∙ sym (xor_shift_then (times_divisor h.quotient) remainder k low lt)
    ∙ ap (λ x. x * 2 ^ k + low) (sym h.divided)

-- so where more bits follow, the remainder may stand for the number
pub followed : (number remainder k low next : ℕ) → low < 2 ^ k → IsRemainder number remainder
    → IsRemainder (remainder * 2 ^ k + low) next → IsRemainder (number * 2 ^ k + low) next
followed number remainder k low next lt h g =
    subst (λ (x : ℕ). IsRemainder x next) (shifted number remainder k low lt h)
    (multiple_added (h.quotient * 2 ^ k) (remainder * 2 ^ k + low) next g)

-- what is below x^8 is added to a number and to its remainder alike
pub added : (number remainder low : ℕ) → low < 2 ^ 8 → IsRemainder number remainder → IsRemainder (bit_xor number low) (bit_xor remainder low)
added number remainder low lt h = record {
  below = xor_lt 8 remainder low h.below lt;
  quotient = h.quotient;
  divided = ap (λ x. bit_xor x low) h.divided ∙ xor_assoc (times_divisor h.quotient) remainder low;
}

-- what is below x^8 is its own remainder
pub of_low : (number : ℕ) → number < 2 ^ 8 → IsRemainder number number
of_low number lt = record { below = lt; quotient = 0; divided = refl }

-- from a number of nine bits the divisor is subtracted once
of_nine_bits : (low : ℕ) → low < 2 ^ 8 → IsRemainder (2 ^ 8 + low) (bit_xor (2 ^ 8 + low) divisor)
of_nine_bits low lt = record {
  below = omega (arith, xor_block 8 1 1 low 7 lt (lit< tt), xor_lt 8 low 7 lt (lit< tt));
  quotient = 1;
  divided = sym (ap (bit_xor divisor) (xor_comm (2 ^ 8 + low) divisor) ∙ xor_twice divisor (2 ^ 8 + low));
}

subtracted : (dividend : ℕ) → dividend < 2 ^ 9 → IsRemainder dividend (cond (nat_lt dividend (2 ^ 8)) dividend (bit_xor dividend divisor))
subtracted dividend lt =
    let left = bit_xor dividend divisor in
    elim (cases_lt dividend (2 ^ 8)) [
      | inl less ↦ subst (λ (x : ℕ). IsRemainder dividend x) (cond_below dividend (2 ^ 8) dividend left less) (of_low dividend less)
      | inr more ↦
          let same : 2 ^ 8 + (dividend - 2 ^ 8) ≡ dividend = omega arith in
          let taken = subst (λ (x : ℕ). IsRemainder x (bit_xor x divisor)) same (of_nine_bits (dividend - 2 ^ 8) (omega arith)) in
          subst (λ (x : ℕ). IsRemainder dividend x) (cond_above dividend (2 ^ 8) dividend left left more refl) taken
    ]

-- a step of long division gives the remainder of the number with the next bit after it
pub next_bit : (number remainder bit : ℕ) → bit < 2 → IsRemainder number remainder → IsRemainder (number * 2 + bit) (brought_down remainder bit)
next_bit number remainder bit lt h =
    let below = h.below in
    followed number remainder 1 bit (brought_down remainder bit) lt h (subtracted (remainder * 2 + bit) (omega arith))
