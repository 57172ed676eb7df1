-- Bytes with their PEC are a multiple of the divisor, and changes within eight bits in a row, or of two bits less than
-- 127 apart, make none of it.
use Rattle.std.proofs.Common.{◌≡◌, ℕ, zero, suc, ◌+◌, ◌-◌, ◌*◌, ◌/◌, ◌%◌, ◌^◌, ◌<◌, Bool, true, not, ◌&&◌}
use Rattle.std.proofs.Common.{eqb, bit_xor, List, [], ◌∷◌, refl, sym, ap, subst, ◌∙◌, arith, lit<}
use Rattle.std.proofs.lemmas.Bool.{and_parts, not-true, eqb-false}
use Rattle.std.proofs.lemmas.Grind.{fold-append}
use Rattle.std.proofs.lemmas.Nat.{pow-add, xor_comm, xor_mod}
use Rattle.std.proofs.Math.Nat.{pow-suc}
use Rattle.std.specs.Int.Bits.{xor_assoc, xor_self, xor_zero_r}
use Rattle.pldm_wire.specs.Crc.{times_divisor, IsRemainder, number_of, brought_down, crc}
use Rattle.pldm_wire.proofs.Checksums.{crc_is_remainder}
use Rattle.pldm_wire.proofs.Polynomials.{same_from_xor, shift_then, times_divisor-xor, times_divisor-shift}
use Rattle.pldm_wire.proofs.Polynomials.{no_low_multiple}
use Rattle.pldm_wire.proofs.Remainders.{one_remainder, next_bit, added, of_low}
use Rattle.mctp_i2c.specs.Changes.{AreBytes, IsBurst, IsTwoBits}
use Rattle.mctp_i2c.specs.Pecs.{with_pec}

pub record IsMultiple (number : ℕ) : Type 0 where
  pub quotient : ℕ
  pub is : number ≡ times_divisor quotient

-- bytes and their PEC, as one number
pub codeword : (bytes : List ℕ) → AreBytes bytes → IsMultiple (number_of (with_pec bytes))
codeword bytes are =
    let h = crc_is_remainder bytes are in
    let r = crc bytes in
    let q = h.quotient in
    record {
      quotient = q;
      is =
          fold-append (λ number byte. number * 2 ^ 8 + byte) 0 bytes (r ∷ [])
          ∙ shift_then (number_of bytes) 8 r h.below
          ∙ ap (λ x. bit_xor x r) h.divided
          ∙ xor_assoc (times_divisor q) r r
          ∙ ap (bit_xor (times_divisor q)) (xor_self r)
          ∙ xor_zero_r (times_divisor q);
    }

-- two multiples differ in one
pub sum_of_multiples : (a b : ℕ) → IsMultiple a → IsMultiple b → IsMultiple (bit_xor a b)
sum_of_multiples a b h g = record {
  quotient = bit_xor h.quotient g.quotient;
  is = ap (λ x. bit_xor x b) h.is ∙ ap (bit_xor (times_divisor h.quotient)) g.is
      ∙ sym (times_divisor-xor h.quotient g.quotient);
}

-- the lowest bit of a multiple is that of the factor
lowest_bit : (q : ℕ) → times_divisor q % 2 ≡ q % 2
lowest_bit q =
    let inner : bit_xor (q * 2) q % 2 ≡ q % 2 =
    xor_mod (q * 2) q 1 ∙ ap (λ x. bit_xor x (q % 2)) (let e : q * 2 % 2 ≡ 0 = omega arith in e)
    ∙ xor_comm 0 (q % 2) ∙ xor_zero_r (q % 2) in
    let outer : bit_xor (q * 2 ^ 8) (q * 2 ^ 2) % 2 ≡ 0 =
    xor_mod (q * 2 ^ 8) (q * 2 ^ 2) 1
    ∙ ap (λ x. bit_xor x (q * 2 ^ 2 % 2)) (let e : q * 2 ^ 8 % 2 ≡ 0 = omega arith in e)
    ∙ ap (bit_xor 0) (let e : q * 2 ^ 2 % 2 ≡ 0 = omega arith in e) in
    xor_mod (bit_xor (q * 2 ^ 8) (q * 2 ^ 2)) (bit_xor (q * 2) q) 1
    ∙ ap (λ x. bit_xor x (bit_xor (q * 2) q % 2)) outer
    ∙ ap (bit_xor 0) inner
    ∙ xor_comm 0 (q % 2)
    ∙ xor_zero_r (q % 2)

-- so a multiple that is shifted is a multiple before it is
pub unshifted : (place number : ℕ) → IsMultiple (number * 2 ^ place) → IsMultiple number
unshifted zero number h =
    let same : number * 2 ^ 0 ≡ number = omega arith in
    subst IsMultiple same h
unshifted (suc place) number h =
    let q = h.quotient in
    let size : number * 2 ^ suc place ≡ number * 2 ^ place * 2 = ap (λ p. number * p) (pow-suc 2 place) ∙ omega arith in
    let even : q % 2 ≡ 0 = sym (lowest_bit q) ∙ ap (λ x. x % 2) (sym h.is ∙ size) ∙ omega arith in
    let halved : q ≡ q / 2 * 2 ^ 1 = omega arith in
    let twice : times_divisor q ≡ times_divisor (q / 2) * 2 ^ 1 =
    ap times_divisor halved ∙ times_divisor-shift (q / 2) 1 in
    unshifted place number (record { quotient = q / 2; is = omega (arith, h.is, size, twice) })

pub no_burst : (difference : ℕ) → IsMultiple difference → IsBurst difference → ⊥
no_burst difference h b =
    let low = unshifted b.place b.burst (subst IsMultiple b.placed h) in
    let none = no_low_multiple low.quotient (omega (arith, low.is, b.short)) in
    b.some (low.is ∙ ap times_divisor none)

-- the remainder of a number after so many zeros more
zeros_further : ℕ → ℕ → ℕ
zeros_further zero remainder = remainder
zeros_further (suc k) remainder = zeros_further k (brought_down remainder 0)

of_power : (k number remainder : ℕ) → IsRemainder number remainder
    → IsRemainder (number * 2 ^ k) (zeros_further k remainder)
unfolding zeros_further
of_power zero number remainder h =
    let same : number ≡ number * 2 ^ 0 = omega arith in
    subst (λ (x : ℕ). IsRemainder x remainder) same h
of_power (suc k) number remainder h =
    let same : (number * 2 + 0) * 2 ^ k ≡ number * 2 ^ suc k = sym (ap (λ p. number * p) (pow-suc 2 k) ∙ omega arith) in
    subst (λ (x : ℕ). IsRemainder x (zeros_further k (brought_down remainder 0))) same
    (of_power k (number * 2 + 0) (brought_down remainder 0) (next_bit number remainder 0 (lit< tt) h))

-- none of the next so many remainders is 1
none_is_one : ℕ → ℕ → Bool
none_is_one zero remainder = true
none_is_one (suc n) remainder = not (eqb (brought_down remainder 0) 1) && none_is_one n (brought_down remainder 0)

each_is_not : (n k remainder : ℕ) → none_is_one n remainder ≡ true → k < n → zeros_further (suc k) remainder ≡ 1 → ⊥
unfolding none_is_one zeros_further
each_is_not zero k remainder h lt e = omega arith
each_is_not (suc n) zero remainder h lt e =
    let both = and_parts (not (eqb (brought_down remainder 0) 1)) (none_is_one n (brought_down remainder 0)) h in
    eqb-false (brought_down remainder 0) 1 (not-true (eqb (brought_down remainder 0) 1) both.0) e
each_is_not (suc n) (suc k) remainder h lt e =
    let both = and_parts (not (eqb (brought_down remainder 0) 1)) (none_is_one n (brought_down remainder 0)) h in
    each_is_not n k (brought_down remainder 0) both.1 (omega arith) e

-- the order of x is 127
order : none_is_one 126 1 ≡ true
unfolding none_is_one
order = refl

-- x^apart + 1 is no multiple
not_one : (apart : ℕ) → apart < 126 → IsMultiple (1 + 2 ^ suc apart) → ⊥
not_one apart near h =
    let n = 1 * 2 ^ suc apart in
    let r = zeros_further (suc apart) 1 in
    let left = added n r 1 (lit< tt) (of_power (suc apart) 1 1 (of_low 1 (lit< tt))) in
    let sum : bit_xor n 1 ≡ 1 + 2 ^ suc apart =
    sym (shift_then (2 ^ apart) 1 1 (lit< tt) ∙ ap (λ x. bit_xor x 1) (omega (arith, pow-suc 2 apart)))
    ∙ omega (arith, pow-suc 2 apart) in
    let none : IsRemainder (bit_xor n 1) 0 =
    record { below = lit< tt; quotient = h.quotient; divided = sum ∙ h.is ∙ sym (xor_zero_r (times_divisor h.quotient)) } in
    each_is_not 126 apart 1 order near (same_from_xor r 1 (one_remainder (bit_xor n 1) (bit_xor r 1) 0 left none))

pub no_two_bits : (difference : ℕ) → IsMultiple difference → IsTwoBits difference → ⊥
no_two_bits difference h t =
    let apart = t.apart - 1 in
    let one_more : t.apart ≡ suc apart = omega arith in
    let size : 2 ^ t.place + 2 ^ (t.place + t.apart) ≡ (1 + 2 ^ t.apart) * 2 ^ t.place =
    omega (arith, pow-add 2 t.place t.apart) in
    let low = unshifted t.place (1 + 2 ^ t.apart) (subst IsMultiple (t.placed ∙ size) h) in
    not_one apart (omega arith) (subst (λ (k : ℕ). IsMultiple (1 + 2 ^ k)) one_more low)
