-- The register is the remainder of a division, bit by bit.
use Rattle.std.proofs.Common.{◌≡◌, ℕ, zero, suc, ◌+◌, ◌-◌, ◌*◌, ◌/◌, ◌%◌, ◌^◌, ◌<◌, ◌≤◌, ◌==◌, Bool, true, false, bit_xor, List, [], ◌∷◌, length, refl, sym, ap, subst, ◌∙◌, arith, inl, inr}
use Rattle.std.specs.List.{fold}
use Rattle.std.proofs.lemmas.Bool.{eqb-true, eqb-false, cases_lt}
use Rattle.std.proofs.lemmas.Nat.{pow_pos, pow-add, xor_comm, xor_lt, xor_shr, xor_mod}
use Rattle.std.proofs.Math.Nat.{pow-suc}
use Rattle.std.specs.Int.Bits.{xor_assoc, xor_self, xor_zero_r}
use Rattle.mctp_serial.specs.CheckLaws.{AreBytes, SequenceIsRemainder, OneRemainder, ShortBurstsAreReported}
use Rattle.mctp_serial.specs.CheckSequences.{bit_further, bits_further, byte_further}
use Rattle.mctp_serial.specs.Remainders.{divisor, times_divisor, IsRemainder, number_of}
use Rattle.mctp_serial.specs.declared.TheConstants.{POLYNOMIAL, START_REGISTER}
use Rattle.mctp_serial.proofs.Polynomials.{xor_zero, xor_exchange, xor_twice, same_from_xor, xor_shift, shift_then, times_divisor-xor, times_divisor-shift, times_divisor-bit}

-- one bit: what is left of the register, and the polynomial where a 1 was shifted out
further_by : (r : ℕ) (one : Bool) → (r % 2 == 1) ≡ one → bit_further r ≡ bit_xor (r / 2) (r % 2 * POLYNOMIAL)
unfolding bit_further
further_by r true p =
    let e : r % 2 ≡ 1 = eqb-true (r % 2) 1 p in
    rw e refl
further_by r false p =
    let ne = eqb-false (r % 2) 1 p in
    let e : r % 2 ≡ 0 = omega (arith, ne) in
    rw e (sym (xor_zero_r (r / 2)))

further_is : (r : ℕ) → bit_further r ≡ bit_xor (r / 2) (r % 2 * POLYNOMIAL)
further_is r = further_by r (r % 2 == 1) refl

-- of a bit, the polynomial is taken once or not at all
taken_once : (i j : ℕ) → i < 2 → j < 2 → bit_xor i j * POLYNOMIAL ≡ bit_xor (i * POLYNOMIAL) (j * POLYNOMIAL)
taken_once zero zero h g = refl
taken_once zero (suc zero) h g = refl
taken_once (suc zero) zero h g = refl
taken_once (suc zero) (suc zero) h g = refl
taken_once zero (suc (suc j)) h g = absurd (omega arith)
taken_once (suc zero) (suc (suc j)) h g = absurd (omega arith)
taken_once (suc (suc i)) j h g = absurd (omega arith)

bit_further-xor : (a b : ℕ) → bit_further (bit_xor a b) ≡ bit_xor (bit_further a) (bit_further b)
bit_further-xor a b =
    further_is (bit_xor a b)
    ∙ ap (λ x. bit_xor x (bit_xor a b % 2 * POLYNOMIAL)) (xor_shr a b 1)
    ∙ ap (λ x. bit_xor (bit_xor (a / 2) (b / 2)) (x * POLYNOMIAL)) (xor_mod a b 1)
    ∙ ap (bit_xor (bit_xor (a / 2) (b / 2))) (taken_once (a % 2) (b % 2) (omega arith) (omega arith))
    ∙ xor_exchange (a / 2) (b / 2) (a % 2 * POLYNOMIAL) (b % 2 * POLYNOMIAL)
    ∙ ap (λ x. bit_xor x (bit_xor (b / 2) (b % 2 * POLYNOMIAL))) (sym (further_is a))
    ∙ ap (bit_xor (bit_further a)) (sym (further_is b))

bits_further-xor : (n a b : ℕ) → bits_further n (bit_xor a b) ≡ bit_xor (bits_further n a) (bits_further n b)
unfolding bits_further
bits_further-xor zero a b = refl
bits_further-xor (suc n) a b = ap (bits_further n) (bit_further-xor a b) ∙ bits_further-xor n (bit_further a) (bit_further b)

bits_further-add : (m n r : ℕ) → bits_further (m + n) r ≡ bits_further n (bits_further m r)
unfolding bits_further
bits_further-add zero n r =
    let e : 0 + n ≡ n = omega arith in
    rw e refl
bits_further-add (suc m) n r =
    let e : suc m + n ≡ suc (m + n) = omega arith in
    rw e (bits_further-add m n (bit_further r))

-- a bit that is 0 is shifted out
bit_further-even : (m : ℕ) → bit_further (m * 2) ≡ m
bit_further-even m =
    let half : m * 2 / 2 ≡ m = omega arith in
    let none : m * 2 % 2 ≡ 0 = omega arith in
    further_is (m * 2) ∙ rw (half, none) (xor_zero_r m)

shifted_out : (k m : ℕ) → bits_further k (m * 2 ^ k) ≡ m
unfolding bits_further
shifted_out zero m = omega arith
shifted_out (suc k) m =
    let e : m * 2 ^ suc k ≡ m * 2 ^ k * 2 = ap (λ p. m * p) (pow-suc 2 k) ∙ omega arith in
    rw e (ap (bits_further k) (bit_further-even (m * 2 ^ k)) ∙ shifted_out k m)

-- the register after bytes is that after the bits of their number
bytes_further : (bytes : List ℕ) (r : ℕ) → AreBytes bytes → fold byte_further r bytes ≡ bits_further (8 * length bytes) (bit_xor r (number_of bytes))
unfolding bits_further byte_further
bytes_further [] r are = sym (xor_zero_r r)
bytes_further (b ∷ bytes) r are =
    let n = number_of bytes in
    let count : 8 * suc (length bytes) ≡ 8 + 8 * length bytes = omega arith in
    let number : b + n * 2 ^ 8 ≡ bit_xor (n * 2 ^ 8) b = (omega arith) ∙ shift_then n 8 b (are 0) in
    let swapped : bit_xor r (bit_xor (n * 2 ^ 8) b) ≡ bit_xor (bit_xor r b) (n * 2 ^ 8) = ap (bit_xor r) (xor_comm (n * 2 ^ 8) b) ∙ sym (xor_assoc r b (n * 2 ^ 8)) in
    bytes_further bytes (bits_further 8 (bit_xor r b)) (λ i. are (suc i))
    ∙ ap (bits_further (8 * length bytes))
    (ap (bit_xor (bits_further 8 (bit_xor r b))) (sym (shifted_out 8 n)) ∙ sym (bits_further-xor 8 (bit_xor r b) (n * 2 ^ 8)) ∙ ap (bits_further 8) (sym swapped ∙ ap (bit_xor r) (sym number)))
    ∙ sym (bits_further-add 8 (8 * length bytes) (bit_xor r (b + n * 2 ^ 8)))
    ∙ ap (λ m. bits_further m (bit_xor r (b + n * 2 ^ 8))) (sym count)

-- a bit of a number further on
less_further : (k r : ℕ) → r < 2 ^ (16 + suc k) → bit_further r < 2 ^ (16 + k)
less_further k r h =
    let size : 2 ^ (16 + suc k) ≡ 2 * 2 ^ (16 + k) = omega (arith, pow-add 2 16 (suc k), pow-add 2 16 k, pow-suc 2 k) in
    let some = pow_pos k in
    let room : 2 ^ 16 ≤ 2 ^ (16 + k) = omega (arith, pow-add 2 16 k, some) in
    rw (further_is r) (xor_lt (16 + k) (r / 2) (r % 2 * POLYNOMIAL) (omega (arith, size)) (omega (arith, room)))

in_register : (n r : ℕ) → r < 2 ^ (16 + n) → bits_further n r < 2 ^ 16
unfolding bits_further
in_register zero r h = h
in_register (suc n) r h = in_register n (bit_further r) (less_further n r h)

-- a register that is not 0 stays so
further_below : (r : ℕ) → r < 2 ^ 16 → bit_further r < 2 ^ 16
further_below r h = rw (further_is r) (xor_lt 16 (r / 2) (r % 2 * POLYNOMIAL) (omega arith) (omega arith))

none_from_none : (r : ℕ) → r < 2 ^ 16 → bit_further r ≡ 0 → r ≡ 0
none_from_none r h e =
    let same : r / 2 ≡ r % 2 * POLYNOMIAL = same_from_xor (r / 2) (r % 2 * POLYNOMIAL) (sym (further_is r) ∙ e) in
    omega (arith, same)

stays : (n r : ℕ) → r < 2 ^ 16 → bits_further n r ≡ 0 → r ≡ 0
unfolding bits_further
stays zero r h e = e
stays (suc n) r h e = none_from_none r h (stays n (bit_further r) (further_below r h) e)

burst_stays : (n burst place : ℕ) → burst < 2 ^ 16 → bits_further n (burst * 2 ^ place) ≡ 0 → burst ≡ 0
burst_stays n burst place h e =
    elim (cases_lt n place) [
      | inl past ↦
          let parts : place ≡ (place - n) + n = omega arith in
          let moved : burst * 2 ^ place ≡ burst * 2 ^ (place - n) * 2 ^ n = ap (λ k. burst * 2 ^ k) parts ∙ ap (λ p. burst * p) (pow-add 2 (place - n) n) ∙ omega arith in
          let none : burst * 2 ^ (place - n) ≡ 0 = sym (ap (bits_further n) moved ∙ shifted_out n (burst * 2 ^ (place - n))) ∙ e in
          no_product burst (2 ^ (place - n)) (pow_pos (place - n)) none
      | inr within ↦
          let parts : n ≡ place + (n - place) = omega arith in
          let out : bits_further n (burst * 2 ^ place) ≡ bits_further (n - place) burst =
          ap (λ k. bits_further k (burst * 2 ^ place)) parts ∙ bits_further-add place (n - place) (burst * 2 ^ place) ∙ ap (bits_further (n - place)) (shifted_out place burst) in
          stays (n - place) burst h (sym out ∙ e)
    ] where
      no_product : (a b : ℕ) → 0 < b → a * b ≡ 0 → a ≡ 0
      no_product zero b h g = refl
      no_product (suc a) b h g = absurd (omega (arith, g))

pub bursts_reported : ShortBurstsAreReported
bursts_reported a b burst place are_a are_b same some short apart = λ equal.
    let m = 8 * length a in
    let turned_a = bit_xor START_REGISTER (number_of a) in
    let turned_b = bit_xor START_REGISTER (number_of b) in
    let equal_bits : bits_further m turned_a ≡ bits_further m turned_b =
    sym (bytes_further a START_REGISTER are_a) ∙ equal ∙ bytes_further b START_REGISTER are_b ∙ ap (λ n. bits_further (8 * n) turned_b) (sym same) in
    let differ : bit_xor turned_a turned_b ≡ burst * 2 ^ place =
    xor_exchange START_REGISTER (number_of a) START_REGISTER (number_of b) ∙ xor_zero (bit_xor (number_of a) (number_of b)) ∙ apart in
    let gone : bits_further m (burst * 2 ^ place) ≡ 0 =
    ap (bits_further m) (sym differ) ∙ bits_further-xor m turned_a turned_b ∙ ap (λ x. bit_xor x (bits_further m turned_b)) equal_bits ∙ xor_self (bits_further m turned_b) in
    some (burst_stays m burst place short gone)

-- a multiple of the divisor is shifted out
bit_further-divisor : (bit : ℕ) → bit < 2 → bit_further (bit * divisor) ≡ 0
unfolding bit_further
bit_further-divisor zero h = refl
bit_further-divisor (suc zero) h = refl
bit_further-divisor (suc (suc bit)) h = absurd (omega arith)

-- of a factor, its lowest bit and the others
times_divisor-split : (q : ℕ) → times_divisor q ≡ bit_xor (times_divisor (q / 2) * 2) (q % 2 * divisor)
times_divisor-split q =
    let parts : q ≡ q / 2 * 2 ^ 1 + q % 2 = omega arith in
    ap times_divisor (parts ∙ shift_then (q / 2) 1 (q % 2) (omega arith))
    ∙ times_divisor-xor (q / 2 * 2 ^ 1) (q % 2)
    ∙ ap (λ x. bit_xor x (times_divisor (q % 2))) (times_divisor-shift (q / 2) 1)
    ∙ ap (bit_xor (times_divisor (q / 2) * 2)) (times_divisor-bit (q % 2) (omega arith))

further_divisor : (q : ℕ) → bit_further (times_divisor q) ≡ times_divisor (q / 2)
further_divisor q =
    ap bit_further (times_divisor-split q)
    ∙ bit_further-xor (times_divisor (q / 2) * 2) (q % 2 * divisor)
    ∙ ap (λ x. bit_xor x (bit_further (q % 2 * divisor))) (bit_further-even (times_divisor (q / 2)))
    ∙ ap (bit_xor (times_divisor (q / 2))) (bit_further-divisor (q % 2) (omega arith))
    ∙ xor_zero_r (times_divisor (q / 2))

divisor_gone : (n q : ℕ) → q < 2 ^ n → bits_further n (times_divisor q) ≡ 0
unfolding bits_further
divisor_gone zero q h =
    let none : q ≡ 0 = omega arith in
    rw none refl
divisor_gone (suc n) q h = ap (bits_further n) (further_divisor q) ∙ divisor_gone n (q / 2) (omega (arith, pow-suc 2 n))

-- so the remainder is what is left after its quotient's bits
left_is : (n number remainder : ℕ) → IsRemainder n number remainder → remainder ≡ bits_further n number
left_is n number remainder h =
    sym
    (ap (bits_further n) h.divided
    ∙ bits_further-xor n (times_divisor h.quotient) (remainder * 2 ^ n)
    ∙ ap (λ x. bit_xor x (bits_further n (remainder * 2 ^ n))) (divisor_gone n h.quotient h.short)
    ∙ xor_zero (bits_further n (remainder * 2 ^ n))
    ∙ shifted_out n remainder)

pub one_remainder : OneRemainder
one_remainder n number remainder other h g = left_is n number remainder h ∙ sym (left_is n number other g)

-- a number is what is left after one bit, and the divisor where that bit is 1
back_one : (x : ℕ) → x ≡ bit_xor (bit_further x * 2) (x % 2 * divisor)
back_one x =
    let i = x % 2 in
    let low = i * POLYNOMIAL in
    let doubled : bit_further x * 2 ≡ bit_xor (x / 2 * 2) (low * 2) = ap (λ y. y * 2) (further_is x) ∙ xor_shift (x / 2) low 1 in
    let parts : i * divisor ≡ bit_xor (low * 2) i = (omega arith) ∙ shift_then low 1 i (omega arith) in
    let whole : x ≡ bit_xor (x / 2 * 2) i = (omega arith) ∙ shift_then (x / 2) 1 i (omega arith) in
    whole
    ∙ ap (bit_xor (x / 2 * 2)) (sym (xor_twice (low * 2) i))
    ∙ sym (xor_assoc (x / 2 * 2) (low * 2) (bit_xor (low * 2) i))
    ∙ ap (λ y. bit_xor y (bit_xor (low * 2) i)) (sym doubled)
    ∙ ap (bit_xor (bit_further x * 2)) (sym parts)

divides : (n x : ℕ) → (q : ℕ) × (q < 2 ^ n) × (x ≡ bit_xor (times_divisor q) (bits_further n x * 2 ^ n))
unfolding bits_further
divides zero x = (0, omega arith, (omega arith) ∙ sym (xor_zero (x * 2 ^ 0)))
divides (suc n) x =
    let before = divides n (bit_further x) in
    let p = before.0 in
    let i = x % 2 in
    let left = bits_further n (bit_further x) in
    let q = p * 2 + i in
    let small : q < 2 ^ suc n = omega (arith, before.1, pow-suc 2 n) in
    let halved : q / 2 ≡ p = omega arith in
    let lowest : q % 2 ≡ i = omega arith in
    let multiple : times_divisor q ≡ bit_xor (times_divisor p * 2) (i * divisor) =
    times_divisor-split q ∙ ap (λ y. bit_xor (times_divisor y * 2) (q % 2 * divisor)) halved ∙ ap (λ y. bit_xor (times_divisor p * 2) (y * divisor)) lowest in
    let powers : left * 2 ^ n * 2 ≡ left * 2 ^ suc n = sym (ap (λ p. left * p) (pow-suc 2 n) ∙ omega arith) in
    let doubled : bit_further x * 2 ≡ bit_xor (times_divisor p * 2) (left * 2 ^ suc n) =
    ap (λ y. y * 2) before.2 ∙ xor_shift (times_divisor p) (left * 2 ^ n) 1 ∙ ap (bit_xor (times_divisor p * 2)) powers in (
      q,
      small,
      back_one x
          ∙ ap (λ y. bit_xor y (i * divisor)) doubled
          ∙ xor_assoc (times_divisor p * 2) (left * 2 ^ suc n) (i * divisor)
          ∙ ap (bit_xor (times_divisor p * 2)) (xor_comm (left * 2 ^ suc n) (i * divisor))
          ∙ sym (xor_assoc (times_divisor p * 2) (i * divisor) (left * 2 ^ suc n))
          ∙ ap (λ y. bit_xor y (left * 2 ^ suc n)) (sym multiple),
    )

number_below : (bytes : List ℕ) → AreBytes bytes → number_of bytes < 2 ^ (8 * length bytes)
number_below [] are = omega arith
number_below (b ∷ bytes) are =
    let size : 2 ^ (8 * suc (length bytes)) ≡ 2 ^ (8 * length bytes) * 2 ^ 8 = (ap (λ k. 2 ^ k) (omega arith)) ∙ pow-add 2 (8 * length bytes) 8 in
    omega (arith, size, are 0, number_below bytes (λ i. are (suc i)))

pub sequence_is_remainder : SequenceIsRemainder
sequence_is_remainder bytes are =
    let n = 8 * length bytes in
    let number = bit_xor START_REGISTER (number_of bytes) in
    let room : 2 ^ (16 + n) ≡ 2 ^ 16 * 2 ^ n = pow-add 2 16 n in
    let some = pow_pos n in
    let small : number < 2 ^ (16 + n) = xor_lt (16 + n) START_REGISTER (number_of bytes) (omega (arith, room, some)) (omega (arith, room, number_below bytes are)) in
    let parts = divides n number in
    let remainder : IsRemainder n number (bits_further n number) = record { below = in_register n number small; quotient = parts.0; short = parts.1; divided = parts.2 } in
    subst (λ (x : ℕ). IsRemainder n number x) (sym (bytes_further bytes START_REGISTER are)) remainder
