-- The checksum of versions (DSP0240, "GetPLDMVersion command"), CRC-32 as IEEE 802.3 has it: a remainder of polynomials
-- over two values. Such a polynomial is a number whose bits are its coefficients, bit k that of x^k. So the sum of two
-- is their bit_xor, as is the difference, and times x^k is * 2 ^ k.
use Rattle.std.specs.Prelude.{◌≡◌, ℕ, ◌+◌, ◌-◌, ◌*◌, ◌^◌, ◌<◌, nat_lt, if◌then◌else◌}
use Rattle.std.specs.Prelude.{List, [], ◌∷◌, length, map, bit_xor}
use Rattle.std.specs.Int.{w32, bit_at, reverse_bits}
use Rattle.std.specs.List.{fold, flat_map}

-- x^32 + x^26 + x^23 + x^22 + x^16 + x^12 + x^11 + x^10 + x^8 + x^7 + x^5 + x^4 + x^2 + x + 1, and its exponents

abbrev pub divisor : ℕ
divisor = 0x104c11db7

abbrev pub exponents : List ℕ
exponents = 32 ∷ 26 ∷ 23 ∷ 22 ∷ 16 ∷ 12 ∷ 11 ∷ 10 ∷ 8 ∷ 7 ∷ 5 ∷ 4 ∷ 2 ∷ 1 ∷ 0 ∷ []

-- a polynomial times that of these exponents: the sum of its products with the powers of x
abbrev pub times : List ℕ → ℕ → ℕ
times [] factor = 0
times (exponent ∷ rest) factor = bit_xor (factor * 2 ^ exponent) (times rest factor)

-- the remainder of a number by the divisor: it is below x^32, and the number is the sum of it and a multiple of the
-- divisor
pub record IsRemainder (number remainder : ℕ) : Type 0 where
  pub below : remainder < 2 ^ 32
  pub quotient : ℕ
  pub divided : number ≡ bit_xor (times exponents quotient) remainder

-- the bits of a byte, the least significant first
abbrev pub bits_of : ℕ → List ℕ
bits_of byte = map (bit_at byte) (0 ∷ 1 ∷ 2 ∷ 3 ∷ 4 ∷ 5 ∷ 6 ∷ 7 ∷ [])

-- bits as one number, the first the most significant
abbrev pub number_of : List ℕ → ℕ
number_of bits = fold (λ number bit. number * 2 + bit) 0 bits

-- what is divided: the bits, and then 32 zeros; of all these the first 32 bits are turned over
abbrev pub dividend : List ℕ → ℕ
dividend bits = bit_xor (number_of bits * 2 ^ 32) ((2 ^ 32 - 1) * 2 ^ length bits)

-- the remainder of the bits of the bytes, in reverse order, each of its bits turned over
pub record IsCrc32 (bytes : List ℕ) (checksum : ℕ) : Type 0 where
  pub remainder : ℕ
  pub remains : IsRemainder (dividend (flat_map bits_of bytes)) remainder
  pub turned : checksum ≡ bit_xor (reverse_bits w32 remainder) (2 ^ 32 - 1)

-- a step of the long division: the next bit is added at x^32, and the divisor is subtracted where it goes in
abbrev pub bit_divided : ℕ → ℕ → ℕ
bit_divided remainder bit =
    let number = bit_xor (remainder * 2) (bit * 2 ^ 32) in
    if nat_lt number (2 ^ 32) then number else bit_xor number divisor

-- what the long division leaves of the bits of the bytes
unfoldable pub divided_bits : List ℕ → ℕ
divided_bits bytes = fold bit_divided (2 ^ 32 - 1) (flat_map bits_of bytes)

abbrev pub crc32 : List ℕ → ℕ
crc32 bytes = bit_xor (reverse_bits w32 (divided_bits bytes)) (2 ^ 32 - 1)
