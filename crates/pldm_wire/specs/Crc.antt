-- The checksum of a record, CRC-8 with the polynomial x^8 + x^2 + x + 1: a remainder of polynomials
-- over two values. Such a polynomial is a number whose bits are its coefficients, bit k that of x^k.
-- So the sum of two is their bit_xor, as is the difference, and times x^k is * 2 ^ k.
use Rattle.std.specs.Prelude.{◌≡◌, ℕ, ◌+◌, ◌*◌, ◌^◌, ◌<◌, nat_lt, if◌then◌else◌}
use Rattle.std.specs.Prelude.{List, [], ◌∷◌, ◌++◌, map, replicate, bit_xor}
use Rattle.std.specs.Int.{bit_at}
use Rattle.std.specs.List.{fold, flat_map}

-- x^8 + x^2 + x + 1
abbrev pub divisor : ℕ
divisor = 0x107

-- the divisor times a polynomial: the sum of its products with x^8, x^2, x and 1
abbrev pub times_divisor : ℕ → ℕ
times_divisor factor = bit_xor (bit_xor (factor * 2 ^ 8) (factor * 2 ^ 2)) (bit_xor (factor * 2) factor)

-- the remainder of a number by the divisor: it is below x^8, and the number is the sum of it and a
-- multiple of the divisor
pub record IsRemainder (number remainder : ℕ) : Type 0 where
  pub below : remainder < 2 ^ 8
  pub quotient : ℕ
  pub divided : number ≡ bit_xor (times_divisor quotient) remainder

-- the bits of the bytes, one byte after the other, as one number
abbrev pub number_of : List ℕ → ℕ
number_of bytes = fold (λ number byte. number * 2 ^ 8 + byte) 0 bytes

-- the remainder of the bits of the bytes and then eight zeros
abbrev pub IsCrc : List ℕ → ℕ → Type 0
IsCrc bytes remainder = IsRemainder (number_of bytes * 2 ^ 8) remainder

-- the bits of a byte, the most significant first
abbrev pub bits_of : ℕ → List ℕ
bits_of byte = map (bit_at byte) (7 ∷ 6 ∷ 5 ∷ 4 ∷ 3 ∷ 2 ∷ 1 ∷ 0 ∷ [])

-- a step of the long division: the next bit is brought down, and the divisor is subtracted where it
-- goes in
abbrev pub brought_down : ℕ → ℕ → ℕ
brought_down remainder bit =
    let dividend = remainder * 2 + bit in if nat_lt dividend (2 ^ 8) then dividend else bit_xor dividend divisor

-- what the long division leaves of the bits of the bytes and then eight zeros
unfoldable pub crc : List ℕ → ℕ
crc bytes = fold brought_down 0 (flat_map bits_of bytes ++ replicate 8 0)
