-- The check sequence as a remainder of polynomials over two values. A serial line sends the lowest bit of a byte
-- first, and that is the coefficient of the highest power. So a polynomial is a number here with the coefficient of
-- its highest power in the lowest bit. The sum of two is their bit_xor, as is the difference, and * 2 ^ k puts k higher
-- powers before.
use Rattle.std.specs.Prelude.{◌≡◌, ℕ, ◌+◌, ◌*◌, ◌^◌, ◌<◌, bit_xor, List, [], ◌∷◌, length}
use Rattle.mctp_serial.specs.declared.TheConstants.{POLYNOMIAL, START_REGISTER}

-- x^16 + x^12 + x^5 + 1
abbrev pub divisor : ℕ
divisor = 2 * POLYNOMIAL + 1

-- the divisor times a polynomial: the sum of its products with 1, x^5, x^12 and x^16
abbrev pub times_divisor : ℕ → ℕ
times_divisor factor = bit_xor (bit_xor (factor * 2 ^ 16) (factor * 2 ^ 11)) (bit_xor (factor * 2 ^ 4) factor)

-- the remainder of a number by the divisor: it is below x^16, and the number is the sum of it, behind so many higher
-- powers as the quotient has, and of a multiple of the divisor
pub record IsRemainder (powers number remainder : ℕ) : Type 0 where
  pub below : remainder < 2 ^ 16
  pub quotient : ℕ
  pub short : quotient < 2 ^ powers
  pub divided : number ≡ bit_xor (times_divisor quotient) (remainder * 2 ^ powers)

-- the bits of the bytes, one byte after the other, as one number
abbrev pub number_of : List ℕ → ℕ
number_of [] = 0
number_of (byte ∷ bytes) = byte + number_of bytes * 2 ^ 8

-- the remainder of the bits of the bytes and then sixteen zeros, the first sixteen of all of them turned
abbrev pub IsSequence : List ℕ → ℕ → Type 0
IsSequence bytes remainder = IsRemainder (8 * length bytes) (bit_xor START_REGISTER (number_of bytes)) remainder
