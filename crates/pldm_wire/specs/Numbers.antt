-- Numbers and the bytes that they stand in, lowest first (DSP0240, "Byte ordering"; DSP0248, data
-- sizes).
use Rattle.std.specs.Prelude.{◌≡◌, ℕ, ◌<◌, ◌^◌, ℤ, pos, List, length, if◌then◌else◌}
use Rattle.std.specs.Int.{w64}
use Rattle.byteorder.specs.Endian.{little_from, little_number, little_bytes, low_bytes, twos_complement}
use Rattle.pldm_wire.specs.Sizes.{width, is_signed, Fits}
use Rattle.pldm_wire.specs.declared.size.Size.{Size}

-- the ranges of unsigned numbers of one, two and four bytes

abbrev pub IsU8 : ℕ → Type 0
IsU8 n = n < 2 ^ 8

abbrev pub IsU16 : ℕ → Type 0
IsU16 n = n < 2 ^ 16

abbrev pub IsU32 : ℕ → Type 0
IsU32 n = n < 2 ^ 32

-- a number with its size
pub record SizedNumber : Type 0 where
  pub size : Size
  pub value : ℤ

abbrev pub sized : Size → ℤ → SizedNumber
sized size value = record { size = size; value = value }

abbrev pub IsNumber : SizedNumber → Type 0
IsNumber number = Fits number.size number.value

-- the unsigned number stands in so many bytes
abbrev pub Stands : ℕ → ℕ → List ℕ → Type 0
Stands count number bytes = (length bytes ≡ count) × (number ≡ little_number count bytes)

-- the value of an unsigned number that was read at the size: two's complement where it is signed
abbrev pub value_of : Size → ℕ → ℤ
value_of size number = if is_signed size then twos_complement (width size) number else pos number

-- the number stands in the bytes of its size
abbrev pub StandsSized : SizedNumber → List ℕ → Type 0
StandsSized number bytes =
    (length bytes ≡ width number.size) × (number.value ≡ value_of number.size (little_number (width number.size) bytes))

-- the number of the size that stands at a place
abbrev pub number_at : Size → ℕ → List ℕ → SizedNumber
number_at size place bytes = sized size (value_of size (little_from place (width size) bytes))

-- the bytes that a number is written as
abbrev pub number_bytes : SizedNumber → List ℕ
number_bytes number = little_bytes (width number.size) (low_bytes w64 (width number.size) number.value)
