-- The checksum of a few bytes, computed from the definitions.
use Rattle.std.proofs.Common.{◌≡◌, [], ◌∷◌, codes, refl}
use Rattle.std.specs.Int.{reverse_bits_onto}
use Rattle.pldm_wire.specs.Crc32.{crc32, divided_bits, divisor, exponents, times}

-- the exponents are those of the divisor
same_divisor : times exponents 1 ≡ divisor
same_divisor = refl

-- the check value of CRC-32
digits : crc32 (codes "123456789") ≡ 0xcbf43926
unfolding divided_bits reverse_bits_onto
digits = refl

-- the version 1.0.0, as it goes in one order of its bytes
a_version : crc32 (0x00 ∷ 0xf0 ∷ 0xf0 ∷ 0xf1 ∷ []) ≡ 0x4a868ffb
unfolding divided_bits reverse_bits_onto
a_version = refl
