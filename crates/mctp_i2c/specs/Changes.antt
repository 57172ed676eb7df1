-- Bits that change on their way: those of some bytes, as of one number (`number_of`), whose bit 0 is the last bit.
use Rattle.std.specs.Prelude.{◌≡◌, ◌≢◌, ℕ, ◌+◌, ◌*◌, ◌^◌, ◌<◌, bit_xor, List, length, slice_index}
use Rattle.pldm_wire.specs.Crc.{number_of}

abbrev pub AreBytes : List ℕ → Type 0
AreBytes bytes = (i : ℕ) → slice_index bytes i < 256

-- as many bytes as there were, which differ in those bits that are set in this number
pub record AreChanged (difference : ℕ) (bytes changed : List ℕ) : Type 0 where
  pub are_bytes : AreBytes changed
  pub as_many : length changed ≡ length bytes
  pub differ : bit_xor (number_of bytes) (number_of changed) ≡ difference

-- some of eight bits in a row
pub record IsBurst (difference : ℕ) : Type 0 where
  pub burst : ℕ
  pub place : ℕ
  pub some : burst ≢ 0
  pub short : burst < 2 ^ 8
  pub placed : difference ≡ burst * 2 ^ place

-- two bits, less than 127 apart
pub record IsTwoBits (difference : ℕ) : Type 0 where
  pub place : ℕ
  pub apart : ℕ
  pub two : 0 < apart
  pub near : apart < 127
  pub placed : difference ≡ 2 ^ place + 2 ^ (place + apart)
