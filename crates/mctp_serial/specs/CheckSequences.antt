-- The frame check sequence of a packet: FCS-16 (RFC 1662, "Fast Frame Check Sequence (FCS) Implementation") over the
-- revision, the count and the packet before it is escaped, with no complement at its end (DSP0253).
use Rattle.std.specs.Prelude.{ℕ, zero, suc, ◌%◌, ◌/◌, ◌==◌, bit_xor, List, ◌∷◌, length, if◌then◌else◌}
use Rattle.std.specs.List.{fold}
use Rattle.mctp_serial.specs.declared.TheConstants.{POLYNOMIAL, REVISION, START_REGISTER}

-- the register after one bit more: its lowest bit is shifted out, and the polynomial is subtracted where that is 1
unfoldable pub bit_further : ℕ → ℕ
bit_further register = if register % 2 == 1 then bit_xor (register / 2) POLYNOMIAL else register / 2

-- after so many bits more
unfoldable pub bits_further : ℕ → ℕ → ℕ
bits_further zero register = register
bits_further (suc n) register = bits_further n (bit_further register)

-- after one byte more, which is added to its low bits
unfoldable pub byte_further : ℕ → ℕ → ℕ
byte_further register byte = bits_further 8 (bit_xor register byte)

-- what is checked: the revision, the count and the packet
abbrev pub checked : List ℕ → List ℕ
checked packet = REVISION ∷ length packet ∷ packet

abbrev pub check_sequence : List ℕ → ℕ
check_sequence packet = fold byte_further START_REGISTER (checked packet)
