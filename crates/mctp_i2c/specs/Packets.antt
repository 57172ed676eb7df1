-- How long a packet that is framed may be.
use Rattle.std.specs.Prelude.{ℕ, ◌≤◌, ◌<◌, List, length, codes}
use Rattle.mctp_i2c.specs.declared.packet_length.LengthFault.{LengthFault}
use Rattle.mctp_i2c.specs.declared.packet_length.LengthFault.TheVariants.{TooShort, TooLong}
use Rattle.mctp_i2c.specs.declared.TheConstants.{MIN_PACKET_BYTES, MAX_PACKET_BYTES}

-- a header at least, and no more than a frame carries
abbrev pub HasFrame : List ℕ → Type 0
HasFrame packet = (MIN_PACKET_BYTES ≤ length packet) × (length packet ≤ MAX_PACKET_BYTES)

-- why a packet has none
abbrev pub IsLengthFault : LengthFault → List ℕ → Type 0
IsLengthFault TooShort packet = length packet < MIN_PACKET_BYTES
IsLengthFault TooLong packet = MAX_PACKET_BYTES < length packet

abbrev pub number_of_length_fault : LengthFault → ℕ
number_of_length_fault TooShort = 1
number_of_length_fault TooLong = 2

abbrev pub name_of_length_fault : LengthFault → List ℕ
name_of_length_fault TooShort = codes "TooShort"
name_of_length_fault TooLong = codes "TooLong"
