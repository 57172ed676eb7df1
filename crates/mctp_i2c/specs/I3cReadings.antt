-- What the bytes of a transfer on I3C are read as.
use Rattle.std.specs.Prelude.{◌≡◌, ℕ, ◌≤◌, Bool, not, ◌==◌, nat_lt, List, [], ◌∷◌, length, Option, Result}
use Rattle.pldm_wire.specs.Crc.{crc}
use Rattle.mctp_i2c.specs.Refusals.{first_failing, unless, front, last}
use Rattle.mctp_i2c.specs.I3cFrames.{address_byte, frame}
use Rattle.mctp_i2c.specs.declared.TheConstants.{MIN_PACKET_BYTES}
use Rattle.mctp_i2c.specs.declared.i3c.TheConstants.{MIN_FRAME_BYTES}
use Rattle.mctp_i2c.specs.declared.i3c.Direction.{Direction}
use Rattle.mctp_i2c.specs.declared.i3c.I3cFault.{I3cFault}
use Rattle.mctp_i2c.specs.declared.i3c.I3cFault.TheVariants.{Short, WrongPec}

-- the bytes are the frame of a packet that has a header
pub record IsFrameOf (address : ℕ) (direction : Direction) (packet bytes : List ℕ) : Type 0 where
  pub header : MIN_PACKET_BYTES ≤ length packet
  pub bytes_are : bytes ≡ frame address direction packet

abbrev pub checks : ℕ → Direction → List ℕ → List (Bool × I3cFault)
checks address direction bytes =
    (nat_lt (length bytes) MIN_FRAME_BYTES, Short)
    ∷ (not (last bytes == crc (address_byte address direction ∷ front bytes)), WrongPec)
    ∷ []

-- the first fault of the bytes, in the order of this list
abbrev pub refusal : ℕ → Direction → List ℕ → Option I3cFault
refusal address direction bytes = first_failing (checks address direction bytes)

abbrev pub reading : ℕ → Direction → List ℕ → Result (List ℕ) I3cFault
reading address direction bytes = unless (refusal address direction bytes) (front bytes)
