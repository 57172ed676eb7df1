-- What bytes on SMBus are read as, by a device of the address `own`.
use Rattle.std.specs.Prelude.{◌≡◌, ℕ, ◌-◌, ◌*◌, ◌/◌, ◌%◌, ◌≤◌, Bool, not, ◌&&◌, ◌==◌, nat_lt, nat_le, List}
use Rattle.std.specs.Prelude.{[], ◌∷◌, length, drop, slice_index, Option, Some, None, Result, is_some}
use Rattle.std.specs.Prelude.{if◌then◌else◌}
use Rattle.pldm_wire.specs.Crc.{crc}
use Rattle.mctp_i2c.specs.Addresses.{IsSmbusAddress}
use Rattle.mctp_i2c.specs.Refusals.{first_failing, unless, front, last}
use Rattle.mctp_i2c.specs.SmbusFrames.{frame}
use Rattle.mctp_i2c.specs.declared.TheConstants.{MIN_SMBUS_ADDRESS, MAX_SMBUS_ADDRESS}
use Rattle.mctp_i2c.specs.declared.smbus.TheConstants.{COMMAND_CODE, FRAME_HEADER, MIN_FRAME_BYTES}
use Rattle.mctp_i2c.specs.declared.smbus.SmbusFault.{SmbusFault}
use Rattle.mctp_i2c.specs.declared.smbus.SmbusFault.TheVariants.{Short, NotOurs, OtherCommand, WrongCount}
use Rattle.mctp_i2c.specs.declared.smbus.SmbusFault.TheVariants.{NotSource, WrongPec}

-- where a packet comes from, and its bytes
pub record Received : Type 0 where
  pub source : ℕ
  pub packet : List ℕ

abbrev pub received : ℕ → List ℕ → Received
received source packet = record { source = source; packet = packet }

-- the bytes are the frame of a packet of one byte at least, from the address of a device
pub record IsFrameTo (own : ℕ) (received : Received) (bytes : List ℕ) : Type 0 where
  pub source : IsSmbusAddress received.source
  pub some : 1 ≤ length received.packet
  pub bytes_are : bytes ≡ frame received.source own received.packet

abbrev pub is_address : ℕ → Bool
is_address n = nat_le MIN_SMBUS_ADDRESS n && nat_le n MAX_SMBUS_ADDRESS

-- the address of a device before a bit that is set
abbrev pub source_in : ℕ → Option ℕ
source_in byte = if byte % 2 == 1 && is_address (byte / 2) then Some (byte / 2) else None

abbrev pub checks : ℕ → List ℕ → List (Bool × SmbusFault)
checks own bytes =
    (nat_lt (length bytes) MIN_FRAME_BYTES, Short)
    ∷ (not (slice_index bytes 0 == own * 2), NotOurs)
    ∷ (not (slice_index bytes 1 == COMMAND_CODE), OtherCommand)
    ∷ (not (slice_index bytes 2 == length bytes - 4), WrongCount)
    ∷ (not (is_some (source_in (slice_index bytes 3))), NotSource)
    ∷ (not (last bytes == crc (front bytes)), WrongPec)
    ∷ []

-- the first fault of the bytes, in the order of this list
abbrev pub refusal : ℕ → List ℕ → Option SmbusFault
refusal own bytes = first_failing (checks own bytes)

abbrev pub received_in : List ℕ → Received
received_in bytes = received (slice_index bytes 3 / 2) (drop FRAME_HEADER (front bytes))

abbrev pub reading : ℕ → List ℕ → Result Received SmbusFault
reading own bytes = unless (refusal own bytes) (received_in bytes)
