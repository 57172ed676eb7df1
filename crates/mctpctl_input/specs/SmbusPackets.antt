-- The packet in the bytes of a block write on SMBus or I2C, to whatever device it goes.
use Rattle.std.specs.Prelude.{ℕ, ◌/◌, ◌%◌, ◌&&◌, ◌==◌, nat_lt, List, length, slice_index, if◌then◌else◌}
use Rattle.std.specs.Prelude.{Option, Some, None, Result, Ok, Err}
use Rattle.mctp_i2c.specs.SmbusReadings.{Received, is_address, reading}
use Rattle.mctp_i2c.specs.declared.smbus.TheConstants.{MIN_FRAME_BYTES}
use Rattle.mctp_i2c.specs.declared.smbus.SmbusFault.{SmbusFault}
use Rattle.mctp_i2c.specs.declared.smbus.SmbusFault.TheVariants.{Short, NotOurs}

-- the device of a first byte: its address, before a bit that is clear
abbrev pub destination_in : ℕ → Option ℕ
destination_in byte = if byte % 2 == 0 && is_address (byte / 2) then Some (byte / 2) else None

abbrev pub packet_in : Result Received SmbusFault → Result (List ℕ) SmbusFault
packet_in (Ok received) = Ok received.packet
packet_in (Err fault) = Err fault

-- where no device is meant, the bytes are nobody's
abbrev pub smbus_packet_to : Option ℕ → List ℕ → Result (List ℕ) SmbusFault
smbus_packet_to None bytes = Err NotOurs
smbus_packet_to (Some destination) bytes = packet_in (reading destination bytes)

abbrev pub smbus_packet : List ℕ → Result (List ℕ) SmbusFault
smbus_packet bytes =
    if nat_lt (length bytes) MIN_FRAME_BYTES then Err Short
    else smbus_packet_to (destination_in (slice_index bytes 0)) bytes
