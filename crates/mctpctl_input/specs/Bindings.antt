-- The packet in the bytes of a frame, by the frame's own addresses.
use Rattle.std.specs.Prelude.{ℕ, ◌/◌, ◌%◌, ◌==◌, if◌then◌else◌, List, [], ◌∷◌, Result, Ok, Err}
use Rattle.mctp_i2c.specs.I3cReadings.{reading}
use Rattle.mctp_i2c.specs.declared.i3c.Direction.{Direction}
use Rattle.mctp_i2c.specs.declared.i3c.Direction.TheVariants.{Read, Write}
use Rattle.mctp_i2c.specs.declared.i3c.I3cFault as i3c
use Rattle.mctp_i2c.specs.declared.i3c.I3cFault.TheVariants.{Short}
use Rattle.mctp_serial.specs.Readings.{idle}
use Rattle.mctpctl_input.specs.SerialPackets.{serial_packet}
use Rattle.mctpctl_input.specs.SmbusPackets.{smbus_packet}
use Rattle.mctpctl_input.specs.declared.binding.Binding.{Binding}
use Rattle.mctpctl_input.specs.declared.binding.Binding.TheVariants as on
use Rattle.mctpctl_input.specs.declared.frame_fault.FrameFault.{FrameFault}
use Rattle.mctpctl_input.specs.declared.frame_fault.FrameFault.TheVariants as fault
use Rattle.mctpctl_input.specs.declared.framed_packet.PacketBytes.{PacketBytes}
use Rattle.mctpctl_input.specs.declared.framed_packet.PacketBytes.TheVariants.{Slice, Unescaped}

-- the direction that an address byte of I3C begins
abbrev pub direction_in : ℕ → Direction
direction_in byte = if byte % 2 == 1 then Read else Write

-- the target and the direction are in the first byte
abbrev pub i3c_packet : List ℕ → Result (List ℕ) i3c.I3cFault
i3c_packet [] = Err Short
i3c_packet (first ∷ bytes) = reading (first / 2) (direction_in first) bytes

-- a fault of one binding as one of any
abbrev pub with_fault : {E : Type 0} → (E → FrameFault) → Result (List ℕ) E → Result (List ℕ) FrameFault
with_fault as_any (Ok packet) = Ok packet
with_fault as_any (Err fault) = Err (as_any fault)

abbrev pub packet_of : Binding → List ℕ → Result (List ℕ) FrameFault
packet_of on.I2c bytes = with_fault fault.I2c (smbus_packet bytes)
packet_of on.I3c bytes = with_fault fault.I3c (i3c_packet bytes)
packet_of on.Serial bytes = with_fault fault.Serial (serial_packet idle bytes)

abbrev pub bytes_of : PacketBytes → List ℕ
bytes_of (Slice bytes) = bytes.now
bytes_of (Unescaped bytes) = bytes.items
