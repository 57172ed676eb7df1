-- The packet in the bytes of a frame on a serial line.
use Rattle.std.specs.Prelude.{ℕ, List, [], ◌∷◌, Result, Ok, Err}
use Rattle.mctp_serial.specs.Readings.{Reading, step}
use Rattle.mctp_serial.specs.declared.fault.SerialFault.{SerialFault}
use Rattle.mctp_serial.specs.declared.fault.SerialFault.TheVariants.{CutShort, NoEnd}
use Rattle.mctp_serial.specs.declared.reader.FrameEvent.{FrameEvent}
use Rattle.mctp_serial.specs.declared.reader.FrameEvent.TheVariants.{Nothing, Packet, Dropped}

-- what a byte gives decides, and else the bytes after it, `later`; the last byte has to give the packet
abbrev pub first_given : FrameEvent → List ℕ → Result (List ℕ) SerialFault → Result (List ℕ) SerialFault
first_given Nothing after later = later
first_given (Packet packet) [] later = Ok packet.items
first_given (Packet packet) (byte ∷ after) later = Err NoEnd
first_given (Dropped fault) after later = Err fault

-- the packet that the last of the bytes gives, or the first fault; bytes that give nothing are cut short
abbrev pub serial_packet : Reading → List ℕ → Result (List ℕ) SerialFault
serial_packet reading [] = Err CutShort
serial_packet reading (byte ∷ bytes) =
    first_given (step reading byte).event bytes (serial_packet (step reading byte).next bytes)
