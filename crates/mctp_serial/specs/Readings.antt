-- What bytes give a reader of frames, one byte after the other.
use Rattle.std.specs.Prelude.{ℕ, ◌+◌, ◌*◌, ◌==◌, nat_le, if◌then◌else◌, List, [], ◌∷◌, ◌++◌, length}
use Rattle.mctp_packet.specs.declared.TheConstants.{MAX_PACKET_BYTES}
use Rattle.mctp_serial.specs.CheckSequences.{check_sequence}
use Rattle.mctp_serial.specs.declared.TheConstants.{ESCAPE, ESCAPED_ESCAPE, ESCAPED_FLAG, FLAG, REVISION}
use Rattle.mctp_serial.specs.declared.fault.SerialFault.{SerialFault}
use Rattle.mctp_serial.specs.declared.fault.SerialFault.TheVariants.{WrongRevision, Empty, TooLong, CutShort}
use Rattle.mctp_serial.specs.declared.fault.SerialFault.TheVariants.{BadEscape, WrongCheck, NoEnd}
use Rattle.mctp_serial.specs.declared.reader.FrameEvent.{FrameEvent}
use Rattle.mctp_serial.specs.declared.reader.FrameEvent.TheVariants.{Nothing, Packet, Dropped}

-- where a reader stands
pub data Reading : Type 0 where
  -- bytes up to a flag do not count
  idle : Reading
  -- after a flag
  opened : Reading
  -- after the revision
  counting : Reading
  -- in a packet of so many bytes, of which these have come
  inside : ℕ → List ℕ → Reading
  -- the same, after an escape
  escaped : ℕ → List ℕ → Reading
  -- after the packet
  high : List ℕ → Reading
  -- after the packet and the high byte of the check sequence
  low : List ℕ → ℕ → Reading
  -- after the packet and the check sequence that was sent
  closing : List ℕ → ℕ → Reading

-- what a byte gives, and where the reader stands after it
pub record Step : Type 0 where
  pub event : FrameEvent
  pub next : Reading

abbrev pub nothing_yet : Reading → Step
nothing_yet next = record { event = Nothing; next = next }

abbrev pub packet_of : List ℕ → FrameEvent
packet_of bytes = Packet (record { items = bytes })

-- a flag opens a frame, whatever it ends; after another byte a flag is waited for
abbrev pub after_end : ℕ → Reading
after_end byte = if byte == FLAG then opened else idle

abbrev pub drops : SerialFault → ℕ → Step
drops fault byte = record { event = Dropped fault; next = after_end byte }

-- after one byte of the packet: it may have been the last
abbrev pub inside_or_past : ℕ → List ℕ → Reading
inside_or_past count bytes = if length bytes == count then high bytes else inside count bytes

abbrev pub adds : ℕ → List ℕ → ℕ → Step
adds count bytes byte = nothing_yet (inside_or_past count (bytes ++ byte ∷ []))

-- a packet is reported where the check sequence that was sent is its own
abbrev pub checks : List ℕ → ℕ → FrameEvent
checks bytes sent = if check_sequence bytes == sent then packet_of bytes else Dropped WrongCheck

abbrev pub step : Reading → ℕ → Step
step idle byte = nothing_yet (after_end byte)
step opened byte =
    if byte == FLAG then nothing_yet opened
    else (if byte == REVISION then nothing_yet counting else drops WrongRevision byte)
step counting byte =
    if byte == 0 then drops Empty byte
    else (if nat_le byte MAX_PACKET_BYTES then nothing_yet (inside byte []) else drops TooLong byte)
step (inside count bytes) byte =
    if byte == FLAG then drops CutShort byte
    else (if byte == ESCAPE then nothing_yet (escaped count bytes) else adds count bytes byte)
step (escaped count bytes) byte =
    if byte == ESCAPED_FLAG then adds count bytes FLAG
    else (if byte == ESCAPED_ESCAPE then adds count bytes ESCAPE else drops BadEscape byte)
step (high bytes) byte = nothing_yet (low bytes byte)
step (low bytes first) byte = nothing_yet (closing bytes (first * 256 + byte))
step (closing bytes sent) byte =
    if byte == FLAG then record { event = checks bytes sent; next = opened } else drops NoEnd byte

-- where the reader stands after bytes
abbrev pub after : Reading → List ℕ → Reading
after reading [] = reading
after reading (byte ∷ bytes) = after (step reading byte).next bytes

-- an event, before those that come later
abbrev pub then_event : FrameEvent → List FrameEvent → List FrameEvent
then_event Nothing later = later
then_event event later = event ∷ later

-- what the bytes give, in order
abbrev pub events_in : Reading → List ℕ → List FrameEvent
events_in reading [] = []
events_in reading (byte ∷ bytes) = then_event (step reading byte).event (events_in (step reading byte).next bytes)
