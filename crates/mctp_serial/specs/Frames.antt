-- The bytes of a packet's frame on a serial line (DSP0253).
use Rattle.std.specs.Prelude.{ℕ, ◌≤◌, ◌/◌, ◌%◌, ◌==◌, if◌then◌else◌, List, [], ◌∷◌, ◌++◌, length}
use Rattle.mctp_packet.specs.declared.TheConstants.{MAX_PACKET_BYTES}
use Rattle.mctp_serial.specs.CheckSequences.{check_sequence}
use Rattle.mctp_serial.specs.declared.TheConstants.{ESCAPE, ESCAPED_ESCAPE, ESCAPED_FLAG, FLAG, REVISION}

-- one byte at least, and no more than a packet may have
abbrev pub HasFrame : List ℕ → Type 0
HasFrame packet = (1 ≤ length packet) × (length packet ≤ MAX_PACKET_BYTES)

-- a byte of the packet as it is sent: a flag and an escape are escaped
abbrev pub spelled : ℕ → List ℕ
spelled byte =
    if byte == FLAG then ESCAPE ∷ ESCAPED_FLAG ∷ []
    else (if byte == ESCAPE then ESCAPE ∷ ESCAPED_ESCAPE ∷ [] else byte ∷ [])

abbrev pub spelled_all : List ℕ → List ℕ
spelled_all [] = []
spelled_all (byte ∷ bytes) = spelled byte ++ spelled_all bytes

-- the check sequence and the flag that end a frame
abbrev pub ending : ℕ → List ℕ
ending sequence = sequence / 256 ∷ sequence % 256 ∷ FLAG ∷ []

-- the count and the check sequence are not escaped
abbrev pub frame : List ℕ → List ℕ
frame packet = FLAG ∷ REVISION ∷ length packet ∷ (spelled_all packet ++ ending (check_sequence packet))
