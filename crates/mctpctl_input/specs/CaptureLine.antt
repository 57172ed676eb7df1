-- What one line of a capture says.
use Rattle.std.specs.Prelude.{◌≡◌, ◌≤◌, ℕ, nat_lt, if◌then◌else◌, List, [], ◌∷◌, length}
use Rattle.std.specs.Prelude.{Option, None, Some, IfSome, Result, Ok, Err, IfOk, IfErr}
use Rattle.hex.specs.Hex.{decode_of}
use Rattle.hex.specs.declared.error.FromHexError.{FromHexError}
use Rattle.line_words.specs.Lines.{said_words}
use Rattle.line_words.specs.Numbers.{decimal_of, up_to}
use Rattle.mctpctl_input.specs.declared.limits.TheConstants.{MAX_CAPTURE_LINE}
use Rattle.mctp_packet.specs.declared.TheConstants.{MAX_MOMENT}
use Rattle.mctpctl_input.specs.declared.faults.LineKind.{LineKind}
use Rattle.mctpctl_input.specs.declared.faults.LineKind.TheVariants.{LongLine, Words, Number, BackInTime, BadHex}
use Rattle.mctpctl_input.specs.declared.capture.CaptureFault.{CaptureFault}
use Rattle.mctpctl_input.specs.declared.capture.CaptureFault.TheVariants.{Line, Memory}
use Rattle.mctpctl_input.specs.declared.capture.CaptureLine.{CaptureLine}
use Rattle.mctpctl_input.specs.declared.capture.CaptureLine.TheVariants.{Skipped, Packet}

-- a packet, and the moment in milliseconds at which it came
pub record TimedPacket : Type 0 where
  pub moment : ℕ
  pub bytes : List ℕ

-- the moment, if it is not before the last one
abbrev pub moment_from : Option ℕ → ℕ → Result ℕ LineKind
moment_from None last = Err Number
moment_from (Some moment) last = if nat_lt moment last then Err BackInTime else Ok moment

-- the moment of the number that a word spells, in its range and not before the last one
abbrev pub moment_spelled : Option ℕ → ℕ → Result ℕ LineKind
moment_spelled number last = moment_from (up_to MAX_MOMENT number) last

abbrev pub moment_of : List ℕ → ℕ → Result ℕ LineKind
moment_of word last = moment_spelled (decimal_of word) last

abbrev pub packet_at : ℕ → Result (List ℕ) FromHexError → Result (Option TimedPacket) LineKind
packet_at moment (Ok bytes) = Ok (Some (record { moment = moment; bytes = bytes }))
packet_at moment (Err fault) = Err BadHex

-- the one word after the moment, which is the packet in hex and empty where there is none
abbrev pub packet_word : List (List ℕ) → Result (List ℕ) LineKind
packet_word [] = Ok []
packet_word (digits ∷ []) = Ok digits
packet_word (digits ∷ extra ∷ more) = Err Words

-- the packet at its moment; of several faults the first in this order
abbrev pub timed_packet : Result (List ℕ) LineKind → Result ℕ LineKind → Result (Option TimedPacket) LineKind
timed_packet (Err kind) moment = Err kind
timed_packet (Ok digits) (Err kind) = Err kind
timed_packet (Ok digits) (Ok moment) = packet_at moment (decode_of digits)

-- `None` where the line says nothing, as a blank line and a comment do
abbrev pub capture_of_words : List (List ℕ) → ℕ → Result (Option TimedPacket) LineKind
capture_of_words [] last = Ok None
capture_of_words (first ∷ more) last = timed_packet (packet_word more) (moment_of first last)

-- what the line says after a line with the moment `last`
unfoldable pub capture_of : List ℕ → ℕ → Result (Option TimedPacket) LineKind
capture_of line last =
    if nat_lt MAX_CAPTURE_LINE (length line) then Err LongLine else capture_of_words (said_words line) last

-- what was read of a line, where these are the bytes of its packet
abbrev pub packet_in : CaptureLine → List ℕ → Option TimedPacket
packet_in Skipped bytes = None
packet_in (Packet moment) bytes = Some (record { moment = moment; bytes = bytes })

-- a fault of the line is the one that it has; memory may be wanting at any line
abbrev pub ReportsFault : Result (Option TimedPacket) LineKind → CaptureFault → Type 0
ReportsFault said (Line kind) = said ≡ Err kind
ReportsFault said (Memory refused) = Unit {0}

-- the moment of a packet is in its range, and not before the last one
abbrev pub IsInTime : ℕ → Option TimedPacket → Type 0
IsInTime last packet = IfSome packet (λ timed. (last ≤ timed.moment) × (timed.moment ≤ MAX_MOMENT))

-- what a line says is read, with these bytes, or its fault returned
pub record ReadsLine (said : Result (Option TimedPacket) LineKind) (last : ℕ) (bytes : List ℕ)
    (result : Result CaptureLine CaptureFault) : Type 0 where
  pub ok : IfOk result (λ read. said ≡ Ok (packet_in read bytes))
  pub err : IfErr result (λ fault. ReportsFault said fault)
  pub moment : IfOk result (λ read. IsInTime last (packet_in read bytes))
