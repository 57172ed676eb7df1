-- What one line of the board's capture says: nothing, or `MS` or `MS HEX`, a packet and the moment at which it came.
use Rattle.std.specs.Prelude.{ℕ, List, [], ◌∷◌, Option, None, Some, Result, Ok, Err}
use Rattle.hex.specs.Hex.{decode_of}
use Rattle.hex.specs.declared.error.FromHexError.{FromHexError}
use Rattle.line_words.specs.Lines.{said_words}
use Rattle.line_words.specs.Numbers.{number_of}
use Rattle.mctp_packet.specs.declared.TheConstants.{MAX_MOMENT}
use Rattle.fan_board.specs.declared.packet_line.LineFault.{LineFault}
use Rattle.fan_board.specs.declared.packet_line.LineFault.TheVariants.{Words, NoMoment, NoHex}
use Rattle.fan_board.specs.declared.packet_line.TimedPacket.{TimedPacket}

-- a packet, and the moment in milliseconds at which it came
pub record PacketAt : Type 0 where
  pub moment : ℕ
  pub bytes : List ℕ

-- the packet that was read
abbrev pub packet_read : TimedPacket → PacketAt
packet_read packet = record { moment = packet.moment; bytes = packet.bytes.items }

-- the moment that a word spells
abbrev pub moment_spelled : Option ℕ → Result ℕ LineFault
moment_spelled None = Err NoMoment
moment_spelled (Some moment) = Ok moment

abbrev pub moment_of : List ℕ → Result ℕ LineFault
moment_of word = moment_spelled (number_of MAX_MOMENT word)

-- the hex digits of the packet: the one word after the moment, and none where there is no word
abbrev pub digits_of : List (List ℕ) → Result (List ℕ) LineFault
digits_of [] = Ok []
digits_of (digits ∷ []) = Ok digits
digits_of (digits ∷ extra ∷ more) = Err Words

abbrev pub packet_at : ℕ → Result (List ℕ) FromHexError → Result (Option PacketAt) LineFault
packet_at moment (Ok bytes) = Ok (Some (record { moment = moment; bytes = bytes }))
packet_at moment (Err fault) = Err NoHex

-- the packet at its moment; of several faults the first in this order
abbrev pub packet_of_parts : Result (List ℕ) LineFault → Result ℕ LineFault → Result (Option PacketAt) LineFault
packet_of_parts (Err fault) moment = Err fault
packet_of_parts (Ok digits) (Err fault) = Err fault
packet_of_parts (Ok digits) (Ok moment) = packet_at moment (decode_of digits)

-- a blank line and a comment have no packet
abbrev pub packet_of_words : List (List ℕ) → Result (Option PacketAt) LineFault
packet_of_words [] = Ok None
packet_of_words (first ∷ more) = packet_of_parts (digits_of more) (moment_of first)

abbrev pub packet_of : List ℕ → Result (Option PacketAt) LineFault
packet_of line = packet_of_words (said_words line)
