-- Laws over the definitions alone.
use Rattle.std.specs.Prelude.{◌≡◌, ◌≢◌, ℕ, ◌+◌, ◌%◌, ◌<◌, List, length, map}
use Rattle.std.specs.Prelude.{slice_get, slice_index, drop, Some, None, Ok}
use Rattle.std.specs.List.{flat_map}
use Rattle.mctp_packet.specs.Ids.{IsEid, IsTag}
use Rattle.mctp_packet.specs.Packets.{Packet, IsPacket, Spells, IsFor, written}
use Rattle.mctp_packet.specs.Pieces.{piece_count, packet_at, packets, written_packets}
use Rattle.mctp_packet.specs.Reading.{reading}
use Rattle.mctp_packet.specs.declared.packet.Route.{Route}
use Rattle.mctp_packet.specs.declared.TheConstants.{BASELINE_UNIT}

-- what is written spells the packet
abbrev pub WrittenSpells : Type 0
WrittenSpells = (p : Packet) → IsPacket p → Spells p (written p)

-- bytes spell one packet at most
abbrev pub OnePacket : Type 0
OnePacket = (p q : Packet) (bytes : List ℕ) → Spells p bytes → Spells q bytes → p ≡ q

-- two spellings of a packet differ in bits 7:4 of the first byte alone
abbrev pub OnlyReservedDiffer : Type 0
OnlyReservedDiffer =
    (p : Packet) (a b : List ℕ)
    → Spells p a → Spells p b → (drop 1 a ≡ drop 1 b) × (slice_index a 0 % 16 ≡ slice_index b 0 % 16)

-- reading by place gives what the bytes spell
abbrev pub SpelledIsRead : Type 0
SpelledIsRead = (p : Packet) (bytes : List ℕ) → Spells p bytes → reading None bytes ≡ Ok p

-- and with the own endpoint ID, where the packet is addressed to it by another
abbrev pub SpelledIsReadFor : Type 0
SpelledIsReadFor =
    (own : ℕ) (p : Packet) (bytes : List ℕ) → Spells p bytes → IsFor own p → reading (Some own) bytes ≡ Ok p

-- what reading by place gives is spelled so
abbrev pub ReadIsSpelled : Type 0
ReadIsSpelled =
    (p : Packet) (bytes : List ℕ) → ((i : ℕ) → slice_index bytes i < 256) → reading None bytes ≡ Ok p → Spells p bytes

abbrev pub ReadForIsSpelled : Type 0
ReadForIsSpelled =
    (own : ℕ) (p : Packet) (bytes : List ℕ)
    → IsEid own → ((i : ℕ) → slice_index bytes i < 256) → reading (Some own) bytes ≡ Ok p → Spells p bytes × IsFor own p

-- a route whose parts are in their ranges
abbrev pub IsRoute : Route → Type 0
IsRoute route = IsEid route.destination × IsEid route.source × IsTag route.tag

-- each packet of a message is one
abbrev pub EachIsPacket : Type 0
EachIsPacket =
    (route : Route) (message : List ℕ) (i : ℕ)
    → IsRoute route → i < piece_count message → IsPacket (packet_at route message i)

-- each packet but the last is full
abbrev pub EachButTheLastIsFull : Type 0
EachButTheLastIsFull =
    (route : Route) (message : List ℕ) (i : ℕ)
    → i + 1 < piece_count message → length (packet_at route message i).payload ≡ BASELINE_UNIT

-- the joined payloads of a message's packets are the message
abbrev pub PacketsJoin : Type 0
PacketsJoin =
    (route : Route) (message : List ℕ) → flat_map (λ (p : Packet). p.payload) (packets route message) ≡ message

-- what `split` gives are the packets of the message, written
abbrev pub SplitsToWritten : Type 0
SplitsToWritten =
    (route : Route) (message : List ℕ) → written_packets route message ≡ map written (packets route message)

-- each of them reads back as that packet of the message, also at the endpoint that it goes to
abbrev pub SplitsReadBack : Type 0
SplitsReadBack =
    (route : Route) (message : List ℕ) (i : ℕ) (bytes : List ℕ)
    → IsRoute route → slice_get (written_packets route message) i ≡ Some bytes
    → (reading None bytes ≡ Ok (packet_at route message i))
    × (route.destination ≢ route.source → reading (Some route.destination) bytes ≡ Ok (packet_at route message i))

-- no two messages have the same packets
abbrev pub OneMessage : Type 0
OneMessage = (route : Route) (a b : List ℕ) → packets route a ≡ packets route b → a ≡ b
