-- A packet, and the bytes that spell it (DSP0236, "MCTP packet fields").
use Rattle.std.specs.Prelude.{◌≡◌, ◌≢◌, ℕ, ◌+◌, ◌*◌, ◌<◌, ◌≤◌, Bool, List, [], ◌∷◌, length}
use Rattle.mctp_packet.specs.Bits.{bit}
use Rattle.mctp_packet.specs.Ids.{IsEid, IsTag, IsSeq}
use Rattle.mctp_packet.specs.declared.packet.Route.{Route}
use Rattle.mctp_packet.specs.declared.TheConstants.{BASELINE_UNIT, VERSION}

pub record Packet : Type 0 where
  pub route : Route
  pub start : Bool
  pub end : Bool
  pub seq : ℕ
  pub payload : List ℕ

abbrev pub packet : Route → Bool → Bool → ℕ → List ℕ → Packet
packet route start end seq payload =
    record { route = route; start = start; end = end; seq = seq; payload = payload }

-- one byte at least, and no more than the baseline transmission unit
abbrev pub HasPayloadSize : List ℕ → Type 0
HasPayloadSize bytes = (1 ≤ length bytes) × (length bytes ≤ BASELINE_UNIT)

-- each part of the packet is in its range
pub record IsPacket (p : Packet) : Type 0 where
  pub destination : IsEid p.route.destination
  pub source : IsEid p.route.source
  pub tag : IsTag p.route.tag
  pub seq : IsSeq p.seq
  pub payload : HasPayloadSize p.payload

-- SOM in bit 7, EOM in bit 6, the sequence number in bits 5:4, TO in bit 3, the tag in bits 2:0
abbrev pub flags : Packet → ℕ
flags p = 128 * bit p.start + 64 * bit p.end + 16 * p.seq + 8 * bit p.route.owner + p.route.tag

-- the bytes of a packet: reserved bits and header version, destination, source, flags, payload
abbrev pub spelling : ℕ → Packet → List ℕ
spelling reserved p = (16 * reserved + VERSION) ∷ p.route.destination ∷ p.route.source ∷ flags p ∷ p.payload

-- a written packet has reserved bits 0
abbrev pub written : Packet → List ℕ
written p = spelling 0 p

-- the bytes before its payload
abbrev pub header : Packet → List ℕ
header p = VERSION ∷ p.route.destination ∷ p.route.source ∷ flags p ∷ []

-- these bytes are the packet; its reserved bits may be any
pub record Spells (p : Packet) (bytes : List ℕ) : Type 0 where
  pub parts : IsPacket p
  pub reserved : ℕ
  pub small : reserved < 16
  pub bytes_are : bytes ≡ spelling reserved p

-- the packet is addressed to this endpoint, by another
abbrev pub IsFor : ℕ → Packet → Type 0
IsFor own p = (p.route.destination ≡ own) × (p.route.source ≢ own)
