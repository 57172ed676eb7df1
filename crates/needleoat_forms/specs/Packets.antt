-- What is reported of a packet, and the packets that are written (DSP0236, "MCTP packet fields").
use Rattle.std.specs.Prelude.{◌≡◌, ℕ, Bool, List, length, Result, Ok, Err}
use Rattle.mctp_packet.specs.Ids.{IsEid, IsTag}
use Rattle.mctp_packet.specs.Packets.{Packet, written}
use Rattle.mctp_packet.specs.Pieces.{packet_at}
use Rattle.mctp_packet.specs.Reasons.{number_of}
use Rattle.mctp_packet.specs.declared.packet.Route.{Route}
use Rattle.mctp_packet.specs.declared.reason.Reason.{Reason}
use Rattle.needleoat_forms.specs.declared.packet.PacketFields.{PacketFields}

-- each field is the packet's
pub record ReportsFields (p : Packet) (r : PacketFields) : Type 0 where
  pub reason : r.reason ≡ 0
  pub destination : r.destination ≡ p.route.destination
  pub source : r.source ≡ p.route.source
  pub tag : r.tag ≡ p.route.tag
  pub seq : r.seq ≡ p.seq
  pub owner : r.owner ≡ p.route.owner
  pub start : r.start ≡ p.start
  pub end : r.end ≡ p.end
  pub payload_length : r.payload_length ≡ length p.payload

-- the fields of a packet, or the number of the reason to drop it
abbrev pub ReportsPacket : Result Packet Reason → PacketFields → Type 0
ReportsPacket (Ok p) r = ReportsFields p r
ReportsPacket (Err reason) r = r.reason ≡ number_of reason

-- two endpoint IDs and a tag
abbrev pub IsRoute : ℕ → ℕ → ℕ → Type 0
IsRoute destination source tag = IsEid destination × IsEid source × IsTag tag

abbrev pub route : ℕ → ℕ → Bool → ℕ → Route
route destination source owner tag =
    record { destination = destination; source = source; owner = owner; tag = tag }

-- the bytes of packet `index` of a message on this route
abbrev pub packet_bytes : ℕ → ℕ → Bool → ℕ → List ℕ → ℕ → List ℕ
packet_bytes destination source owner tag message index =
    written (packet_at (route destination source owner tag) message index)
