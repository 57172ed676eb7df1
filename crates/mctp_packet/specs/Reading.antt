-- The packet that bytes spell, as a function by place, for histories that are lists of byte strings.
use Rattle.std.specs.Prelude.{ℕ, ◌/◌, ◌%◌, List, slice_index, drop, Option, Some, None, Result, Ok, Err}
use Rattle.mctp_packet.specs.Bits.{is_set}
use Rattle.mctp_packet.specs.Packets.{Packet, packet}
use Rattle.mctp_packet.specs.Refusals.{refusal}
use Rattle.mctp_packet.specs.declared.reason.Reason.{Reason}
use Rattle.mctp_packet.specs.declared.packet.Route.{Route}
use Rattle.mctp_packet.specs.declared.TheConstants.{HEADER}

abbrev pub route_of : List ℕ → Route
route_of bytes = record {
  destination = slice_index bytes 1;
  source = slice_index bytes 2;
  owner = is_set (slice_index bytes 3) 3;
  tag = slice_index bytes 3 % 8;
}

abbrev pub packet_of : List ℕ → Packet
packet_of bytes =
    packet (route_of bytes) (is_set (slice_index bytes 3) 7) (is_set (slice_index bytes 3) 6)
    (slice_index bytes 3 / 16 % 4) (drop HEADER bytes)

-- what was found, unless there is a reason against it
abbrev pub unless : {A : Type 0} → Option Reason → A → Result A Reason
unless None x = Ok x
unless (Some reason) x = Err reason

-- what reading gives, with the own endpoint ID where it is known
abbrev pub reading : Option ℕ → List ℕ → Result Packet Reason
reading own bytes = unless (refusal own bytes) (packet_of bytes)
