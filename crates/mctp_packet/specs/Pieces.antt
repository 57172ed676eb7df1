-- A message's packets, by place (DSP0236, "Packetizing a message").
use Rattle.std.specs.Prelude.{ℕ, ◌+◌, ◌-◌, ◌*◌, ◌/◌, ◌%◌, ◌==◌, List, length, map, take, drop}
use Rattle.std.specs.List.{range_with_len}
use Rattle.mctp_packet.specs.Packets.{Packet, packet, written}
use Rattle.mctp_packet.specs.declared.packet.Route.{Route}
use Rattle.mctp_packet.specs.declared.TheConstants.{BASELINE_UNIT, SEQUENCE_NUMBERS}

-- how many pieces of a unit each a message has, the last of them perhaps shorter
abbrev pub piece_count : List ℕ → ℕ
piece_count message = (length message + (BASELINE_UNIT - 1)) / BASELINE_UNIT

-- piece i of a message
abbrev pub piece : List ℕ → ℕ → List ℕ
piece message i = take BASELINE_UNIT (drop (BASELINE_UNIT * i) message)

-- packet i carries piece i: the first starts the message, the last ends it, and numbers rise from 0
abbrev pub packet_at : Route → List ℕ → ℕ → Packet
packet_at route message i =
    packet route (i == 0) (i + 1 == piece_count message) (i % SEQUENCE_NUMBERS) (piece message i)

abbrev pub packets : Route → List ℕ → List Packet
packets route message = map (packet_at route message) (range_with_len 0 (piece_count message))

-- their bytes
abbrev pub written_packets : Route → List ℕ → List (List ℕ)
written_packets route message = map (λ i. written (packet_at route message i)) (range_with_len 0 (piece_count message))
