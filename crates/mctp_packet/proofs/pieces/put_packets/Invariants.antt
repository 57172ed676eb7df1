-- The packets so far are those of the pieces so far.
use Rattle.std.proofs.Common.{◌≡◌, length, map}
use Rattle.std.specs.List.{range_with_len}
use Rattle.mctp_packet.specs.Packets.{written}
use Rattle.mctp_packet.specs.Pieces.{packet_at, piece_count}
use Rattle.mctp_packet.proofs.pieces.put_packets.Given as goal

abbrev pub invariant-loop-i : goal.invariant-loop-i
invariant-loop-i l = record {
  count : length l.packets.items ≡ l.i;
  end : l.i-end ≡ piece_count l.message;
  written : map (λ packet. packet.items) l.packets.items ≡ map (λ i. written (packet_at l.route l.message i)) (range_with_len 0 l.i);
}
