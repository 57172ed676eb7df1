-- The lines so far are those of the packets so far.
use Rattle.std.proofs.Common.{◌≡◌, map, string_bytes}
use Rattle.std.specs.List.{range_with_len}
use Rattle.mctp_packet.specs.Packets.{written}
use Rattle.mctp_packet.specs.Pieces.{packet_at, piece_count}
use Rattle.pldm_line.specs.Logs.{capture_lines}
use Rattle.pldm_line.proofs.texts.capture_lines.Given as goal

abbrev pub invariant-loop-i : goal.invariant-loop-i
invariant-loop-i l = record {
  added : string_bytes l.lines ≡ capture_lines l.moment (map (λ i. written (packet_at l.route l.message i)) (range_with_len 0 l.i));
  end : l.i-end ≡ piece_count l.message;
}
