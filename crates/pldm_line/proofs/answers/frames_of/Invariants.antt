-- The frames so far are those of the packets so far.
use Rattle.std.proofs.Common.{◌≡◌, ◌≤◌, ◌*◌, length, map}
use Rattle.std.specs.List.{flat_map, range_with_len}
use Rattle.mctp_packet.specs.Packets.{written}
use Rattle.mctp_packet.specs.Pieces.{packet_at, piece_count}
use Rattle.mctp_serial.specs.Frames.{frame}
use Rattle.mctp_serial.specs.declared.TheConstants.{MAX_FRAME_BYTES}
use Rattle.pldm_line.proofs.answers.frames_of.Given as goal

abbrev pub invariant-loop-i : goal.invariant-loop-i
invariant-loop-i l = record {
  added : l.frames.items ≡ flat_map frame (map (λ i. written (packet_at l.route l.message i)) (range_with_len 0 l.i));
  few : length l.frames.items ≤ MAX_FRAME_BYTES * l.i;
  end : l.i-end ≡ piece_count l.message;
}
