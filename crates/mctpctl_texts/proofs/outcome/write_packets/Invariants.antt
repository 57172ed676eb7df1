-- The text of the packets so far was added.
use Rattle.std.proofs.Common.{◌≡◌, ◌++◌, take}
use Rattle.mctp_packet.specs.Pieces.{piece_count, written_packets}
use Rattle.mctpctl_texts.specs.OutcomeTexts.{packets_text}
use Rattle.mctpctl_texts.proofs.outcome.write_packets.Given as goal

abbrev pub invariant-loop-i : goal.invariant-loop-i
invariant-loop-i l = record {
  written : l.out.items ≡ l.initial.out.items ++ packets_text (take l.i (written_packets l.route l.message));
  end : l.i-end ≡ piece_count l.message;
}
