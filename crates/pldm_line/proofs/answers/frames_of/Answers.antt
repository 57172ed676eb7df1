-- A packet further, its frame stands behind the others.
use Rattle.std.proofs.Common.{◌≡◌, ℕ, List, ◌++◌, ap, ◌∙◌, arith}
use Rattle.mctp_packet.specs.Packets.{Packet, written}
use Rattle.mctp_packet.specs.Pieces.{packet_at}
use Rattle.mctp_serial.specs.Frames.{frame}
use Rattle.pldm_line.proofs.AnswerFrames.{more_seen}
use Rattle.pldm_line.proofs.answers.frames_of.Goals as goal

pub loop-i-preserved : goal.loop-i-preserved
loop-i-preserved c =
    let i = c.loop-i.invariant in
    let at = packet_at c.args.route.now c.args.message.now in
    let spelled : ℕ → List ℕ = λ k. written (at k) in
    let framed : c.frame_of.result.items ≡ frame (spelled c.loop-i.i) =
    c.frame_of.ensures ∙ ap (λ (p : Packet). frame (written p)) c.in-Some.ensures.value in
    let added : c.try_extend_from_slice.new.self.items ≡ c.loop-i.frames.items ++ frame (spelled c.loop-i.i) =
    c.in-Ok.ensures.ok ∙ ap (λ l. c.loop-i.frames.items ++ l) (c.deref.ensures.0 ∙ framed) in
    record {
      added = more_seen frame spelled c.loop-i.i c.loop-i.frames.items _ i.added added;
      few = omega (arith, i.few, c.in-Ok.ensures.len, c.deref.ensures.1);
      end = i.end;
    }
