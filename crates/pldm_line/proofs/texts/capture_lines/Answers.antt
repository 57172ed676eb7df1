-- A packet further, its line stands behind the others. Where there is a packet, there are bytes.
use Rattle.std.proofs.Common.{◌≡◌, ◌<◌, ◌++◌, ap, ◌∙◌, string_bytes, rules}
use Rattle.mctp_packet.specs.Packets.{Packet, written}
use Rattle.mctp_packet.specs.Pieces.{packet_at, piece_count}
use Rattle.pldm_line.specs.Logs.{capture_line}
use Rattle.pldm_line.proofs.AnswerFrames.{more_seen}
use Rattle.pldm_line.proofs.Hearing.{on_err}
use Rattle.pldm_line.proofs.LinesHaveBytes.{capture_lines_have_bytes}
use Rattle.pldm_line.proofs.texts.capture_lines.Goals as goal

pub loop-i-preserved : goal.loop-i-preserved
loop-i-preserved c =
    let i = c.loop-i.invariant in
    let at = packet_at c.args.route.now c.args.message.now in
    let line = capture_line c.args.moment in
    let added : string_bytes c.push_packet.new.lines ≡ string_bytes c.loop-i.lines ++ line (written (at c.loop-i.i)) =
    c.in_ok-push_packet.ensures ∙ ap (λ (p : Packet). string_bytes c.loop-i.lines ++ line (written p)) c.in-Some.ensures.value in
    record {
      added = more_seen line (λ k. written (at k)) c.loop-i.i (string_bytes c.loop-i.lines) (string_bytes c.push_packet.new.lines) i.added added;
      end = i.end;
    }

pub returns-in_err-push_packet-clause-memory : goal.returns-in_err-push_packet-clause-memory
returns-in_err-push_packet-clause-memory c =
    let here : c.loop-i.i < piece_count c.args.message.now = search rules in
    on_err c.from_residual.result _
    (capture_lines_have_bytes c.args.moment (λ k. written (packet_at c.args.route.now c.args.message.now k)) c.loop-i.i (piece_count c.args.message.now) here)
