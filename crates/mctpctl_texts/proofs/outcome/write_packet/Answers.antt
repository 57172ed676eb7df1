-- The packet's digits stand where the line begins, and the end of the line stood there before.
use Rattle.std.proofs.Common.{◌*◌, length, ap, ◌∙◌, arith}
use Rattle.hex.specs.Hex.{encode_lower}
use Rattle.mctp_packet.specs.Packets.{written}
use Rattle.mctpctl_texts.proofs.PacketLines.{digits_of, line_put}
use Rattle.mctpctl_texts.proofs.outcome.write_packet.Goals as goal

pub returns-clause-ok : goal.returns-clause-ok
returns-clause-ok c =
    let bytes = written c.args.packet.now in
    line_put c.args.out.now.items c.deref_mut.result.now c.spell_packet.new.room (encode_lower bytes) _ _
    c.args.out.now.len c.len-start.result c.in-Some.end c.resize.new.self.len (2 * length bytes)
    c.args.out.now.ok.0 c.len-start.ensures (omega (arith, c.in-Some.ensures.1, ap length c.payload.ensures.value)) c.in_ok-resize.ensures.len
    (c.deref_mut.ensures.value ∙ c.in_ok-resize.ensures.items) (digits_of bytes) c.spell_packet.ensures
