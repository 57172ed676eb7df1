-- One packet more is that of one piece more.
use Rattle.std.proofs.Common.{◌∷◌, [], length, ap, ◌∙◌, length-append, arith}
use Rattle.mctp_packet.proofs.Joined.{map_more}
use Rattle.mctp_packet.proofs.PlacedPackets.{last_placed}
use Rattle.mctp_packet.proofs.pieces.put_packets.Goals as goal

pub loop-i-preserved : goal.loop-i-preserved
loop-i-preserved c =
    let i = c.loop-i.invariant in
    let placed = last_placed c.loop-i.packets.items c.push.new.self.items c.deref_mut.result.now c.new.result c.put_packet.new.bytes c.loop-i.i c.push.ensures.items c.deref_mut.ensures.value i.count in
    let more = length-append c.loop-i.packets.items (c.put_packet.new.bytes ∷ []) in
    let before = i.count in
    record {
      count = ap length placed ∙ omega (arith, more, before);
      end = i.end;
      written = map_more (λ packet. packet.items) _ _ _ c.put_packet.new.bytes c.loop-i.i i.written placed c.put_packet.ensures;
    }
