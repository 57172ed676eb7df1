-- One packet further.
use Rattle.std.proofs.Common.{◌≡◌, Some, sym, subst, slice_get, take, rules}
use Rattle.std.specs.Io.KnownBytes.{Appends}
use Rattle.std.specs.List.{flat_map}
use Rattle.std.proofs.KnownBytes.{Appends-trans}
use Rattle.pldm_line.specs.Turns.{framed}
use Rattle.pldm_line.proofs.Sending.{packet_further}
use Rattle.pldm_line.proofs.turn.send_packets.Goals as goal

pub loop-i-preserved : goal.loop-i-preserved
loop-i-preserved g c =
    let i = c.loop-i.invariant in
    let start = g.W.Write.contents c.args.writer.now.inner in
    let before = g.W.Write.contents c.loop-i.writer.inner in
    let end = g.W.Write.contents c.write_all.new.self.inner in
    let packets = c.args.packets.now in
    let packet = c.in-Some.packet.now in
    let at : slice_get packets c.loop-i.i ≡ Some packet = search rules in
    let more : Appends before end (framed packet) = search rules in
    record {
      wrote =
          subst (Appends start end) (sym (packet_further packets c.loop-i.i packet at))
          (Appends-trans start before end (flat_map framed (take c.loop-i.i packets)) (framed packet) i.wrote more);
      works = search rules;
      end = i.end;
    }
