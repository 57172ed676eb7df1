-- The frames so far are those of the packets so far.
use Rattle.std.proofs.Common.{◌≡◌, false, length, take}
use Rattle.std.specs.Io.KnownBytes.{Appends}
use Rattle.std.specs.List.{flat_map}
use Rattle.pldm_line.specs.Turns.{framed}
use Rattle.pldm_line.proofs.turn.send_packets.Given as goal

abbrev pub invariant-loop-i : goal.invariant-loop-i
invariant-loop-i g l = record {
  wrote : Appends (g.W.Write.contents l.initial.writer.inner) (g.W.Write.contents l.writer.inner)
      (flat_map framed (take l.i l.packets));
  works : l.writer.failed ≡ false;
  end : l.i-end ≡ length l.packets;
}
