-- The frames so far are those of the requests so far.
use Rattle.std.proofs.Common.{◌≡◌, false, true, take}
use Rattle.std.specs.Io.KnownBytes.{Appends}
use Rattle.pldm_line.specs.Turns.{frames_of}
use Rattle.pldm_requester.specs.Slots.{held_of}
use Rattle.pldm_line.proofs.turn.send_requests.Given as goal

abbrev pub invariant-loop-number : goal.invariant-loop-number
invariant-loop-number g l = record {
  wrote : Appends (g.W.Write.contents l.initial.writer.inner) (g.W.Write.contents l.writer.inner)
      (frames_of (held_of l.requester) (take l.number-index l.numbers));
  works : l.writer.failed ≡ false;
  flushed : l.initial.writer.flushed ≡ true → l.writer.flushed ≡ true;
}
