-- The bytes that were taken gave the text that was written, and whatever comes later is what the run goes on with.
use Rattle.std.proofs.Common.{◌≡◌, ◌≤◌, ◌<◌, ◌+◌, ℕ, List, [], false, length}
use Rattle.std.specs.Io.KnownBytes.{Appends, Consumes}
use Rattle.mctpctl_engines.specs.Pieces.{GoesOn}
use Rattle.mctpctl_input.specs.declared.limits.TheConstants.{MAX_INPUT}
use Rattle.mctpctl_engines.proofs.piece_loop.run_pieces.Given as goal

abbrev pub invariant-loop-count : goal.invariant-loop-count
invariant-loop-count g l = record {
  taken : List ℕ;
  text : List ℕ;
  consumed : Consumes (g.R.Read.remaining l.initial.reader.inner) (g.R.Read.remaining l.reader.inner) taken;
  written : Appends (g.W.Write.contents l.initial.writer.inner) (g.W.Write.contents l.writer.inner) text;
  goes : GoesOn (g.T.Run.gives l.initial.run) taken text (g.T.Run.gives l.run);
  limit : l.left + length taken ≡ MAX_INPUT;
  counted : g.T.Run.counted l.run ≤ length taken;
  reads : l.reader.failed ≡ false;
  writes : l.writer.failed ≡ false;
  empty : l.out.items ≡ [];
  room : 0 < length l.room;
}

abbrev pub decreases-loop-count : goal.decreases-loop-count
decreases-loop-count g l = l.left
