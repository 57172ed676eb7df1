-- The answer was awaited meanwhile.
use Rattle.std.proofs.Common.{◌≡◌, false, true, length}
use Rattle.pldm_line.specs.Asked.{shown}
use Rattle.pldm_line.proofs.Awaiting.{AwaitsSo}
use Rattle.pldm_line.proofs.control.ask_control.Given as goal

abbrev pub invariant-loop : goal.invariant-loop
invariant-loop g l = record {
  so : AwaitsSo l.query l.again l.tries l.wanted l.tried
      (shown g.C.Ticks.to_come g.R.Read.remaining g.W.Write.contents l.fn.line l.fn.reader l.fn.writer)
      (shown g.C.Ticks.to_come g.R.Read.remaining g.W.Write.contents l.line l.reader l.writer);
  count : length so.awaits.turns ≡ l.counter;
  flushed : l.fn.writer.flushed ≡ true → l.writer.flushed ≡ true;
  reads : l.reader.failed ≡ false;
  writes : l.writer.failed ≡ false;
}
