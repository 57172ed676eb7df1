-- Turns were taken meanwhile.
use Rattle.std.proofs.Common.{◌≡◌, ◌+◌, false, true, length}
use Rattle.pldm_line.specs.Asked.{Goes, shown}
use Rattle.pldm_line.specs.Ends.{IsEarly}
use Rattle.pldm_requester.specs.Slots.{held_of}
use Rattle.pldm_line.proofs.asking_line.listen.Given as goal

abbrev pub invariant-loop : goal.invariant-loop
invariant-loop g l = record {
  goes : Goes (IsEarly l.end)
      (shown g.C.Ticks.to_come g.R.Read.remaining g.W.Write.contents l.initial.line l.initial.reader l.initial.writer)
      (shown g.C.Ticks.to_come g.R.Read.remaining g.W.Write.contents l.line l.reader l.writer);
  first : l.end ≡ (held_of l.initial.line.requester).last + l.span;
  count : length goes.turns ≡ l.counter;
  flushed : l.initial.writer.flushed ≡ true → l.writer.flushed ≡ true;
  reads : l.reader.failed ≡ false;
  writes : l.writer.failed ≡ false;
}
