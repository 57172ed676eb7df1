-- What was read has been heard.
use Rattle.std.proofs.Common.{◌≡◌, List, ℕ, false, true}
use Rattle.std.specs.Io.KnownBytes.{Consumes}
use Rattle.pldm_line.specs.Heard.{Hears, shown}
use Rattle.pldm_responder.specs.Performing.{rules_of}
use Rattle.pldm_line.proofs.served_line.serve.Given as goal

abbrev pub invariant-loop : goal.invariant-loop
invariant-loop g l = record {
  taken : List ℕ;
  consumed : Consumes (g.R.Read.remaining l.initial.reader.inner) (g.R.Read.remaining l.reader.inner) taken;
  heard : Hears g.P.Platform.performed (rules_of g.P.Platform.answer g.P.Platform.after g.P.Platform.sensed) g.L.Watch.sees
      (shown g.C.Ticks.to_come g.W.Write.contents l.initial.line l.initial.writer) taken
      (shown g.C.Ticks.to_come g.W.Write.contents l.line l.writer);
  reads : l.reader.failed ≡ false;
  writes : l.writer.failed ≡ false;
  flushed : l.initial.writer.flushed ≡ true → l.writer.flushed ≡ true;
}
