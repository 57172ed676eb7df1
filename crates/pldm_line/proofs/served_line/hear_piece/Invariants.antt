-- The bytes before `rest` have been heard.
use Rattle.std.proofs.Common.{◌≡◌, ℕ, List, ◌++◌, length, false, true}
use Rattle.pldm_line.specs.Heard.{Hears, shown}
use Rattle.pldm_responder.specs.Performing.{rules_of}
use Rattle.pldm_line.proofs.served_line.hear_piece.Given as goal

abbrev pub invariant-loop-first : goal.invariant-loop-first
invariant-loop-first g l = record {
  taken : List ℕ;
  parts : l.initial.rest ≡ taken ++ l.rest;
  heard : Hears g.P.Platform.performed (rules_of g.P.Platform.answer g.P.Platform.after g.P.Platform.sensed) g.L.Watch.sees
      (shown g.C.Ticks.to_come g.W.Write.contents l.initial.line l.initial.writer) taken
      (shown g.C.Ticks.to_come g.W.Write.contents l.line l.writer);
  works : l.writer.failed ≡ false;
  flushed : l.initial.writer.flushed ≡ true → l.writer.flushed ≡ true;
}

abbrev pub decreases-loop-first : goal.decreases-loop-first
decreases-loop-first g l = length l.rest
