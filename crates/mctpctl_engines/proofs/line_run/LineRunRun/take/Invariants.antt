-- The bytes before `rest` gave the text that was added, and whatever comes later is what the run goes on with.
use Rattle.std.proofs.Common.{◌≡◌, ◌≤◌, ◌+◌, ◌++◌, ℕ, List, length}
use Rattle.mctpctl_engines.specs.LinePieces.{run_gives}
use Rattle.mctpctl_engines.specs.Pieces.{GoesOn}
use Rattle.mctpctl_engines.proofs.line_run.LineRunRun.take.Given as goal

abbrev pub invariant-loop-line : goal.invariant-loop-line
invariant-loop-line g l = record {
  taken : List ℕ;
  text : List ℕ;
  parts : l.initial.rest ≡ taken ++ l.rest;
  added : l.out.items ≡ l.initial.out.items ++ text;
  goes : GoesOn (run_gives g.T.LineTaker.writes l.initial.self) taken text (run_gives g.T.LineTaker.writes l.self);
  counted : g.T.LineTaker.counted l.self.taker + length l.rest ≤ g.T.LineTaker.counted l.initial.self.taker + length l.initial.rest;
}

abbrev pub decreases-loop-line : goal.decreases-loop-line
decreases-loop-line g l = length l.rest
