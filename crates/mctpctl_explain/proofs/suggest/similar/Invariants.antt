-- The best word so far is a known one.
use Rattle.std.proofs.Common.{IfSome}
use Rattle.mctpctl_explain.specs.RepeatedWords.{IsKnown}
use Rattle.mctpctl_explain.proofs.suggest.similar.Given as goal

abbrev pub invariant-loop-name : goal.invariant-loop-name
invariant-loop-name l = IfSome l.best (IsKnown l.known)
