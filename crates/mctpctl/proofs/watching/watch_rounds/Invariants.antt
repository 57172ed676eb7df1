-- The conversation is going on, and the status is one of the four.
use Rattle.std.proofs.Common.{◌≤◌}
use Rattle.mctpctl.specs.Conversations.{IsGoingOn}
use Rattle.mctpctl.specs.declared.statuses.TheConstants.{FAILED}
use Rattle.mctpctl.proofs.watching.watch_rounds.Given as goal

abbrev pub invariant-loop-period : goal.invariant-loop-period
invariant-loop-period g l = record { going : IsGoingOn l.quiet; range : l.status ≤ FAILED }
