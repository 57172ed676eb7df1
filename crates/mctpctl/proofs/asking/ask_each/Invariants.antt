-- The commands so far were asked.
use Rattle.std.proofs.Common.{◌≤◌, take}
use Rattle.mctpctl.specs.AskedTexts.{AsksEach, asked_so}
use Rattle.mctpctl.specs.Conversations.{IsGoingOn, printed_in, shown_in}
use Rattle.mctpctl.specs.declared.statuses.TheConstants.{DONE, FAILED}
use Rattle.mctpctl.proofs.asking.ask_each.Given as goal

abbrev pub invariant-loop-command : goal.invariant-loop-command
invariant-loop-command g l = record {
  asked : AsksEach l.question.hex (take l.command-index l.commands)
      (asked_so (shown_in g.C.Ticks.to_come g.R.Read.remaining g.W.Write.contents l.initial.conversation) (printed_in g.O.Write.contents l.initial.conversation) DONE)
      (asked_so (shown_in g.C.Ticks.to_come g.R.Read.remaining g.W.Write.contents l.conversation) (printed_in g.O.Write.contents l.conversation) l.status);
  range : l.status ≤ FAILED;
  going : IsGoingOn l.conversation;
}
