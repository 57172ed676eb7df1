-- Commands were asked one after another.
use Rattle.std.proofs.Common.{◌≡◌, ◌<◌, length}
use Rattle.mctpctl.proofs.WalkedOn.{WalkedSo}
use Rattle.mctpctl.specs.Conversations.{IsGoingOn}
use Rattle.mctpctl.specs.WalkedTexts.{walk_view}
use Rattle.mctpctl.specs.declared.statuses.TheConstants.{FAILED}
use Rattle.mctpctl.proofs.walking.ask_all.Given as goal

abbrev pub invariant-loop : goal.invariant-loop
invariant-loop g l = record {
  walked : WalkedSo l.status
      (walk_view g.C.Ticks.to_come g.R.Read.remaining g.W.Write.contents g.O.Write.contents l.initial.walk l.initial.conversation)
      (walk_view g.C.Ticks.to_come g.R.Read.remaining g.W.Write.contents g.O.Write.contents l.walk l.conversation);
  count : length walked.before ≡ l.counter;
  range : l.status < FAILED;
  going : IsGoingOn l.conversation;
}
