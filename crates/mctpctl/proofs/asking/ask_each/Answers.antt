-- One command more was asked.
use Rattle.std.proofs.Common.{refl, rules}
use Rattle.mctpctl.proofs.CommandsAsked.{all_asked, one_more, stopped_each}
use Rattle.mctpctl.specs.AskedTexts.{asked_so}
use Rattle.mctpctl.specs.Conversations.{printed_in, shown_in}
use Rattle.mctpctl.specs.declared.statuses.TheConstants.{DONE}
use Rattle.mctpctl.proofs.asking.ask_each.Goals as goal

pub loop-command-init : goal.loop-command-init
loop-command-init g c = record { asked = refl; range = search rules; going = search rules }

pub loop-command-preserved : goal.loop-command-preserved
loop-command-preserved g c =
    let i = c.loop-command.invariant in
    record {
      asked =
          one_more c.args.question.now.hex c.args.commands.now c.loop-command.command-index c.command-item.result
          (asked_so (shown_in g.C.Ticks.to_come g.R.Read.remaining g.W.Write.contents c.args.conversation.now) (printed_in g.O.Write.contents c.args.conversation.now) DONE)
          (asked_so (shown_in g.C.Ticks.to_come g.R.Read.remaining g.W.Write.contents c.loop-command.conversation) (printed_in g.O.Write.contents c.loop-command.conversation) c.loop-command.status)
          (asked_so (shown_in g.C.Ticks.to_come g.R.Read.remaining g.W.Write.contents c.ask_one.new.conversation) (printed_in g.O.Write.contents c.ask_one.new.conversation) c.max-status.result)
          c.in-Ok.one c.loop-command-test.true c.command-item.is i.asked c.in-Ok.ensures.asked c.max-status.ensures;
      range = search rules;
      going = search rules;
    }

pub returns-clause-asked : goal.returns-clause-asked
returns-clause-asked g c =
    all_asked c.args.question.now.hex c.args.commands.now c.loop-command.command-index _ _ c.loop-command-test.false c.loop-command.invariant.asked

pub returns-in-Err-clause-stopped : goal.returns-in-Err-clause-stopped
returns-in-Err-clause-stopped g c =
    stopped_each c.args.question.now.hex c.args.commands.now c.loop-command.command-index c.command-item.result c.in-Err.fault
    (asked_so (shown_in g.C.Ticks.to_come g.R.Read.remaining g.W.Write.contents c.args.conversation.now) (printed_in g.O.Write.contents c.args.conversation.now) DONE)
    (asked_so (shown_in g.C.Ticks.to_come g.R.Read.remaining g.W.Write.contents c.loop-command.conversation) (printed_in g.O.Write.contents c.loop-command.conversation) c.loop-command.status)
    (shown_in g.C.Ticks.to_come g.R.Read.remaining g.W.Write.contents c.ask_one.new.conversation)
    c.loop-command-test.true c.command-item.is c.loop-command.invariant.asked c.in-Err.ensures.stopped
