-- One more state, and the end.
use Rattle.mctpctl_table.proofs.Possible.{one_more, all_seen}
use Rattle.mctpctl_table.proofs.state_text.possible.Goals as goal

pub loop-state-preserved : goal.loop-state-preserved
loop-state-preserved c =
    one_more 256 c.loop-state.state c.args.states.now.bits.items c.loop-state.found.items c.push_possible.new.found.items _ c.loop-state-test.true c.in_ok-push_possible.ensures c.loop-state.invariant

pub returns : goal.returns
returns c =
    all_seen 256 c.loop-state.state c.args.states.now.bits.items c.loop-state.found.items _ c.loop-state-test.false c.loop-state.invariant
