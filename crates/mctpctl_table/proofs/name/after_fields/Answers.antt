-- One more is passed.
use Rattle.mctpctl_decode.specs.NameTexts.{after_names}
use Rattle.mctpctl_table.proofs.EachPassed.{passed}
use Rattle.mctpctl_table.proofs.name.after_fields.Goals as goal

pub loop-preserved : goal.loop-preserved
loop-preserved c =
    passed after_names c.args.count c.loop.counter c.loop.rest.now c.after_names-rest.result.now _ c.loop-test.true c.after_names-rest.ensures c.loop.invariant
