-- One more is passed.
use Rattle.std.proofs.Common.{◌∙◌, ap}
use Rattle.mctpctl_decode.specs.NameTexts.{after_name, after_units}
use Rattle.mctpctl_table.proofs.EachPassed.{passed}
use Rattle.mctpctl_table.proofs.name.after_each_name.Goals as goal

pub loop-preserved : goal.loop-preserved
loop-preserved c =
    passed after_name c.args.count c.loop.counter c.loop.rest.now c.after_units-rest.result.now _ c.loop-test.true
    (c.after_units-rest.ensures ∙ ap after_units c.after_tag.ensures) c.loop.invariant
