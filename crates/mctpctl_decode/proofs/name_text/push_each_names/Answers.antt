-- The text of the names so far and of those that are left.
use Rattle.mctpctl_decode.specs.NameTexts.{after_names, names_line, names_of}
use Rattle.mctpctl_decode.proofs.EachRead.{one_written, all_written}
use Rattle.mctpctl_decode.proofs.name_text.push_each_names.Goals as goal

pub loop-preserved : goal.loop-preserved
loop-preserved c =
    one_written names_line names_of after_names c.args.count c.loop.counter c.loop.rest.now c.in_ok-rest.rest.now c.loop.out.items c.push_names.new.out.items _ c.loop-test.true c.in_ok-rest.ensures.rest c.in_ok-rest.ensures.text c.loop.invariant

pub returns : goal.returns
returns c = all_written names_line names_of after_names c.args.count c.loop.counter c.loop.rest.now c.loop.out.items _ c.loop-test.false c.loop.invariant
