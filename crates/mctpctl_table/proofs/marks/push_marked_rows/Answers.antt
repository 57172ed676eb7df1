-- One more row.
use Rattle.mctpctl_table.proofs.MarkedRows.{marked_more, stood_there}
use Rattle.mctpctl_table.proofs.marks.push_marked_rows.Goals as goal

pub loop-place-preserved : goal.loop-place-preserved
loop-place-preserved c =
    marked_more c.args.rows.now c.args.before.now c.loop-place.place c.index-rows-place.result _ c.width-what.result c.width-name.result c.width-value.result c.args.out.now.items c.loop-place.out.items c.push_mark.new.out.items c.push_line.new.out.items c.loop-place-test.true c.index-rows-place.is
    (stood_there c.args.before.now c.loop-place.place c.get.result c.get.ensures.lookup.1 c.get.ensures.lookup.3)
    c.width-what.ensures c.width-name.ensures c.width-value.ensures c.in_ok-push_mark.ensures c.in_ok-push_line.ensures c.loop-place.invariant
