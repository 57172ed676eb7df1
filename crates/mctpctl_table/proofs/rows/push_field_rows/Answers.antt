-- One more field, and the end.
use Rattle.std.proofs.Common.{length}
use Rattle.mctpctl_table.proofs.RowsLeft.{bytes_of, more_rows, all_rows}
use Rattle.mctpctl_table.proofs.rows.push_field_rows.Goals as goal

pub loop-place-preserved : goal.loop-place-preserved
loop-place-preserved c =
    more_rows c.args.identifier.now (length c.args.sets.now) c.loop-place.place c.args.sets.now c.index-sets-place.result (bytes_of c.args.names.now) c.args.reply.now c.state_reading-reading.result c.in_ok-row.row c.loop-place.rows.items c.push.new.self.items _ c.loop-place-test.true c.index-sets-place.is c.state_reading-reading.ensures c.in_ok-row.ensures c.in_ok-push.ensures.items c.loop-place.invariant

pub returns : goal.returns
returns c =
    all_rows c.args.identifier.now (length c.args.sets.now) c.loop-place.place c.args.sets.now (bytes_of c.args.names.now) c.args.reply.now c.loop-place.rows.items _ c.loop-place-test.false c.loop-place.invariant
