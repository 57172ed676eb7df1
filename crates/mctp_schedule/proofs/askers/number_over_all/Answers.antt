use Rattle.std.proofs.Common.{◌<◌, length, slice_index, arith}
use Rattle.std.proofs.lemmas.List.{get_or_default}
use Rattle.std.proofs.lemmas.List.Edits.{map_over_more}
use Rattle.mctp_schedule.proofs.askers.number_over_all.Goals as goal

pub loop-own-preserved : goal.loop-own-preserved
loop-own-preserved c =
    let owns = c.loop-own.owns in
    let own = slice_index owns c.loop-own.own-index in
    let test = c.loop-own-test.true in
    let same = c.loop-own.auto.owns in
    let below : c.loop-own.own-index < length owns = omega (arith, test, same) in
    map_over_more (slice_index c.args.numbers.now) c.args.owns.now owns c.loop-own.own-index own test c.loop-own.invariant (get_or_default owns c.loop-own.own-index 0 own below)
