-- One record more was copied.
use Rattle.std.proofs.Common.{◌<◌, length, map, rules, subst}
use Rattle.std.proofs.lemmas.List.{map-append}
use Rattle.mctpctl.proofs.FirstRecords.{one_more}
use Rattle.mctpctl.proofs.walking.records_of.Goals as goal

pub loop-place-preserved : goal.loop-place-preserved
loop-place-preserved c =
    let within : c.loop-place.place < length c.args.walk.now.records =
    subst (λ count. c.loop-place.place < count) c.record_count-place-end.ensures c.loop-place-test.true in
    record {
      copied = search (rules, map-append, one_more c.args.walk.now.records c.loop-place.place (map (λ pdr. pdr.items) c.loop-place.records.items) within c.loop-place.invariant.copied);
      end = c.record_count-place-end.ensures;
    }
