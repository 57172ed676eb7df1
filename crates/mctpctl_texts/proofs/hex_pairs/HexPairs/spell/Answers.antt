-- Two digits come after those of the bytes before.
use Rattle.std.proofs.Common.{◌<◌, refl, arith}
use Rattle.mctpctl_texts.proofs.HexDigits.{nothing_written, rest_kept}
use Rattle.mctpctl_texts.proofs.PairTables.{pair_added}
use Rattle.mctpctl_texts.proofs.hex_pairs.HexPairs.spell.Goals as goal

pub loop-place-init : goal.loop-place-init
loop-place-init c = record { digits = nothing_written; rest = refl }

pub loop-place-preserved : goal.loop-place-preserved
loop-place-preserved c =
    let small : c.from.result < 256 = omega (arith, c.from.ensures, c.type_inv.bytes c.loop-place.place) in
    let so_far = c.loop-place.invariant in
    record {
      digits = pair_added c.self.inside.pairs c.loop-place.room c.args.bytes.now c.loop-place.place c.from.result c.self.invariant
          small c.from.ensures c.loop-place-test.true (omega (arith, c.requires, c.loop-place.auto.room, c.loop-place-test.true)) so_far.digits;
      rest = rest_kept c.loop-place.room c.args.room.now c.loop-place.place _ _ so_far.rest;
    }
