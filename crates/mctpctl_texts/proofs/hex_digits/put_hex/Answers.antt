-- Two digits come after those of the bytes before.
use Rattle.std.proofs.Common.{refl, arith}
use Rattle.mctpctl_texts.proofs.HexDigits.{digits_of_byte, nothing_written, pair_written, rest_kept}
use Rattle.mctpctl_texts.proofs.hex_digits.put_hex.Goals as goal

pub loop-place-init : goal.loop-place-init
loop-place-init c = record { digits = nothing_written; rest = refl }

pub loop-place-preserved : goal.loop-place-preserved
loop-place-preserved c =
    let so_far = c.loop-place.invariant in
    record {
      digits = pair_written c.loop-place.room c.args.bytes.now c.loop-place.place _ _ _
          (digits_of_byte _ _ _ c.digit.ensures c.digit-in-loop-place.ensures) refl c.loop-place-test.true (omega (arith, c.requires, c.loop-place.auto.room, c.loop-place-test.true)) so_far.digits;
      rest = rest_kept c.loop-place.room c.args.room.now c.loop-place.place _ _ so_far.rest;
    }
