-- One byte more is spelled.
use Rattle.std.proofs.Common.{◌∷◌, ◌++◌, length, slice_index, ap, ◌∙◌, sym, arith, length-append}
use Rattle.mctp_serial.specs.Frames.{spelled}
use Rattle.mctp_serial.specs.declared.TheConstants.{FLAG, REVISION}
use Rattle.mctp_serial.proofs.Spelling.{next_spelled, few_spelled}
use Rattle.mctp_serial.proofs.frames.frame.Goals as goal

pub loop-byte-preserved : goal.loop-byte-preserved
loop-byte-preserved c =
    let i = c.loop-byte.invariant in
    let at = c.loop-byte.byte-index in
    let byte = slice_index c.args.packet.now at in
    record {
      spelled = c.spell.ensures ∙ ap (λ l. l ++ spelled byte) i.spelled ∙ ap (λ l. FLAG ∷ REVISION ∷ length c.args.packet.now ∷ l) (sym (next_spelled c.args.packet.now at c.loop-byte-test.true));
      few = rw c.spell.ensures (omega (arith, i.few, few_spelled byte, length-append c.loop-byte.bytes.items (spelled byte)));
    }
