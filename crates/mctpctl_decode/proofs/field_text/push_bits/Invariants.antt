-- The text so far, and that of the bytes that are left.
use Rattle.std.proofs.Common.{◌≡◌, ◌≤◌, ◌+◌, ◌*◌, ◌++◌, length}
use Rattle.mctpctl_decode.specs.FieldTexts.{bits_from}
use Rattle.mctpctl_decode.proofs.field_text.push_bits.Given as goal

abbrev pub invariant-loop-rest : goal.invariant-loop-rest
invariant-loop-rest l = record {
  text : l.out.items ++ bits_from l.first l.rest ≡ l.initial.out.items ++ bits_from 0 l.bytes;
  count : l.first + 8 * length l.rest ≤ 256;
}

abbrev pub decreases-loop-rest : goal.decreases-loop-rest
decreases-loop-rest l = length l.rest
