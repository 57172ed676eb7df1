-- Each byte is asked for in its turn.
use Rattle.std.proofs.Common.{arith, rules}
use Rattle.mctpctl_input.proofs.DigitTables.{none_held, one_more_held, all_held}
use Rattle.mctpctl_input.proofs.hex_digits.HexDigits.new.Goals as goal

pub loop-byte-init : goal.loop-byte-init
loop-byte-init c = (search rules, none_held _)

pub loop-byte-preserved : goal.loop-byte-preserved
loop-byte-preserved c =
    let so_far = c.loop-byte.invariant.1 in
    (search rules, one_more_held c.loop-byte.values c.loop-byte.byte _ (omega arith) so_far c.value_of.ensures)

pub invariant_of-result : goal.invariant_of-result
invariant_of-result c = all_held c.loop-byte.values c.loop-byte.byte (omega arith) c.loop-byte.invariant.1

pub returns : goal.returns
returns c = all_held c.loop-byte.values c.loop-byte.byte (omega arith) c.loop-byte.invariant.1
