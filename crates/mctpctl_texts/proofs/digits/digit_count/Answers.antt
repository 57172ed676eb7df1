-- The power of ten that the number reaches gives it.
use Rattle.std.proofs.Common.{sym, arith}
use Rattle.mctpctl_texts.proofs.DigitCounts.{digit_of_zero, digits_by_power}
use Rattle.mctpctl_texts.proofs.digits.digit_count.Goals as goal

pub returns-in-Some-clause-count : goal.returns-in-Some-clause-count
returns-in-Some-clause-count c = sym (digits_by_power c.in-Some.power c.args.number c.in-Some.ensures.power_le c.in-Some.ensures.next_power_gt (omega (arith, c.ranges.number)))

pub returns-in-None-clause-count : goal.returns-in-None-clause-count
returns-in-None-clause-count c = digit_of_zero c.args.number c.in-None.ensures.none
