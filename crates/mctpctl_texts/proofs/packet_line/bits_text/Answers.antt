-- The bits of a packet are spelled as digits.
use Rattle.std.proofs.Common.{true, false, sym}
use Rattle.mctpctl_texts.proofs.BitTexts.{bits_are}
use Rattle.mctpctl_texts.proofs.packet_line.bits_text.Goals as goal

pub returns-in-true-true-true : goal.returns-in-true-true-true
returns-in-true-true-true c = rw (c.in-true-true-true.is-0, c.in-true-true-true.is-1, c.in-true-true-true.is-2) (sym (bits_are true true true))

pub returns-in-true-true-false : goal.returns-in-true-true-false
returns-in-true-true-false c = rw (c.in-true-true-false.is-0, c.in-true-true-false.is-1, c.in-true-true-false.is-2) (sym (bits_are true true false))

pub returns-in-true-false-true : goal.returns-in-true-false-true
returns-in-true-false-true c = rw (c.in-true-false-true.is-0, c.in-true-false-true.is-1, c.in-true-false-true.is-2) (sym (bits_are true false true))

pub returns-in-true-false-false : goal.returns-in-true-false-false
returns-in-true-false-false c = rw (c.in-true-false-false.is-0, c.in-true-false-false.is-1, c.in-true-false-false.is-2) (sym (bits_are true false false))

pub returns-in-false-true-true : goal.returns-in-false-true-true
returns-in-false-true-true c = rw (c.in-false-true-true.is-0, c.in-false-true-true.is-1, c.in-false-true-true.is-2) (sym (bits_are false true true))

pub returns-in-false-true-false : goal.returns-in-false-true-false
returns-in-false-true-false c = rw (c.in-false-true-false.is-0, c.in-false-true-false.is-1, c.in-false-true-false.is-2) (sym (bits_are false true false))

pub returns-in-false-false-true : goal.returns-in-false-false-true
returns-in-false-false-true c = rw (c.in-false-false-true.is-0, c.in-false-false-true.is-1, c.in-false-false-true.is-2) (sym (bits_are false false true))

pub returns-in-false-false-false : goal.returns-in-false-false-false
returns-in-false-false-false c = rw (c.in-false-false-false.is-0, c.in-false-false-false.is-1, c.in-false-false-false.is-2) (sym (bits_are false false false))
