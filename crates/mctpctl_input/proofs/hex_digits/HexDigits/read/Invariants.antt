-- The bytes so far are those that `hex` reads of the digits before, or one was no digit.
use Rattle.mctpctl_input.proofs.DigitTables.{HasLooked}
use Rattle.mctpctl_input.proofs.hex_digits.HexDigits.read.Given as goal

abbrev pub invariant-loop-place : goal.invariant-loop-place
invariant-loop-place l = HasLooked l.digits l.bytes l.place l.greatest
