-- The bytes so far have been asked for.
use Rattle.std.proofs.Common.{◌≡◌, length}
use Rattle.mctpctl_input.specs.declared.hex_digits.TheConstants.{BYTES}
use Rattle.mctpctl_input.proofs.DigitTables.{HoldsFront}
use Rattle.mctpctl_input.proofs.hex_digits.HexDigits.new.Given as goal

abbrev pub invariant-loop-byte : goal.invariant-loop-byte
invariant-loop-byte l = (length l.values ≡ BYTES) × HoldsFront l.values l.byte
