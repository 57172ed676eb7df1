-- What `hex` says of a byte after a `0` is what it reads of the byte.
use Rattle.std.proofs.Common.{◌∙◌}
use Rattle.mctpctl_input.proofs.DigitTables.{digit_read, digit_refused}
use Rattle.mctpctl_input.proofs.hex_digits.value_of.Goals as goal

pub returns-in-Ok : goal.returns-in-Ok
returns-in-Ok c = c.from.ensures ∙ digit_read c.args.byte _ c.in-Ok.ensures.value

pub returns-in-Err : goal.returns-in-Err
returns-in-Err c = digit_refused c.args.byte _ _ c.in-Err.ensures.value
