-- The bits that are left lead to the register of all eight.
use Rattle.std.proofs.Common.{◌≡◌, ◌-◌, bit_xor}
use Rattle.mctp_serial.specs.CheckSequences.{bits_further}
use Rattle.mctp_serial.proofs.checking.byte_further.Given as goal

abbrev pub invariant-loop : goal.invariant-loop
invariant-loop l = bits_further (8 - l.counter) l.shifted ≡ bits_further 8 (bit_xor l.fn.register l.fn.byte)
