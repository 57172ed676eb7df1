-- At the end no bit is left.
use Rattle.std.proofs.Common.{◌≡◌, ◌-◌, sym, ◌∙◌, arith}
use Rattle.mctp_serial.specs.CheckSequences.{bits_further, byte_further}
use Rattle.mctp_serial.proofs.Registers.{one_further}
use Rattle.mctp_serial.proofs.checking.byte_further.Goals as goal

pub loop-preserved : goal.loop-preserved
loop-preserved c = rw c.bit_further-shifted.ensures (sym (one_further 8 c.loop.counter c.loop.shifted (omega arith)) ∙ c.loop.invariant)

pub returns : goal.returns
unfolding byte_further bits_further
returns c =
    let none : 8 - c.loop.counter ≡ 0 = omega arith in
    rw none at c.loop.invariant
