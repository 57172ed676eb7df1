-- The address byte and a frame are a multiple of the divisor, and so is neither with such changes.
use Rattle.mctp_i2c.proofs.ChangesSeen.{i3c_bursts, i3c_two_bits}
use Rattle.mctp_i2c.proofs.OtherTransfers.{others_refused}
use Rattle.mctp_i2c.proofs.laws.i3c_changes_are_seen.Goals as goal

pub returns-clause-bursts : goal.returns-clause-bursts
returns-clause-bursts c = i3c_bursts

pub returns-clause-two_bits : goal.returns-clause-two_bits
returns-clause-two_bits c = i3c_two_bits

pub returns-clause-others : goal.returns-clause-others
returns-clause-others c = others_refused
