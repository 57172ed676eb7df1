-- A frame is a multiple of the divisor, and so is no frame with such changes.
use Rattle.mctp_i2c.proofs.ChangesSeen.{smbus_bursts, smbus_two_bits}
use Rattle.mctp_i2c.proofs.laws.smbus_changes_are_seen.Goals as goal

pub returns-clause-bursts : goal.returns-clause-bursts
returns-clause-bursts c = smbus_bursts

pub returns-clause-two_bits : goal.returns-clause-two_bits
returns-clause-two_bits c = smbus_two_bits
