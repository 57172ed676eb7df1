-- The register is what a division leaves.
use Rattle.mctp_serial.proofs.Divided.{sequence_is_remainder, one_remainder, bursts_reported}
use Rattle.mctp_serial.proofs.laws.check_sequence_is_a_remainder.Goals as goal

pub returns-clause-remainder : goal.returns-clause-remainder
returns-clause-remainder c = sequence_is_remainder

pub returns-clause-one : goal.returns-clause-one
returns-clause-one c = one_remainder

pub returns-clause-bursts : goal.returns-clause-bursts
returns-clause-bursts c = bursts_reported
