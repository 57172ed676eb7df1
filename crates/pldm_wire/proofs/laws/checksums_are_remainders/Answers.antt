-- A number has one remainder, and the checksum is the bytes' one.
use Rattle.pldm_wire.proofs.Remainders.{one_remainder}
use Rattle.pldm_wire.proofs.Checksums.{crc_is_remainder, only_crc}
use Rattle.pldm_wire.proofs.laws.checksums_are_remainders.Goals as goal

pub returns-clause-one : goal.returns-clause-one
returns-clause-one c = one_remainder

pub returns-clause-remainder : goal.returns-clause-remainder
returns-clause-remainder c = crc_is_remainder

pub returns-clause-only : goal.returns-clause-only
returns-clause-only c = only_crc
