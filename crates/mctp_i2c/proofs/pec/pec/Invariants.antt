-- The checksum so far is that of the address byte and the bytes so far.
use Rattle.std.proofs.Common.{◌∷◌, take}
use Rattle.pldm_wire.specs.Crc.{IsCrc}
use Rattle.mctp_i2c.proofs.pec.pec.Given as goal

abbrev pub invariant-loop-byte : goal.invariant-loop-byte
invariant-loop-byte l = IsCrc (l.address ∷ take l.byte-index l.bytes) l.checksum
