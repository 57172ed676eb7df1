-- The checksum so far is that of the bytes so far.
use Rattle.std.proofs.Common.{take}
use Rattle.pldm_wire.specs.Crc.{IsCrc}
use Rattle.pldm_wire.proofs.crc.crc8.Given as goal

abbrev pub invariant-loop-byte : goal.invariant-loop-byte
invariant-loop-byte l = IsCrc (take l.byte-index l.bytes) l.checksum
