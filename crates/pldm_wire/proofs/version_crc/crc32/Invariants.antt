-- The remainder so far, and the bits of the rest, leave what the bits of all do.
use Rattle.std.proofs.Common.{◌≡◌, ◌^◌, ◌-◌, drop}
use Rattle.std.specs.List.{fold, flat_map}
use Rattle.pldm_wire.specs.Crc32.{bit_divided, bits_of}
use Rattle.pldm_wire.proofs.version_crc.crc32.Given as goal

abbrev pub invariant-loop-byte : goal.invariant-loop-byte
invariant-loop-byte l =
    fold bit_divided l.remainder (flat_map bits_of (drop l.byte-index l.bytes)) ≡ fold bit_divided (2 ^ 32 - 1) (flat_map bits_of l.bytes)
