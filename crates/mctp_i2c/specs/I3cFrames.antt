-- The bytes of a packet's frame on I3C (DSP0233).
use Rattle.std.specs.Prelude.{ℕ, ◌+◌, ◌*◌, List, [], ◌∷◌, ◌++◌}
use Rattle.pldm_wire.specs.Crc.{crc}
use Rattle.mctp_i2c.specs.declared.i3c.Direction.{Direction}
use Rattle.mctp_i2c.specs.declared.i3c.Direction.TheVariants.{Write, Read}

-- the byte that a transfer begins with: the target's address, and a bit that is set in a read
abbrev pub address_byte : ℕ → Direction → ℕ
address_byte address Write = address * 2
address_byte address Read = address * 2 + 1

-- the packet and the PEC, which covers the address byte too
abbrev pub frame : ℕ → Direction → List ℕ → List ℕ
frame address direction packet = packet ++ crc (address_byte address direction ∷ packet) ∷ []
