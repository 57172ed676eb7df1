-- The bytes of a packet's frame on SMBus and I2C (DSP0237).
use Rattle.std.specs.Prelude.{ℕ, ◌+◌, ◌*◌, List, ◌∷◌, length}
use Rattle.mctp_i2c.specs.Pecs.{with_pec}
use Rattle.mctp_i2c.specs.declared.smbus.TheConstants.{COMMAND_CODE}

-- the destination's address and the bit for a write, the command code, the count of the bytes that follow, the
-- source's address and a bit that is set, and the packet
abbrev pub checked : ℕ → ℕ → List ℕ → List ℕ
checked source destination packet =
    (destination * 2) ∷ COMMAND_CODE ∷ (1 + length packet) ∷ (source * 2 + 1) ∷ packet

abbrev pub frame : ℕ → ℕ → List ℕ → List ℕ
frame source destination packet = with_pec (checked source destination packet)
