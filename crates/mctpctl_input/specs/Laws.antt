-- Laws over the definitions alone.
use Rattle.std.specs.Prelude.{◌≡◌, ◌⊎◌, ℕ, List, ◌∷◌, Ok, IsErr}
use Rattle.mctp_i2c.specs.Addresses.{IsDynamicAddress, IsSmbusAddress}
use Rattle.mctp_i2c.specs.Changes.{AreBytes, AreChanged, IsBurst, IsTwoBits}
use Rattle.mctp_i2c.specs.I3cFrames as i3c
use Rattle.mctp_i2c.specs.Packets as bus
use Rattle.mctp_i2c.specs.SmbusFrames as smbus
use Rattle.mctp_i2c.specs.declared.i3c.Direction.{Direction}
use Rattle.mctp_serial.specs.Frames as serial
use Rattle.mctpctl_input.specs.Bindings.{packet_of}
use Rattle.mctpctl_input.specs.declared.binding.Binding.TheVariants.{I2c, I3c, Serial}

-- from any device to any other
abbrev pub I2cFramesAreRead : Type 0
I2cFramesAreRead =
    (source destination : ℕ) (packet : List ℕ)
    → IsSmbusAddress source → IsSmbusAddress destination → bus.HasFrame packet
    → packet_of I2c (smbus.frame source destination packet) ≡ Ok packet

-- to or from any target, behind its address byte
abbrev pub I3cFramesAreRead : Type 0
I3cFramesAreRead =
    (address : ℕ) (direction : Direction) (packet : List ℕ)
    → IsDynamicAddress address → bus.HasFrame packet
    → packet_of I3c (i3c.address_byte address direction ∷ i3c.frame address direction packet) ≡ Ok packet

abbrev pub SerialFramesAreRead : Type 0
SerialFramesAreRead =
    (packet : List ℕ) → serial.HasFrame packet → packet_of Serial (serial.frame packet) ≡ Ok packet

-- of eight bits in a row some changed, or two that are less than 127 apart
abbrev pub IsSmallChange : ℕ → Type 0
IsSmallChange difference = IsBurst difference ⊎ IsTwoBits difference

-- a frame with such a change is none, to whatever address it goes then

abbrev pub I2cChangesAreSeen : Type 0
I2cChangesAreSeen =
    (source destination difference : ℕ) (packet changed : List ℕ)
    → IsSmbusAddress source → IsSmbusAddress destination → bus.HasFrame packet → AreBytes packet
    → IsSmallChange difference → AreChanged difference (smbus.frame source destination packet) changed
    → IsErr (packet_of I2c changed)

abbrev pub I3cChangesAreSeen : Type 0
I3cChangesAreSeen =
    (address difference : ℕ) (direction : Direction) (packet changed : List ℕ)
    → IsDynamicAddress address → bus.HasFrame packet → AreBytes packet
    → IsSmallChange difference
    → AreChanged difference (i3c.address_byte address direction ∷ i3c.frame address direction packet) changed
    → IsErr (packet_of I3c changed)
