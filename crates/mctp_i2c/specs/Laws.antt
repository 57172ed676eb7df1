-- Laws over the definitions alone.
use Rattle.std.specs.Prelude.{◌≡◌, ◌≢◌, ℕ, List, ◌∷◌, Ok, Err, IsErr}
use Rattle.mctp_i2c.specs.Addresses.{IsSmbusAddress, IsDynamicAddress}
use Rattle.mctp_i2c.specs.Changes.{AreBytes, AreChanged, IsBurst, IsTwoBits}
use Rattle.mctp_i2c.specs.Packets.{HasFrame}
use Rattle.mctp_i2c.specs.SmbusFrames as smbus
use Rattle.mctp_i2c.specs.SmbusReadings as smbus_readings
use Rattle.mctp_i2c.specs.I3cFrames as i3c
use Rattle.mctp_i2c.specs.I3cReadings as i3c_readings
use Rattle.mctp_i2c.specs.declared.i3c.Direction.{Direction}
use Rattle.mctp_i2c.specs.declared.i3c.I3cFault.TheVariants.{WrongPec}

-- what is framed is read back, with the address that it comes from
abbrev pub SmbusReadsBack : Type 0
SmbusReadsBack =
    (source own : ℕ) (packet : List ℕ)
    → IsSmbusAddress source → HasFrame packet
    → smbus_readings.reading own (smbus.frame source own packet) ≡ Ok (smbus_readings.received source packet)

abbrev pub I3cReadsBack : Type 0
I3cReadsBack =
    (address : ℕ) (direction : Direction) (packet : List ℕ)
    → HasFrame packet → i3c_readings.reading address direction (i3c.frame address direction packet) ≡ Ok packet

-- and nothing else is read
abbrev pub SmbusOnlyFramesAreRead : Type 0
SmbusOnlyFramesAreRead =
    (own : ℕ) (bytes : List ℕ) (received : smbus_readings.Received)
    → smbus_readings.reading own bytes ≡ Ok received → smbus_readings.IsFrameTo own received bytes

abbrev pub I3cOnlyFramesAreRead : Type 0
I3cOnlyFramesAreRead =
    (address : ℕ) (direction : Direction) (bytes packet : List ℕ)
    → i3c_readings.reading address direction bytes ≡ Ok packet → i3c_readings.IsFrameOf address direction packet bytes

-- a frame of which some of eight bits in a row changed is refused, by the device of whatever address reads it then
abbrev pub SmbusBurstsAreSeen : Type 0
SmbusBurstsAreSeen =
    (source destination reader difference : ℕ) (packet changed : List ℕ)
    → IsSmbusAddress source → IsSmbusAddress destination → HasFrame packet → AreBytes packet
    → IsBurst difference → AreChanged difference (smbus.frame source destination packet) changed
    → IsErr (smbus_readings.reading reader changed)

-- On I3C the address byte before the frame counts: the changed one begins the transfer in which the frame is read.
abbrev pub I3cBurstsAreSeen : Type 0
I3cBurstsAreSeen =
    (address other difference : ℕ) (direction other_direction : Direction) (packet changed : List ℕ)
    → IsDynamicAddress address → IsDynamicAddress other → HasFrame packet → AreBytes packet
    → IsBurst difference
    → AreChanged difference (i3c.address_byte address direction ∷ i3c.frame address direction packet)
    (i3c.address_byte other other_direction ∷ changed)
    → IsErr (i3c_readings.reading other other_direction changed)

-- and so is one of which two bits changed that are less than 127 apart
abbrev pub SmbusTwoBitsAreSeen : Type 0
SmbusTwoBitsAreSeen =
    (source destination reader difference : ℕ) (packet changed : List ℕ)
    → IsSmbusAddress source → IsSmbusAddress destination → HasFrame packet → AreBytes packet
    → IsTwoBits difference → AreChanged difference (smbus.frame source destination packet) changed
    → IsErr (smbus_readings.reading reader changed)

abbrev pub I3cTwoBitsAreSeen : Type 0
I3cTwoBitsAreSeen =
    (address other difference : ℕ) (direction other_direction : Direction) (packet changed : List ℕ)
    → IsDynamicAddress address → IsDynamicAddress other → HasFrame packet → AreBytes packet
    → IsTwoBits difference
    → AreChanged difference (i3c.address_byte address direction ∷ i3c.frame address direction packet)
    (i3c.address_byte other other_direction ∷ changed)
    → IsErr (i3c_readings.reading other other_direction changed)

-- on I3C the PEC alone says whose a frame is: one for another transfer is refused
abbrev pub I3cOthersAreRefused : Type 0
I3cOthersAreRefused =
    (address other : ℕ) (direction other_direction : Direction) (packet : List ℕ)
    → IsDynamicAddress address → IsDynamicAddress other → HasFrame packet → AreBytes packet
    → i3c.address_byte address direction ≢ i3c.address_byte other other_direction
    → i3c_readings.reading other other_direction (i3c.frame address direction packet) ≡ Err WrongPec
