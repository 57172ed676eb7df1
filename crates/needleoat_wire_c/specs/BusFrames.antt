-- What frames are written, and what is reported of a frame, on SMBus and I2C (DSP0237) and on I3C (DSP0233).
use Rattle.std.specs.Prelude.{◌≡◌, ℕ, Bool, true, false, List, length, take, drop, Result, Ok, Err}
use Rattle.mctp_i2c.specs.Addresses.{IsSmbusAddress, IsDynamicAddress}
use Rattle.mctp_i2c.specs.Packets.{HasFrame}
use Rattle.mctp_i2c.specs.SmbusFaults as smbus
use Rattle.mctp_i2c.specs.SmbusReadings.{Received}
use Rattle.mctp_i2c.specs.I3cFaults as i3c
use Rattle.mctp_i2c.specs.declared.i3c.Direction.{Direction}
use Rattle.mctp_i2c.specs.declared.i3c.Direction.TheVariants.{Write, Read}
use Rattle.mctp_i2c.specs.declared.i3c.I3cFault.{I3cFault}
use Rattle.mctp_i2c.specs.declared.smbus.SmbusFault.{SmbusFault}
use Rattle.mctp_i2c.specs.declared.smbus.TheConstants.{FRAME_HEADER}
use Rattle.needleoat_forms.specs.Messages.{reported_length}
use Rattle.needleoat_wire_c.specs.declared.bus_forms.I2cFrameFields.{I2cFrameFields}
use Rattle.needleoat_wire_c.specs.declared.bus_forms.I3cFrameFields.{I3cFrameFields}

-- two addresses of devices, and a packet of a length that a frame carries
abbrev pub HasI2cFrame : ℕ → ℕ → List ℕ → Type 0
HasI2cFrame source destination packet = IsSmbusAddress source × IsSmbusAddress destination × HasFrame packet

-- an address of seven bits, and such a packet
abbrev pub HasI3cFrame : ℕ → List ℕ → Type 0
HasI3cFrame address packet = IsDynamicAddress address × HasFrame packet

abbrev pub direction_of : Bool → Direction
direction_of true = Read
direction_of false = Write

-- the source is the frame's, and the packet is where the fields say
pub record ReportsI2cFields (bytes : List ℕ) (received : Received) (r : I2cFrameFields) : Type 0 where
  pub fault : r.fault ≡ 0
  pub source_address : r.source_address ≡ received.source
  pub packet_start : r.packet_start ≡ FRAME_HEADER
  pub packet_length : r.packet_length ≡ length received.packet
  pub place : take r.packet_length (drop r.packet_start bytes) ≡ received.packet

-- the packet is in front, and its length is reported as far as a number of four bytes has it
pub record ReportsI3cFields (bytes packet : List ℕ) (r : I3cFrameFields) : Type 0 where
  pub fault : r.fault ≡ 0
  pub packet_length : r.packet_length ≡ reported_length packet
  pub place : take (length packet) bytes ≡ packet

-- the fields, or the number of the first fault

abbrev pub ReportsI2cFrame : List ℕ → Result Received SmbusFault → I2cFrameFields → Type 0
ReportsI2cFrame bytes (Ok received) r = ReportsI2cFields bytes received r
ReportsI2cFrame bytes (Err fault) r = r.fault ≡ smbus.number_of fault

abbrev pub ReportsI3cFrame : List ℕ → Result (List ℕ) I3cFault → I3cFrameFields → Type 0
ReportsI3cFrame bytes (Ok packet) r = ReportsI3cFields bytes packet r
ReportsI3cFrame bytes (Err fault) r = r.fault ≡ i3c.number_of fault
