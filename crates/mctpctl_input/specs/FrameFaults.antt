-- The names of the reasons for which bytes are no frame.
use Rattle.std.specs.Prelude.{ℕ, List}
use Rattle.mctp_i2c.specs.I3cFaults as i3c
use Rattle.mctp_i2c.specs.SmbusFaults as smbus
use Rattle.mctp_serial.specs.SerialFaults as serial
use Rattle.mctpctl_input.specs.declared.frame_fault.FrameFault.{FrameFault}
use Rattle.mctpctl_input.specs.declared.frame_fault.FrameFault.TheVariants.{I2c, I3c, Serial}

abbrev pub name_of : FrameFault → List ℕ
name_of (I2c fault) = smbus.name_of fault
name_of (I3c fault) = i3c.name_of fault
name_of (Serial fault) = serial.name_of fault
