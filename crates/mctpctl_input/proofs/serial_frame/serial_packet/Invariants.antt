-- What the bytes give is what those to come give a reader that stands there.
use Rattle.std.proofs.Common.{◌≡◌, length}
use Rattle.mctp_serial.specs.Readings.{idle}
use Rattle.mctpctl_input.specs.SerialPackets.{serial_packet}
use Rattle.mctpctl_input.proofs.serial_frame.serial_packet.Given as goal

abbrev pub invariant-loop-rest : goal.invariant-loop-rest
invariant-loop-rest l = serial_packet idle l.bytes ≡ serial_packet l.reader l.rest

abbrev pub decreases-loop-rest : goal.decreases-loop-rest
decreases-loop-rest l = length l.rest
