-- Every constant of the source, a second time.
use Rattle.std.proofs.Common.{◌≡◌, refl}
use Rattle.mctp_i2c.specs.declared.TheConstants.{MIN_SMBUS_ADDRESS, MAX_SMBUS_ADDRESS, MAX_DYNAMIC_ADDRESS}
use Rattle.mctp_i2c.specs.declared.TheConstants.{MIN_PACKET_BYTES, MAX_PACKET_BYTES}
use Rattle.mctp_i2c.specs.declared.smbus.TheConstants as smbus
use Rattle.mctp_i2c.specs.declared.i3c.TheConstants as i3c

first_smbus_address : MIN_SMBUS_ADDRESS ≡ 8
first_smbus_address = refl

last_smbus_address : MAX_SMBUS_ADDRESS ≡ 119
last_smbus_address = refl

last_dynamic_address : MAX_DYNAMIC_ADDRESS ≡ 127
last_dynamic_address = refl

fewest_packet_bytes : MIN_PACKET_BYTES ≡ 4
fewest_packet_bytes = refl

most_packet_bytes : MAX_PACKET_BYTES ≡ 254
most_packet_bytes = refl

command_code : smbus.COMMAND_CODE ≡ 15
command_code = refl

bytes_before_a_packet : smbus.FRAME_HEADER ≡ 4
bytes_before_a_packet = refl

fewest_bytes_on_smbus : smbus.MIN_FRAME_BYTES ≡ 6
fewest_bytes_on_smbus = refl

most_bytes_on_smbus : smbus.MAX_FRAME_BYTES ≡ 259
most_bytes_on_smbus = refl

fewest_bytes_on_i3c : i3c.MIN_FRAME_BYTES ≡ 5
fewest_bytes_on_i3c = refl

most_bytes_on_i3c : i3c.MAX_FRAME_BYTES ≡ 255
most_bytes_on_i3c = refl
