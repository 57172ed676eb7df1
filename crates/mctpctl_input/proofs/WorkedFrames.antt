-- What a few frames carry, computed from the definitions. The PECs come from another program.
use Rattle.std.proofs.Common.{◌≡◌, ℕ, List, [], ◌∷◌, ◌++◌, Ok, Err, refl}
use Rattle.mctp_i2c.specs.declared.i3c.I3cFault.TheVariants as i3c
use Rattle.mctp_i2c.specs.declared.smbus.SmbusFault.TheVariants as smbus
use Rattle.mctp_serial.specs.CheckSequences.{bit_further, bits_further, byte_further}
use Rattle.mctp_serial.specs.declared.fault.SerialFault.TheVariants as serial
use Rattle.pldm_wire.specs.Crc.{crc}
use Rattle.mctpctl_input.specs.Bindings.{packet_of}
use Rattle.mctpctl_input.specs.declared.binding.Binding.TheVariants as on
use Rattle.mctpctl_input.specs.declared.frame_fault.FrameFault.TheVariants.{I2c, I3c, Serial}

abbrev a_packet : List ℕ
a_packet = 0x01 ∷ 0x09 ∷ 0x08 ∷ 0xC8 ∷ 0x01 ∷ 0x80 ∷ 0x00 ∷ 0x02 ∷ []

-- from 0x10 to 0x1D
on_i2c : packet_of on.I2c (0x3A ∷ 0x0F ∷ 0x09 ∷ 0x21 ∷ a_packet ++ 0xCA ∷ []) ≡ Ok a_packet
unfolding crc
on_i2c = refl

another_pec : packet_of on.I2c (0x3A ∷ 0x0F ∷ 0x09 ∷ 0x21 ∷ a_packet ++ 0xCB ∷ []) ≡ Err (I2c smbus.WrongPec)
unfolding crc
another_pec = refl

-- 0x3B begins a read, 0x00 is the general call, 0xF0 is reserved
a_read : packet_of on.I2c (0x3B ∷ 0x0F ∷ 0x09 ∷ 0x21 ∷ a_packet ++ 0xCA ∷ []) ≡ Err (I2c smbus.NotOurs)
a_read = refl

a_general_call : packet_of on.I2c (0x00 ∷ 0x0F ∷ 0x09 ∷ 0x21 ∷ a_packet ++ 0xCA ∷ []) ≡ Err (I2c smbus.NotOurs)
a_general_call = refl

a_reserved_address : packet_of on.I2c (0xF0 ∷ 0x0F ∷ 0x09 ∷ 0x21 ∷ a_packet ++ 0xCA ∷ []) ≡ Err (I2c smbus.NotOurs)
a_reserved_address = refl

an_address_byte_alone : packet_of on.I2c (0x3A ∷ []) ≡ Err (I2c smbus.Short)
an_address_byte_alone = refl

-- a write to 0x30, and a read from it
on_i3c : packet_of on.I3c (0x60 ∷ a_packet ++ 0x2B ∷ []) ≡ Ok a_packet
unfolding crc
on_i3c = refl

read_on_i3c : packet_of on.I3c (0x61 ∷ a_packet ++ 0x52 ∷ []) ≡ Ok a_packet
unfolding crc
read_on_i3c = refl

-- the PEC of the write
another_way : packet_of on.I3c (0x61 ∷ a_packet ++ 0x2B ∷ []) ≡ Err (I3c i3c.WrongPec)
unfolding crc
another_way = refl

nothing_on_i3c : packet_of on.I3c [] ≡ Err (I3c i3c.Short)
nothing_on_i3c = refl

on_a_line : packet_of on.Serial (0x7E ∷ 0x01 ∷ 0x08 ∷ a_packet ++ 0x0C ∷ 0xA6 ∷ 0x7E ∷ []) ≡ Ok a_packet
unfolding byte_further bits_further bit_further
on_a_line = refl

a_flag_more : packet_of on.Serial (0x7E ∷ 0x01 ∷ 0x08 ∷ a_packet ++ 0x0C ∷ 0xA6 ∷ 0x7E ∷ 0x7E ∷ []) ≡ Err (Serial serial.NoEnd)
unfolding byte_further bits_further bit_further
a_flag_more = refl

no_last_flag : packet_of on.Serial (0x7E ∷ 0x01 ∷ 0x08 ∷ a_packet ++ 0x0C ∷ 0xA6 ∷ []) ≡ Err (Serial serial.CutShort)
unfolding byte_further bits_further bit_further
no_last_flag = refl

flags_alone : packet_of on.Serial (0x7E ∷ 0x7E ∷ []) ≡ Err (Serial serial.CutShort)
flags_alone = refl
