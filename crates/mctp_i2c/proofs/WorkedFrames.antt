-- A few frames and what bytes are read as, computed from the definitions. The PECs come from another program.
use Rattle.std.proofs.Common.{◌≡◌, ℕ, zero, suc, ◌+◌, ◌^◌, List, [], ◌∷◌, ◌++◌, Ok, Err, refl, lit<}
use Rattle.pldm_wire.specs.Crc.{crc}
use Rattle.mctp_i2c.specs.Changes.{AreBytes, AreChanged, IsBurst, IsTwoBits}
use Rattle.mctp_i2c.specs.SmbusFrames as smbus
use Rattle.mctp_i2c.specs.SmbusReadings as smbus_readings
use Rattle.mctp_i2c.specs.I3cFrames as i3c
use Rattle.mctp_i2c.specs.I3cReadings as i3c_readings
use Rattle.mctp_i2c.specs.declared.smbus.SmbusFault.TheVariants as faults
use Rattle.mctp_i2c.specs.declared.i3c.I3cFault.TheVariants as i3c_faults
use Rattle.mctp_i2c.specs.declared.i3c.Direction.TheVariants.{Write, Read}

abbrev a_packet : List ℕ
a_packet = 0x01 ∷ 0x09 ∷ 0x08 ∷ 0xC8 ∷ 0x01 ∷ 0x80 ∷ 0x00 ∷ 0x02 ∷ []

-- from 0x10 to 0x1D
a_frame : smbus.frame 0x10 0x1D a_packet ≡ 0x3A ∷ 0x0F ∷ 0x09 ∷ 0x21 ∷ a_packet ++ 0xCA ∷ []
unfolding crc
a_frame = refl

read_back : smbus_readings.reading 0x1D (0x3A ∷ 0x0F ∷ 0x09 ∷ 0x21 ∷ a_packet ++ 0xCA ∷ [])
    ≡ Ok (smbus_readings.received 0x10 a_packet)
unfolding crc
read_back = refl

a_packet_of_one_byte : smbus_readings.reading 0x1D (0x3A ∷ 0x0F ∷ 0x02 ∷ 0x21 ∷ 0xAA ∷ 0x6B ∷ [])
    ≡ Ok (smbus_readings.received 0x10 (0xAA ∷ []))
unfolding crc
a_packet_of_one_byte = refl

no_packet : smbus_readings.reading 0x1D (0x3A ∷ 0x0F ∷ 0x01 ∷ 0x21 ∷ 0x00 ∷ []) ≡ Err faults.Short
no_packet = refl

to_another : smbus_readings.reading 0x1E (0x3A ∷ 0x0F ∷ 0x09 ∷ 0x21 ∷ a_packet ++ 0xCA ∷ []) ≡ Err faults.NotOurs
to_another = refl

-- the address byte of a read
a_read : smbus_readings.reading 0x1D (0x3B ∷ 0x0F ∷ 0x09 ∷ 0x21 ∷ a_packet ++ 0xCA ∷ []) ≡ Err faults.NotOurs
a_read = refl

another_command : smbus_readings.reading 0x1D (0x3A ∷ 0x0E ∷ 0x09 ∷ 0x21 ∷ a_packet ++ 0xD5 ∷ [])
    ≡ Err faults.OtherCommand
another_command = refl

a_count_of_one_more : smbus_readings.reading 0x1D (0x3A ∷ 0x0F ∷ 0x0A ∷ 0x21 ∷ a_packet ++ 0x72 ∷ [])
    ≡ Err faults.WrongCount
a_count_of_one_more = refl

a_count_of_one_less : smbus_readings.reading 0x1D (0x3A ∷ 0x0F ∷ 0x08 ∷ 0x21 ∷ a_packet ++ 0xA2 ∷ [])
    ≡ Err faults.WrongCount
a_count_of_one_less = refl

a_clear_bit : smbus_readings.reading 0x1D (0x3A ∷ 0x0F ∷ 0x09 ∷ 0x20 ∷ a_packet ++ 0xB3 ∷ []) ≡ Err faults.NotSource
a_clear_bit = refl

a_reserved_source : smbus_readings.reading 0x1D (0x3A ∷ 0x0F ∷ 0x09 ∷ 0x0F ∷ a_packet ++ 0x17 ∷ [])
    ≡ Err faults.NotSource
a_reserved_source = refl

the_pec_without_the_address : smbus_readings.reading 0x1D (0x3A ∷ 0x0F ∷ 0x09 ∷ 0x21 ∷ a_packet ++ 0xCC ∷ [])
    ≡ Err faults.WrongPec
unfolding crc
the_pec_without_the_address = refl

written_to_a_target : i3c.frame 0x30 Write a_packet ≡ a_packet ++ 0x2B ∷ []
unfolding crc
written_to_a_target = refl

read_from_a_target : i3c.frame 0x30 Read a_packet ≡ a_packet ++ 0x52 ∷ []
unfolding crc
read_from_a_target = refl

i3c_read_back : i3c_readings.reading 0x30 Read (a_packet ++ 0x52 ∷ []) ≡ Ok a_packet
unfolding crc
i3c_read_back = refl

the_other_way : i3c_readings.reading 0x30 Read (a_packet ++ 0x2B ∷ []) ≡ Err i3c_faults.WrongPec
unfolding crc
the_other_way = refl

a_header_alone : i3c_readings.reading 0x30 Write (0x01 ∷ 0x09 ∷ 0x08 ∷ 0xC8 ∷ 0x5E ∷ [])
    ≡ Ok (0x01 ∷ 0x09 ∷ 0x08 ∷ 0xC8 ∷ [])
unfolding crc
a_header_alone = refl

no_header : i3c_readings.reading 0x30 Write (0x01 ∷ 0x09 ∷ 0x08 ∷ 0x5E ∷ []) ≡ Err i3c_faults.Short
no_header = refl

-- what the laws ask for can be had: two bits of a frame that are 100 apart, and three in a row
two_bits : IsTwoBits (2 ^ 3 + 2 ^ 103)
two_bits = record { place = 3; apart = 100; two = lit< tt; near = lit< tt; placed = refl }

three_bits : IsBurst 0x70
three_bits = record { burst = 7; place = 4; some = λ none. cc; short = lit< tt; placed = refl }

changed_bytes : AreBytes (a_packet ++ 0x5B ∷ [])
changed_bytes zero = lit< tt
changed_bytes (suc zero) = lit< tt
changed_bytes (suc (suc zero)) = lit< tt
changed_bytes (suc (suc (suc zero))) = lit< tt
changed_bytes (suc (suc (suc (suc zero)))) = lit< tt
changed_bytes (suc (suc (suc (suc (suc zero))))) = lit< tt
changed_bytes (suc (suc (suc (suc (suc (suc zero)))))) = lit< tt
changed_bytes (suc (suc (suc (suc (suc (suc (suc zero))))))) = lit< tt
changed_bytes (suc (suc (suc (suc (suc (suc (suc (suc zero)))))))) = lit< tt
changed_bytes (suc (suc (suc (suc (suc (suc (suc (suc (suc i))))))))) = lit< tt

three_changed : AreChanged 0x70 (i3c.frame 0x30 Write a_packet) (a_packet ++ 0x5B ∷ [])
unfolding crc
three_changed = record { are_bytes = changed_bytes; as_many = refl; differ = refl }
