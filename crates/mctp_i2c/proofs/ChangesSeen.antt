-- A frame of which bits changed is refused, where a multiple of the divisor has no such bits.
use Rattle.std.proofs.Common.{◌≡◌, ℕ, suc, ◌+◌, ◌*◌, ◌<◌, ◌≤◌, List, [], ◌∷◌, length, Ok, sym}
use Rattle.std.proofs.Common.{subst, arith, lit<}
use Rattle.pldm_wire.specs.Crc.{crc, number_of}
use Rattle.pldm_wire.proofs.Checksums.{crc_is_remainder}
use Rattle.mctp_i2c.specs.Addresses.{IsSmbusAddress, IsDynamicAddress}
use Rattle.mctp_i2c.specs.Changes.{AreBytes, AreChanged}
use Rattle.mctp_i2c.specs.Packets.{HasFrame}
use Rattle.mctp_i2c.specs.Pecs.{with_pec}
use Rattle.mctp_i2c.specs.SmbusFrames as smbus
use Rattle.mctp_i2c.specs.SmbusReadings as smbus_readings
use Rattle.mctp_i2c.specs.I3cFrames as i3c
use Rattle.mctp_i2c.specs.I3cReadings as i3c_readings
use Rattle.mctp_i2c.specs.Laws.{SmbusBurstsAreSeen, SmbusTwoBitsAreSeen, I3cBurstsAreSeen, I3cTwoBitsAreSeen}
use Rattle.mctp_i2c.specs.declared.i3c.Direction.{Direction}
use Rattle.mctp_i2c.specs.declared.i3c.Direction.TheVariants.{Write, Read}
use Rattle.mctp_i2c.proofs.Passing.{no_value, front_bytes, both_bytes}
use Rattle.mctp_i2c.proofs.PecFurther.{first_too}
use Rattle.mctp_i2c.proofs.Codewords.{IsMultiple, codeword, sum_of_multiples, no_burst, no_two_bits}
use Rattle.mctp_i2c.proofs.SmbusReadBack as smbus_read
use Rattle.mctp_i2c.proofs.I3cReadBack as i3c_read

-- what is checked on SMBus are bytes
checked_bytes : (source own : ℕ) (packet : List ℕ) → source ≤ 127 → own ≤ 127 → length packet ≤ 254
    → AreBytes packet → AreBytes (smbus.checked source own packet)
checked_bytes source own packet s d few are =
    let from = (source * 2 + 1) ∷ packet in
    let counted = (1 + length packet) ∷ from in
    let fourth = first_too (source * 2 + 1) packet (omega arith) are in
    let third = first_too (1 + length packet) from (omega arith) fourth in
    first_too (own * 2) (15 ∷ counted) (omega arith) (first_too 15 counted (lit< tt) third)

-- a frame that is changed into one is changed by a multiple
smbus_multiple : (source own reader difference : ℕ) (packet changed : List ℕ) (r : smbus_readings.Received)
    → IsSmbusAddress source → IsSmbusAddress own → HasFrame packet → AreBytes packet
    → AreChanged difference (smbus.frame source own packet) changed → smbus_readings.reading reader changed ≡ Ok r
    → IsMultiple difference
smbus_multiple source own reader difference packet changed r s d framed are c h =
    let is = smbus_read.only reader changed r h in
    let before = smbus.checked source own packet in
    let after = smbus.checked r.source reader r.packet in
    let after_are : AreBytes after = front_bytes after (crc after ∷ []) (subst AreBytes is.bytes_are c.are_bytes) in
    let first = codeword before (checked_bytes source own packet (omega arith) (omega arith) (omega arith) are) in
    let second = subst (λ (l : List ℕ). IsMultiple (number_of l)) (sym is.bytes_are) (codeword after after_are) in
    subst IsMultiple c.differ (sum_of_multiples (number_of (with_pec before)) (number_of changed) first second)

pub smbus_bursts : SmbusBurstsAreSeen
smbus_bursts source own reader difference packet changed s d framed are burst c =
    no_value (smbus_readings.reading reader changed)
    (λ r h. no_burst difference (smbus_multiple source own reader difference packet changed r s d framed are c h) burst)

pub smbus_two_bits : SmbusTwoBitsAreSeen
smbus_two_bits source own reader difference packet changed s d framed are two c =
    no_value (smbus_readings.reading reader changed)
    (λ r h. no_two_bits difference (smbus_multiple source own reader difference packet changed r s d framed are c h) two)

-- the byte that a transfer begins with
pub address_byte_small : (address : ℕ) (direction : Direction) → IsDynamicAddress address
    → i3c.address_byte address direction < 256
address_byte_small address Write h = omega arith
address_byte_small address Read h = omega arith

-- a frame and the address byte before it
pub with_address : (address : ℕ) (direction : Direction) (packet : List ℕ) → IsDynamicAddress address → AreBytes packet
    → IsMultiple (number_of (i3c.address_byte address direction ∷ i3c.frame address direction packet))
with_address address direction packet small are =
    let first = i3c.address_byte address direction in
    codeword (first ∷ packet) (first_too first packet (address_byte_small address direction small) are)

pub frame_bytes : (address : ℕ) (direction : Direction) (packet : List ℕ) → IsDynamicAddress address
    → AreBytes packet → AreBytes (i3c.frame address direction packet)
frame_bytes address direction packet small are =
    let first = i3c.address_byte address direction in
    let h =
    crc_is_remainder (first ∷ packet) (first_too first packet (address_byte_small address direction small) are) in
    both_bytes packet (crc (first ∷ packet) ∷ []) are (first_too (crc (first ∷ packet)) [] h.below (λ i. lit< tt))

i3c_multiple : (address other difference : ℕ) (direction other_direction : Direction) (packet changed read : List ℕ)
    → IsDynamicAddress address → IsDynamicAddress other → HasFrame packet → AreBytes packet
    → AreChanged difference (i3c.address_byte address direction ∷ i3c.frame address direction packet) (i3c.address_byte other other_direction ∷ changed)
    → i3c_readings.reading other other_direction changed ≡ Ok read
    → IsMultiple difference
i3c_multiple address other difference direction other_direction packet changed read small other_small framed are c h =
    let is = i3c_read.only other other_direction changed read h in
    let first = i3c.address_byte address direction in
    let second = i3c.address_byte other other_direction in
    let bytes = i3c.frame address direction packet in
    let changed_are : AreBytes changed = λ i. c.are_bytes (suc i) in
    let read_are : AreBytes read =
    front_bytes read (crc (second ∷ read) ∷ []) (subst AreBytes is.bytes_are changed_are) in
    let one = with_address address direction packet small are in
    let two =
    subst (λ (l : List ℕ). IsMultiple (number_of (second ∷ l))) (sym is.bytes_are)
    (with_address other other_direction read other_small read_are) in
    subst IsMultiple c.differ (sum_of_multiples (number_of (first ∷ bytes)) (number_of (second ∷ changed)) one two)

pub i3c_bursts : I3cBurstsAreSeen
i3c_bursts address other difference direction other_direction packet changed small other_small framed are burst c =
    no_value (i3c_readings.reading other other_direction changed)
    (λ r h. no_burst difference (i3c_multiple address other difference direction other_direction packet changed r small other_small framed are c h) burst)

pub i3c_two_bits : I3cTwoBitsAreSeen
i3c_two_bits address other difference direction other_direction packet changed small other_small framed are two c =
    no_value (i3c_readings.reading other other_direction changed)
    (λ r h. no_two_bits difference (i3c_multiple address other difference direction other_direction packet changed r small other_small framed are c h) two)
