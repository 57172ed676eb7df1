-- Where every reader refuses changed bytes, no packet is found in them.
use Rattle.std.proofs.Common.{◌≡◌, ℕ, ◌/◌, ◌%◌, ◌==◌, ◌≤◌, nat_lt, Bool, true, false, if◌then◌else◌, inl, inr, List, [], ◌∷◌, length, slice_index, Option, Some, None, Result, Ok, Err, IsErr, refl, sym, subst, arith, eqb-true}
use Rattle.std.proofs.lemmas.Bool.{eqb-false}
use Rattle.mctp_i2c.specs.Changes.{AreBytes, AreChanged}
use Rattle.mctp_i2c.specs.I3cFrames.{address_byte, frame}
use Rattle.mctp_i2c.specs.I3cReadings as i3c
use Rattle.mctp_i2c.specs.Laws.{SmbusBurstsAreSeen, SmbusTwoBitsAreSeen, I3cBurstsAreSeen, I3cTwoBitsAreSeen}
use Rattle.mctp_i2c.specs.SmbusReadings.{Received, reading}
use Rattle.mctp_i2c.specs.declared.i3c.Direction.{Direction}
use Rattle.mctp_i2c.specs.declared.i3c.Direction.TheVariants.{Read, Write}
use Rattle.mctp_i2c.specs.declared.i3c.I3cFault as i3c_fault
use Rattle.mctp_i2c.specs.declared.smbus.SmbusFault as smbus_fault
use Rattle.mctp_i2c.specs.declared.smbus.SmbusFault.TheVariants.{Short}
use Rattle.mctp_i2c.specs.declared.smbus.TheConstants.{MIN_FRAME_BYTES}
use Rattle.mctpctl_input.specs.Bindings.{direction_in, packet_of, with_fault}
use Rattle.mctpctl_input.specs.Laws.{I2cChangesAreSeen, I3cChangesAreSeen}
use Rattle.mctpctl_input.specs.SmbusPackets.{destination_in, packet_in, smbus_packet_to}
use Rattle.mctpctl_input.specs.declared.binding.Binding.TheVariants as on
use Rattle.mctpctl_input.specs.declared.frame_fault.FrameFault.TheVariants.{I2c, I3c}

smbus_none : (r : Result Received smbus_fault.SmbusFault) → IsErr r → IsErr (with_fault (λ fault. I2c fault) (packet_in r))
smbus_none (Ok received) h = cc
smbus_none (Err fault) h = refl

to_none : (destination : Option ℕ) (changed : List ℕ) → ((reader : ℕ) → IsErr (reading reader changed))
    → IsErr (with_fault (λ fault. I2c fault) (smbus_packet_to destination changed))
to_none None changed h = refl
to_none (Some reader) changed h = smbus_none (reading reader changed) (h reader)

i2c_by : (short : Bool) (changed : List ℕ) → ((reader : ℕ) → IsErr (reading reader changed))
    → IsErr (with_fault (λ fault. I2c fault) (if short then Err Short else smbus_packet_to (destination_in (slice_index changed 0)) changed))
i2c_by true changed h = refl
i2c_by false changed h = to_none (destination_in (slice_index changed 0)) changed h

i2c_none : (changed : List ℕ) → ((reader : ℕ) → IsErr (reading reader changed)) → IsErr (packet_of on.I2c changed)
i2c_none changed h = i2c_by (nat_lt (length changed) MIN_FRAME_BYTES) changed h

pub i2c_changes : SmbusBurstsAreSeen → SmbusTwoBitsAreSeen → I2cChangesAreSeen
i2c_changes bursts two source destination difference packet changed s d framed are (inl burst) c =
    i2c_none changed (λ reader. bursts source destination reader difference packet changed s d framed are burst c)
i2c_changes bursts two source destination difference packet changed s d framed are (inr bits) c =
    i2c_none changed (λ reader. two source destination reader difference packet changed s d framed are bits c)

i3c_none : (r : Result (List ℕ) i3c_fault.I3cFault) → IsErr r → IsErr (with_fault (λ fault. I3c fault) r)
i3c_none (Ok packet) h = cc
i3c_none (Err fault) h = refl

-- a byte begins the transfer that is in it
begins_by : (first : ℕ) (odd : Bool) → (first % 2 == 1) ≡ odd → address_byte (first / 2) (if odd then Read else Write) ≡ first
begins_by first true e = let one : first % 2 ≡ 1 = eqb-true _ _ e in omega (arith, one)
begins_by first false e = let other = eqb-false _ _ e in omega (arith, other)

begins : (first : ℕ) → address_byte (first / 2) (direction_in first) ≡ first
begins first = begins_by first (first % 2 == 1) refl

pub i3c_changes : I3cBurstsAreSeen → I3cTwoBitsAreSeen → I3cChangesAreSeen
i3c_changes bursts two address difference direction packet [] small framed are some c = refl
i3c_changes bursts two address difference direction packet (first ∷ changed) small framed are some c =
    let byte = c.are_bytes 0 in
    let other_small : first / 2 ≤ 127 = omega (arith, byte) in
    let same = subst (λ (b : ℕ). AreChanged difference (address_byte address direction ∷ frame address direction packet) (b ∷ changed)) (sym (begins first)) c in
    i3c_none (i3c.reading (first / 2) (direction_in first) changed)
    (elim some [
      | inl burst ↦ bursts address (first / 2) difference direction (direction_in first) packet changed small other_small framed are burst same
      | inr bits ↦ two address (first / 2) difference direction (direction_in first) packet changed small other_small framed are bits same
    ])
