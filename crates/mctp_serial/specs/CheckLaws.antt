-- Laws of the check sequence.
use Rattle.std.specs.Prelude.{◌≡◌, ◌≢◌, ℕ, ◌*◌, ◌^◌, ◌<◌, bit_xor, List, length, slice_index}
use Rattle.std.specs.List.{fold}
use Rattle.mctp_serial.specs.CheckSequences.{byte_further}
use Rattle.mctp_serial.specs.Remainders.{IsRemainder, IsSequence, number_of}
use Rattle.mctp_serial.specs.declared.TheConstants.{START_REGISTER}

abbrev pub AreBytes : List ℕ → Type 0
AreBytes bytes = (i : ℕ) → slice_index bytes i < 256

-- the register after all bytes is the remainder of their bits
abbrev pub SequenceIsRemainder : Type 0
SequenceIsRemainder = (bytes : List ℕ) → AreBytes bytes → IsSequence bytes (fold byte_further START_REGISTER bytes)

-- a number has one remainder
abbrev pub OneRemainder : Type 0
OneRemainder =
    (powers number remainder other : ℕ)
    → IsRemainder powers number remainder → IsRemainder powers number other → remainder ≡ other

-- bytes of one length whose bits differ only within sixteen in a row, from bit `place` on, differ in it
abbrev pub ShortBurstsAreReported : Type 0
ShortBurstsAreReported =
    (a b : List ℕ) (burst place : ℕ)
    → AreBytes a → AreBytes b → length a ≡ length b
    → burst ≢ 0 → burst < 2 ^ 16 → bit_xor (number_of a) (number_of b) ≡ burst * 2 ^ place
    → fold byte_further START_REGISTER a ≢ fold byte_further START_REGISTER b
