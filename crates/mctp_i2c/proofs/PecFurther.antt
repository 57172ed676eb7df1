-- One byte more after an address byte and others.
use Rattle.std.proofs.Common.{◌≡◌, ℕ, zero, suc, ◌+◌, ◌^◌, ◌<◌, List, [], ◌∷◌, length, take, slice_index}
use Rattle.std.proofs.Common.{bit_xor, subst, arith}
use Rattle.pldm_wire.specs.Crc.{IsCrc, crc}
use Rattle.pldm_wire.proofs.Checksums.{next_taken}
use Rattle.mctp_i2c.specs.Changes.{AreBytes}

pub first_too : (first : ℕ) (bytes : List ℕ) → first < 256 → AreBytes bytes → AreBytes (first ∷ bytes)
first_too first bytes small are zero = small
first_too first bytes small are (suc i) = are i

pub further : (first : ℕ) (bytes : List ℕ) (i checksum : ℕ) → i < length bytes → slice_index bytes i < 2 ^ 8
    → IsCrc (first ∷ take i bytes) checksum
    → IsCrc (first ∷ take (i + 1) bytes) (crc (bit_xor checksum (slice_index bytes i) ∷ []))
further first bytes i checksum within small h =
    let next : suc i + 1 ≡ suc (i + 1) = omega arith in
    subst (λ (n : ℕ). IsCrc (take n (first ∷ bytes)) (crc (bit_xor checksum (slice_index bytes i) ∷ []))) next
    (next_taken (first ∷ bytes) (suc i) checksum (omega arith) small h)
