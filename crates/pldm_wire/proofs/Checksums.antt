-- The checksum of bytes is the remainder of their bits and eight zeros, and is found byte by byte.
use Rattle.std.proofs.Common.{◌≡◌, ℕ, zero, suc, ◌+◌, ◌*◌, ◌/◌, ◌^◌, ◌<◌, List, [], ◌∷◌, ◌++◌, bit_xor, slice_index, length, take, replicate, refl, sym, ap, subst, ◌∙◌, arith, lit<, add-zero}
use Rattle.std.specs.Int.{bit_at}
use Rattle.std.specs.List.{fold, flat_map}
use Rattle.std.proofs.lemmas.Grind.{fold-append}
use Rattle.std.proofs.lemmas.List.{take_more}
use Rattle.std.proofs.lemmas.Nat.{div-add-mod', shr-shr}
use Rattle.std.proofs.lemmas.Nat.Bits.{bit_at-lt}
use Rattle.pldm_wire.specs.Crc.{IsRemainder, number_of, IsCrc, bits_of, brought_down, crc}
use Rattle.pldm_wire.proofs.Polynomials.{shift_then}
use Rattle.pldm_wire.proofs.Remainders.{one_remainder, followed, added, of_low, next_bit}

-- a number with one more bit after it
abbrev bit_after : ℕ → ℕ → ℕ
bit_after number bit = number * 2 + bit

-- a number with one more byte after it
abbrev byte_after : ℕ → ℕ → ℕ
byte_after number byte = number * 2 ^ 8 + byte

abbrev AreBits : List ℕ → Type 0
AreBits [] = Unit {0}
AreBits (bit ∷ bits) = (bit < 2) × AreBits bits

both_are_bits : (bits more : List ℕ) → AreBits bits → AreBits more → AreBits (bits ++ more)
both_are_bits [] more h g = g
both_are_bits (bit ∷ bits) more h g = (h.0, both_are_bits bits more h.1 g)

of_byte_are_bits : (byte : ℕ) → AreBits (bits_of byte)
of_byte_are_bits byte =
    let bit = bit_at-lt byte in
    (bit 7, (bit 6, (bit 5, (bit 4, (bit 3, (bit 2, (bit 1, (bit 0, tt))))))))

of_bytes_are_bits : (bytes : List ℕ) → AreBits (flat_map bits_of bytes)
of_bytes_are_bits [] = tt
of_bytes_are_bits (byte ∷ bytes) = both_are_bits (bits_of byte) (flat_map bits_of bytes) (of_byte_are_bits byte) (of_bytes_are_bits bytes)

zeros_are_bits : (n : ℕ) → AreBits (replicate n 0)
zeros_are_bits zero = tt
zeros_are_bits (suc n) = (lit< tt, zeros_are_bits n)

-- long division leaves the remainder
divided : (bits : List ℕ) (number remainder : ℕ) → AreBits bits → IsRemainder number remainder
    → IsRemainder (fold bit_after number bits) (fold brought_down remainder bits)
divided [] number remainder are h = h
divided (bit ∷ bits) number remainder are h =
    divided bits (number * 2 + bit) (brought_down remainder bit) are.1 (next_bit number remainder bit are.0 h)

-- the bits of a number from bit k on are those from the next on, and bit k
bit_joined : (n k : ℕ) → n / 2 ^ (k + 1) * 2 + bit_at n k ≡ n / 2 ^ k
bit_joined n k = ap (λ x. x * 2 + bit_at n k) (sym (shr-shr n k 1)) ∙ div-add-mod' (n / 2 ^ k) 2

-- the bits of a byte are the byte
byte_joined : (number byte : ℕ) → byte < 2 ^ 8 → fold bit_after number (bits_of byte) ≡ byte_after number byte
byte_joined number byte lt =
    omega (arith, bit_joined byte 7, bit_joined byte 6, bit_joined byte 5, bit_joined byte 4, bit_joined byte 3, bit_joined byte 2, bit_joined byte 1, bit_joined byte 0)

bytes_joined : (bytes : List ℕ) (number : ℕ) → ((i : ℕ) → slice_index bytes i < 2 ^ 8)
    → fold bit_after number (flat_map bits_of bytes) ≡ fold byte_after number bytes
bytes_joined [] number are = refl
bytes_joined (byte ∷ bytes) number are =
    fold-append bit_after number (bits_of byte) (flat_map bits_of bytes)
    ∙ ap (λ x. fold bit_after x (flat_map bits_of bytes)) (byte_joined number byte (are 0))
    ∙ bytes_joined bytes (byte_after number byte) (λ i. are (suc i))

zeros_joined : (number : ℕ) → fold bit_after number (replicate 8 0) ≡ number * 2 ^ 8
zeros_joined number = omega arith

-- the bits that are divided are the number of the bytes, times x^8
all_joined : (bytes : List ℕ) → ((i : ℕ) → slice_index bytes i < 2 ^ 8)
    → fold bit_after 0 (flat_map bits_of bytes ++ replicate 8 0) ≡ number_of bytes * 2 ^ 8
all_joined bytes are =
    fold-append bit_after 0 (flat_map bits_of bytes) (replicate 8 0)
    ∙ zeros_joined (fold bit_after 0 (flat_map bits_of bytes))
    ∙ ap (λ x. x * 2 ^ 8) (bytes_joined bytes 0 are)

pub crc_is_remainder : (bytes : List ℕ) → ((i : ℕ) → slice_index bytes i < 2 ^ 8) → IsCrc bytes (crc bytes)
unfolding crc
crc_is_remainder bytes are =
    let bits = both_are_bits (flat_map bits_of bytes) (replicate 8 0) (of_bytes_are_bits bytes) (zeros_are_bits 8) in
    subst (λ (x : ℕ). IsRemainder x (crc bytes)) (all_joined bytes are)
    (divided (flat_map bits_of bytes ++ replicate 8 0) 0 0 bits (of_low 0 (lit< tt)))

pub only_crc : (bytes : List ℕ) (remainder : ℕ) → ((i : ℕ) → slice_index bytes i < 2 ^ 8) → IsCrc bytes remainder → remainder ≡ crc bytes
only_crc bytes remainder are h = one_remainder (number_of bytes * 2 ^ 8) remainder (crc bytes) h (crc_is_remainder bytes are)

alone : (byte : ℕ) → byte < 2 ^ 8 → (i : ℕ) → slice_index (byte ∷ []) i < 2 ^ 8
alone byte lt zero = lt
alone byte lt (suc i) = lit< tt

-- the checksum of a byte alone
of_one_byte : (byte : ℕ) → byte < 2 ^ 8 → IsRemainder (byte * 2 ^ 8 + 0) (crc (byte ∷ []))
of_one_byte byte lt =
    let same : number_of (byte ∷ []) * 2 ^ 8 ≡ byte * 2 ^ 8 + 0 = omega arith in
    subst (λ (x : ℕ). IsRemainder x (crc (byte ∷ []))) same (crc_is_remainder (byte ∷ []) (alone byte lt))

-- a byte after the others is added at their end
byte_added : (bytes : List ℕ) (byte : ℕ) → byte < 2 ^ 8 → bit_xor (number_of bytes * 2 ^ 8) byte * 2 ^ 8 + 0 ≡ number_of (bytes ++ byte ∷ []) * 2 ^ 8
byte_added bytes byte lt =
    add-zero (bit_xor (number_of bytes * 2 ^ 8) byte * 2 ^ 8)
    ∙ ap (λ x. x * 2 ^ 8) (sym (shift_then (number_of bytes) 8 byte lt) ∙ sym (fold-append byte_after 0 bytes (byte ∷ [])))

-- so where it follows, the checksum of it and the checksum so far, summed, is the next checksum
next_byte : (bytes : List ℕ) (checksum byte : ℕ) → byte < 2 ^ 8 → IsCrc bytes checksum
    → IsCrc (bytes ++ byte ∷ []) (crc (bit_xor checksum byte ∷ []))
next_byte bytes checksum byte lt h =
    let sum = added (number_of bytes * 2 ^ 8) checksum byte lt h in
    let next = crc (bit_xor checksum byte ∷ []) in
    subst (λ (x : ℕ). IsRemainder x next) (byte_added bytes byte lt)
    (followed (bit_xor (number_of bytes * 2 ^ 8) byte) (bit_xor checksum byte) 8 0 next (lit< tt) sum (of_one_byte (bit_xor checksum byte) sum.below))

pub next_taken : (bytes : List ℕ) (i checksum : ℕ) → i < length bytes → slice_index bytes i < 2 ^ 8 → IsCrc (take i bytes) checksum
    → IsCrc (take (i + 1) bytes) (crc (bit_xor checksum (slice_index bytes i) ∷ []))
next_taken bytes i checksum within lt h =
    rw (take_more bytes i 0 within) (next_byte (take i bytes) checksum (slice_index bytes i) lt h)
