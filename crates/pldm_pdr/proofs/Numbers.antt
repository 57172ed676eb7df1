-- Numbers as bytes: what is read of bytes is written as them.
use Rattle.std.proofs.Common.{◌≡◌, ℕ, zero, suc, ◌+◌, ◌*◌, ◌^◌, ◌/◌, ◌%◌, ◌<◌, ◌≤◌, pos, ◌-ℤ◌, ltb, List, [], ◌∷◌, length, take, refl, sym, ap, ◌∙◌, arith, ltb-true, ltb-false, w64}
use Rattle.std.proofs.Math.Nat.{div-div-eq-div-mul, pow-succ'}
use Rattle.std.proofs.lemmas.Bool.{cond_both}
use Rattle.std.proofs.lemmas.Int.{ints}
use Rattle.std.specs.Int.{byte_at, bytes_low_first}
use Rattle.byteorder.specs.Endian.{little_number, little_bytes, low_bytes}
use Rattle.byteorder.specs.Numbers.{little_from-cons}
use Rattle.pldm_wire.specs.Sizes.{width}
use Rattle.pldm_wire.specs.Numbers.{value_of}
use Rattle.pldm_wire.specs.declared.size.Size.{Size}
use Rattle.pldm_wire.specs.declared.size.Size.TheVariants.{Uint8, Sint8, Uint16, Sint16, Uint32, Sint32}
use Rattle.pldm_pdr.proofs.Steps.{IsBytes, bytes_after}

-- without its lowest byte a number has the others
higher_part : (i b y : ℕ) → b < 256 → (b + 256 * y) / 256 ^ suc i ≡ y / 256 ^ i
higher_part i b y h =
    let shifted : (b + 256 * y) / 256 ≡ y = omega arith in
    ap (λ (p : ℕ). (b + 256 * y) / p) (pow-succ' 256 i) ∙ sym (div-div-eq-div-mul (b + 256 * y) 256 (256 ^ i)) ∙ ap (λ (q : ℕ). q / 256 ^ i) shifted

higher_byte : (i b y : ℕ) → b < 256 → byte_at (suc i) (b + 256 * y) ≡ byte_at i y
higher_byte zero b y h = omega arith
higher_byte (suc i) b y h = ap (λ (q : ℕ). q % 256) (higher_part (suc i) b y h)

higher_bytes : (n i b y : ℕ) → b < 256 → bytes_low_first (suc i) n (b + 256 * y) ≡ bytes_low_first i n y
higher_bytes zero i b y h = refl
higher_bytes (suc n) i b y h = rw (higher_byte i b y h, higher_bytes n (suc i) b y h) refl

-- the number in the first bytes is written as them
pub written_again : (n : ℕ) (bytes : List ℕ) → IsBytes bytes → n ≤ length bytes → little_bytes n (little_number n bytes) ≡ take n bytes
written_again zero bytes small long = refl
written_again (suc n) [] small long = absurd (omega arith)
written_again (suc n) (b ∷ bytes) small long =
    let byte = small 0 in
    let rest = written_again n bytes (bytes_after b bytes small) (omega arith) in
    let low : (b + 256 * little_number n bytes) % 256 ≡ b = omega arith in
    rw (little_from-cons 0 n b bytes, low, higher_bytes n 0 b (little_number n bytes) byte, rest) refl

-- the lowest bytes of a value that was read are the number that was read
pub low_again : (size : Size) (n : ℕ) → n < 256 ^ width size → low_bytes w64 (width size) (value_of size n) ≡ n
low_again Uint8 n h = omega (arith, ints)
low_again Sint8 n h =
    cond_both (ltb n (2 ^ 7)) (pos n) (pos n -ℤ pos (2 ^ 8)) (λ v. low_bytes w64 1 v ≡ n)
    (λ t. let low = ltb-true _ _ t in omega (arith, ints))
    (λ t. let high = ltb-false _ _ t in omega (arith, ints))
low_again Uint16 n h = omega (arith, ints)
low_again Sint16 n h =
    cond_both (ltb n (2 ^ 15)) (pos n) (pos n -ℤ pos (2 ^ 16)) (λ v. low_bytes w64 2 v ≡ n)
    (λ t. let low = ltb-true _ _ t in omega (arith, ints))
    (λ t. let high = ltb-false _ _ t in omega (arith, ints))
low_again Uint32 n h = omega (arith, ints)
low_again Sint32 n h =
    cond_both (ltb n (2 ^ 31)) (pos n) (pos n -ℤ pos (2 ^ 32)) (λ v. low_bytes w64 4 v ≡ n)
    (λ t. let low = ltb-true _ _ t in omega (arith, ints))
    (λ t. let high = ltb-false _ _ t in omega (arith, ints))
