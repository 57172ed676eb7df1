-- The number of bytes of which the first is known apart.
use Rattle.std.proofs.Common.{◌≡◌, ℕ, suc, ◌+◌, ◌*◌, ◌^◌, ◌<◌, ◌≤◌, bit_xor, List, [], ◌∷◌, length, sym, ap}
use Rattle.std.proofs.Common.{◌∙◌, arith, lit<}
use Rattle.std.specs.List.{fold}
use Rattle.std.proofs.lemmas.Nat.{pow-add, xor_block}
use Rattle.std.proofs.Math.Nat.{mul-le-mul_right}
use Rattle.pldm_wire.specs.Crc.{number_of}
use Rattle.mctp_i2c.specs.Changes.{AreBytes}

-- a number with one more byte after it
abbrev byte_after : ℕ → ℕ → ℕ
byte_after number byte = number * 2 ^ 8 + byte

size_more : (n : ℕ) → 2 ^ (8 * suc n) ≡ 2 ^ (8 * n) * 256
size_more n = ap (λ k. 2 ^ k) (let e : 8 * suc n ≡ 8 * n + 8 = omega arith in e) ∙ pow-add 2 (8 * n) 8

behind : (bytes : List ℕ) (number : ℕ)
    → fold byte_after number bytes ≡ number * 2 ^ (8 * length bytes) + number_of bytes
behind [] number = omega arith
behind (byte ∷ bytes) number =
    let size = 2 ^ (8 * length bytes) in
    let later = behind bytes (0 * 2 ^ 8 + byte) in
    let more : number * 2 ^ (8 * suc (length bytes)) ≡ number * (size * 256) =
    ap (λ p. number * p) (size_more (length bytes)) in
    behind bytes (number * 2 ^ 8 + byte) ∙ omega (arith, later, more)

pub first_apart : (first : ℕ) (bytes : List ℕ)
    → number_of (first ∷ bytes) ≡ first * 2 ^ (8 * length bytes) + number_of bytes
first_apart first bytes =
    let none : 0 * 2 ^ 8 + first ≡ first = omega arith in
    ap (λ n. fold byte_after n bytes) none ∙ behind bytes first

pub number_below : (bytes : List ℕ) → AreBytes bytes → number_of bytes < 2 ^ (8 * length bytes)
number_below [] are = lit< tt
number_below (byte ∷ bytes) are =
    let size = 2 ^ (8 * length bytes) in
    let some : byte + 1 ≤ 256 = omega (arith, are 0) in
    let room : (byte + 1) * size ≤ 256 * size = mul-le-mul_right size some in
    omega (arith, first_apart byte bytes, number_below bytes (λ i. are (suc i)), room, size_more (length bytes))

-- what differs in two such numbers
pub firsts_differ : (a b : ℕ) (x y : List ℕ) → AreBytes x → AreBytes y → length y ≡ length x
    → bit_xor (number_of (a ∷ x)) (number_of (b ∷ y)) ≡ bit_xor a b * 2 ^ (8 * length x) + bit_xor (number_of x)
    (number_of y)
firsts_differ a b x y are too same =
    let k = 8 * length x in
    let below : number_of y < 2 ^ k = rw (sym same) (number_below y too) in
    let other : number_of (b ∷ y) ≡ b * 2 ^ k + number_of y =
    first_apart b y ∙ ap (λ n. b * 2 ^ (8 * n) + number_of y) same in
    ap (λ n. bit_xor n (number_of (b ∷ y))) (first_apart a x)
    ∙ ap (bit_xor (a * 2 ^ k + number_of x)) other
    ∙ xor_block k a b (number_of x) (number_of y) (number_below x are) below
