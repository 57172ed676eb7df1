-- Reading by place gives the packet that the bytes spell, and no other.
use Rattle.std.proofs.Common.{◌≡◌, ℕ, zero, suc, ◌+◌, ◌*◌, ◌/◌, ◌%◌, ◌^◌, ◌<◌, ◌≤◌, Bool, true, false, not, ◌==◌, List, [], ◌∷◌, length, slice_index, drop, Option, Some, None, Result, Ok, Err, IfOk, refl, arith, length-drop, ltb-false, leb-false}
use Rattle.std.proofs.lemmas.Bool.Decides.{nat_tests}
use Rattle.mctp_packet.specs.Bits.{bit}
use Rattle.mctp_packet.specs.Ids.{IsEid}
use Rattle.mctp_packet.specs.Packets.{Packet, IsFor, Spells, flags}
use Rattle.mctp_packet.specs.Refusals.{first_failing, checks, refusal, is_destination, is_source}
use Rattle.mctp_packet.specs.Reading.{packet_of, unless, reading}
use Rattle.mctp_packet.specs.declared.reason.Reason.{Reason}

-- no check of the list fails
abbrev AllClear : List (Bool × Reason) → Type 0
AllClear [] = Unit {0}
AllClear ((fails, reason) ∷ checks) = (fails ≡ false) × AllClear checks

clear : (checks : List (Bool × Reason)) → first_failing checks ≡ None → AllClear checks
clear [] h = tt
clear ((false, reason) ∷ checks) h = (refl, clear checks h)
clear ((true, reason) ∷ checks) h = cc

-- the value of a test for 1
bit_is : (x : ℕ) → x < 2 → bit (x == 1) ≡ x
bit_is zero h = refl
bit_is (suc zero) h = refl
bit_is (suc (suc x)) h = absurd (omega arith)

-- the flags of the packet in these bytes are their fourth byte
pub flags_back : (bytes : List ℕ) → slice_index bytes 3 < 256 → flags (packet_of bytes) ≡ slice_index bytes 3
flags_back bytes h =
    let f = slice_index bytes 3 in
    rw (bit_is (f / 2 ^ 7 % 2) (omega arith), bit_is (f / 2 ^ 6 % 2) (omega arith), bit_is (f / 2 ^ 3 % 2) (omega arith)) (omega arith)

-- a list of four at least is its first four and the rest
pub four_front : (bytes : List ℕ) → 4 ≤ length bytes → bytes ≡ slice_index bytes 0 ∷ slice_index bytes 1 ∷ slice_index bytes 2 ∷ slice_index bytes 3 ∷ drop 4 bytes
four_front [] h = absurd (omega arith)
four_front (a ∷ []) h = absurd (omega arith)
four_front (a ∷ b ∷ []) h = absurd (omega arith)
four_front (a ∷ b ∷ c ∷ []) h = absurd (omega arith)
four_front (a ∷ b ∷ c ∷ d ∷ rest) h = refl

-- where the own endpoint ID is known, it is one
abbrev pub IsOwn : Option ℕ → Type 0
IsOwn None = Unit {0}
IsOwn (Some own) = IsEid own

destination_in_range : (own : Option ℕ) (n : ℕ) → IsOwn own → not (is_destination own n) ≡ false → IsEid n
destination_in_range None n t h = (grind (arith, nat_tests), grind (arith, nat_tests))
destination_in_range (Some own) n t h = (grind (arith, nat_tests), grind (arith, nat_tests))

source_in_range : (own : Option ℕ) (n : ℕ) → not (is_source own n) ≡ false → IsEid n
source_in_range None n h = (grind (arith, nat_tests), grind (arith, nat_tests))
source_in_range (Some own) n h = (grind (arith, nat_tests), grind (arith, nat_tests))

-- bytes that no check refuses spell the packet that is read from them
pub read_spells : (own : Option ℕ) (bytes : List ℕ) → IsOwn own → ((i : ℕ) → slice_index bytes i < 256) → refusal own bytes ≡ None → Spells (packet_of bytes) bytes
read_spells own bytes o small h =
    let passes : AllClear (checks own bytes) = clear (checks own bytes) h in
    let long : 4 ≤ length bytes = omega (arith, ltb-false _ _ passes.0) in
    let one : slice_index bytes 0 % 16 ≡ 1 = grind (arith, nat_tests, passes.1.0) in
    let front : slice_index bytes 0 ≡ 16 * (slice_index bytes 0 / 16) + 1 = omega arith in
    record {
      parts = record {
        destination = destination_in_range own _ o passes.1.1.0;
        source = source_in_range own _ passes.1.1.1.0;
        tag = omega arith;
        seq = omega arith;
        payload = simp (length-drop {A = ℕ}) (omega (arith, leb-false _ _ passes.1.1.1.1.0), omega (arith, ltb-false _ _ passes.1.1.1.1.1.0));
      };
      reserved = slice_index bytes 0 / 16;
      small = omega (arith, small 0);
      bytes_are = rw (flags_back bytes (small 3), ← front) (four_front bytes long);
    }

pub read_for_fits : (own : ℕ) (bytes : List ℕ) → refusal (Some own) bytes ≡ None → IsFor own (packet_of bytes)
read_for_fits own bytes h =
    let passes : AllClear (checks (Some own) bytes) = clear (checks (Some own) bytes) h in
    (grind (arith, nat_tests, passes.1.1.0), λ e. grind (arith, nat_tests, passes.1.1.1.0))

found_by : (own : Option ℕ) (bytes : List ℕ) → IsOwn own → ((i : ℕ) → slice_index bytes i < 256) → (r : Option Reason) → refusal own bytes ≡ r → IfOk (unless r (packet_of bytes)) (λ p. Spells p bytes)
found_by own bytes o small None h = read_spells own bytes o small h
found_by own bytes o small (Some reason) h = tt

-- what reading finds is spelled so
pub found : (own : Option ℕ) (bytes : List ℕ) → IsOwn own → ((i : ℕ) → slice_index bytes i < 256) → IfOk (reading own bytes) (λ p. Spells p bytes)
found own bytes o small = found_by own bytes o small (refusal own bytes) refl

fits_by : (own : ℕ) (bytes : List ℕ) (r : Option Reason) → refusal (Some own) bytes ≡ r → IfOk (unless r (packet_of bytes)) (λ p. IsFor own p)
fits_by own bytes None h = read_for_fits own bytes h
fits_by own bytes (Some reason) h = tt

both_by : (own : ℕ) (bytes : List ℕ) (r : Result Packet Reason) → IfOk r (λ p. Spells p bytes) → IfOk r (λ p. IsFor own p) → IfOk r (λ p. Spells p bytes × IsFor own p)
both_by own bytes (Ok p) a b = (a, b)
both_by own bytes (Err reason) a b = tt

-- what reading finds for the own endpoint is spelled so, and addressed to it by another
pub found_for : (own : ℕ) (bytes : List ℕ) → IsEid own → ((i : ℕ) → slice_index bytes i < 256) → IfOk (reading (Some own) bytes) (λ p. Spells p bytes × IsFor own p)
found_for own bytes o small =
    both_by own bytes (reading (Some own) bytes) (found (Some own) bytes o small) (fits_by own bytes (refusal (Some own) bytes) refl)
