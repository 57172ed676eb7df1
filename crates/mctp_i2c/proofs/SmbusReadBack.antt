-- A frame on SMBus is read back, and nothing else is read.
use Rattle.std.proofs.Common.{◌≡◌, ℕ, ◌+◌, ◌-◌, ◌*◌, ◌/◌, ◌%◌, ◌<◌, ◌≤◌, ◌==◌, nat_lt, not, false, List, []}
use Rattle.std.proofs.Common.{◌∷◌, ◌++◌, length, drop, slice_index, Some, is_some, Ok, refl, sym, ap, subst}
use Rattle.std.proofs.Common.{◌∙◌, arith, lit<, length-append}
use Rattle.std.proofs.lemmas.Bool.{eq-eqb, le-ltb, le-leb, ltb-false, eqb-true, not-false}
use Rattle.std.proofs.lemmas.Bool.Decides.{nat_tests}
use Rattle.std.proofs.lemmas.List.{length-drop, length-take-le, get_or-take}
use Rattle.pldm_wire.specs.Crc.{crc}
use Rattle.mctp_i2c.specs.Addresses.{IsSmbusAddress}
use Rattle.mctp_i2c.specs.Pecs.{with_pec}
use Rattle.mctp_i2c.specs.Refusals.{front, last}
use Rattle.mctp_i2c.specs.declared.smbus.TheConstants.{COMMAND_CODE}
use Rattle.mctp_i2c.specs.SmbusFrames.{checked, frame}
use Rattle.mctp_i2c.specs.SmbusReadings.{Received, received, IsFrameTo, source_in, checks, refusal}
use Rattle.mctp_i2c.specs.SmbusReadings.{received_in, reading}
use Rattle.mctp_i2c.proofs.Passing.{AllPass, none_failing, all_pass, found_is, unless-none, front-append}
use Rattle.mctp_i2c.proofs.Passing.{last-append, front_and_last}

source_back : (source : ℕ) → IsSmbusAddress source → source_in (source * 2 + 1) ≡ Some source
source_back source h =
    let odd : (source * 2 + 1) % 2 ≡ 1 = omega arith in
    let half : (source * 2 + 1) / 2 ≡ source = omega arith in
    let low = le-leb 8 source h.0 in
    let high = le-leb source 119 h.1 in
    rw (odd, half) (simp (low, high) refl)

pub read_back : (source own : ℕ) (packet : List ℕ) → IsSmbusAddress source → 1 ≤ length packet
    → reading own (frame source own packet) ≡ Ok (received source packet)
read_back source own packet h some =
    let before = checked source own packet in
    let bytes = frame source own packet in
    let all : length bytes ≡ length before + 1 = length-append before (crc before ∷ []) in
    let enough : nat_lt (length bytes) 6 ≡ false = le-ltb (length bytes) 6 (omega arith) in
    let ours : not (own * 2 == own * 2) ≡ false = ap not (eq-eqb (own * 2) (own * 2) refl) in
    let count : not (1 + length packet == length bytes - 4) ≡ false =
    ap not (eq-eqb (1 + length packet) (length bytes - 4) (omega arith)) in
    let from : not (is_some (source_in (source * 2 + 1))) ≡ false = ap (λ s. not (is_some s)) (source_back source h) in
    let pec : not (last bytes == crc (front bytes)) ≡ false =
    ap not (eq-eqb (last bytes) (crc (front bytes)) (last-append before (crc before) ∙ ap crc (sym (front-append before (crc before))))) in
    let pass : AllPass (checks own bytes) = (enough, (ours, (refl, (count, (from, (pec, tt)))))) in
    let half : (source * 2 + 1) / 2 ≡ source = omega arith in
    unless-none (refusal own bytes) (received_in bytes) (none_failing (checks own bytes) pass)
    ∙ ap (λ p. Ok (received ((source * 2 + 1) / 2) (drop 4 p))) (front-append before (crc before))
    ∙ ap (λ s. Ok (received s packet)) half

pub every : (own : ℕ) (bytes : List ℕ) (received : Received) → IsFrameTo own received bytes
    → reading own bytes ≡ Ok received
every own bytes r h = ap (reading own) h.bytes_are ∙ read_back r.source own r.packet h.source h.some

-- a source byte has its bit set after the address of a device
source_of : (byte : ℕ) → not (is_some (source_in byte)) ≡ false → (byte ≡ byte / 2 * 2 + 1) × IsSmbusAddress (byte / 2)
source_of byte h = (grind (arith, nat_tests), (grind (arith, nat_tests), grind (arith, nat_tests)))

four_front : (bytes : List ℕ) → 4 ≤ length bytes
    → bytes ≡ slice_index bytes 0 ∷ slice_index bytes 1 ∷ slice_index bytes 2 ∷ slice_index bytes 3 ∷ drop 4 bytes
four_front [] h = absurd (omega arith)
four_front (a ∷ []) h = absurd (omega arith)
four_front (a ∷ b ∷ []) h = absurd (omega arith)
four_front (a ∷ b ∷ c ∷ []) h = absurd (omega arith)
four_front (a ∷ b ∷ c ∷ d ∷ rest) h = refl

-- what passes is framed so
pub framed : (own : ℕ) (bytes : List ℕ) → AllPass (checks own bytes) → IsFrameTo own (received_in bytes) bytes
framed own bytes pass =
    let long : 6 ≤ length bytes = ltb-false (length bytes) 6 pass.0 in
    let before = front bytes in
    let packet = drop 4 before in
    let source = slice_index bytes 3 / 2 in
    let many : length before ≡ length bytes - 1 = length-take-le (length bytes - 1) bytes (omega arith) in
    let rest : length packet ≡ length before - 4 = length-drop 4 before in
    let from = source_of (slice_index bytes 3) pass.1.1.1.1.0 in
    let at = λ (i : ℕ) (lt : i < 4). get_or-take (length bytes - 1) bytes i 0 (omega arith) in
    let first : slice_index before 0 ≡ own * 2 =
    at 0 (lit< tt) ∙ eqb-true (slice_index bytes 0) (own * 2) (not-false _ pass.1.0) in
    let second : slice_index before 1 ≡ COMMAND_CODE =
    at 1 (lit< tt) ∙ eqb-true (slice_index bytes 1) COMMAND_CODE (not-false _ pass.1.1.0) in
    let count : slice_index bytes 2 ≡ length bytes - 4 =
    eqb-true (slice_index bytes 2) (length bytes - 4) (not-false _ pass.1.1.1.0) in
    let third : slice_index before 2 ≡ 1 + length packet = at 2 (lit< tt) ∙ count ∙ omega arith in
    let fourth : slice_index before 3 ≡ source * 2 + 1 = at 3 (lit< tt) ∙ from.0 in
    let pec : last bytes ≡ crc before = eqb-true (last bytes) (crc before) (not-false _ pass.1.1.1.1.1.0) in
    let parts : before ≡ checked source own packet =
    four_front before (omega arith) ∙ rw (first, second, third, fourth) refl in
    record {
      source = from.1;
      some = omega arith;
      bytes_are =
          front_and_last bytes (omega arith)
          ∙ ap (λ n. before ++ n ∷ []) pec
          ∙ ap with_pec parts;
    }

pub only : (own : ℕ) (bytes : List ℕ) (r : Received) → reading own bytes ≡ Ok r → IsFrameTo own r bytes
only own bytes r h =
    let found = found_is (refusal own bytes) (received_in bytes) r h in
    subst (λ (x : Received). IsFrameTo own x bytes) found.1 (framed own bytes (all_pass (checks own bytes) found.0))
