-- A frame on I3C is read back, and nothing else is read.
use Rattle.std.proofs.Common.{◌≡◌, ℕ, ◌-◌, ◌≤◌, ◌==◌, nat_lt, not, false, List, [], ◌∷◌, ◌++◌, length, Ok}
use Rattle.std.proofs.Common.{sym, ap, subst, ◌∙◌, arith, length-append}
use Rattle.std.proofs.lemmas.Bool.{eq-eqb, le-ltb, ltb-false, eqb-true, not-false}
use Rattle.std.proofs.lemmas.List.{length-take-le}
use Rattle.pldm_wire.specs.Crc.{crc}
use Rattle.mctp_i2c.specs.Refusals.{front, last}
use Rattle.mctp_i2c.specs.I3cFrames.{address_byte, frame}
use Rattle.mctp_i2c.specs.I3cReadings.{IsFrameOf, checks, refusal, reading}
use Rattle.mctp_i2c.specs.declared.i3c.Direction.{Direction}
use Rattle.mctp_i2c.proofs.Passing.{AllPass, none_failing, all_pass, found_is, unless-none, front-append}
use Rattle.mctp_i2c.proofs.Passing.{last-append, front_and_last}

pub enough_bytes : (address : ℕ) (direction : Direction) (packet : List ℕ) → 4 ≤ length packet
    → nat_lt (length (frame address direction packet)) 5 ≡ false
enough_bytes address direction packet h =
    let all = length-append packet (crc (address_byte address direction ∷ packet) ∷ []) in
    le-ltb (length (frame address direction packet)) 5 (omega arith)

pub read_back : (address : ℕ) (direction : Direction) (packet : List ℕ) → 4 ≤ length packet
    → reading address direction (frame address direction packet) ≡ Ok packet
read_back address direction packet h =
    let bytes = frame address direction packet in
    let sum = crc (address_byte address direction ∷ packet) in
    let same =
    last-append packet sum ∙ ap (λ p. crc (address_byte address direction ∷ p)) (sym (front-append packet sum)) in
    let pec : not (last bytes == crc (address_byte address direction ∷ front bytes)) ≡ false =
    ap not (eq-eqb (last bytes) (crc (address_byte address direction ∷ front bytes)) same) in
    let pass : AllPass (checks address direction bytes) = (enough_bytes address direction packet h, (pec, tt)) in
    unless-none (refusal address direction bytes) (front bytes) (none_failing (checks address direction bytes) pass)
    ∙ ap (λ p. Ok p) (front-append packet sum)

pub every : (address : ℕ) (direction : Direction) (bytes packet : List ℕ) → IsFrameOf address direction packet bytes
    → reading address direction bytes ≡ Ok packet
every address direction bytes packet h =
    ap (reading address direction) h.bytes_are ∙ read_back address direction packet h.header

framed : (address : ℕ) (direction : Direction) (bytes : List ℕ) → AllPass (checks address direction bytes)
    → IsFrameOf address direction (front bytes) bytes
framed address direction bytes pass =
    let long : 5 ≤ length bytes = ltb-false (length bytes) 5 pass.0 in
    let before = front bytes in
    let many : length before ≡ length bytes - 1 = length-take-le (length bytes - 1) bytes (omega arith) in
    let pec : last bytes ≡ crc (address_byte address direction ∷ before) =
    eqb-true (last bytes) (crc (address_byte address direction ∷ before)) (not-false _ pass.1.0) in
    record { header = omega arith; bytes_are = front_and_last bytes (omega arith) ∙ ap (λ n. before ++ n ∷ []) pec }

pub only : (address : ℕ) (direction : Direction) (bytes packet : List ℕ)
    → reading address direction bytes ≡ Ok packet → IsFrameOf address direction packet bytes
only address direction bytes packet h =
    let found = found_is (refusal address direction bytes) (front bytes) packet h in
    subst (λ (x : List ℕ). IsFrameOf address direction x bytes) found.1
    (framed address direction bytes (all_pass (checks address direction bytes) found.0))
