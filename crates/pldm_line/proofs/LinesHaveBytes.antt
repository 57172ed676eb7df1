-- No line of a log is empty.
use Rattle.std.proofs.Common.{◌≡◌, ◌<◌, ℕ, zero, suc, List, [], ◌∷◌, ◌++◌, codes, length, map, ap, length-append, arith}
use Rattle.std.specs.Fmt.{decimal}
use Rattle.std.specs.List.{range_with_len}
use Rattle.hex.specs.Hex.{encode_lower}
use Rattle.mctp_packet.specs.Reasons.{name_of as name_of_reason}
use Rattle.mctp_packet.specs.declared.reason.Reason.{Reason}
use Rattle.mctp_serial.specs.SerialFaults.{name_of}
use Rattle.mctp_serial.specs.declared.fault.SerialFault.{SerialFault}
use Rattle.pldm_line.specs.Logs.{capture_line, capture_lines, drop_line, no_frame_line}

byte_behind : (front : List ℕ) (byte : ℕ) (more : List ℕ) → front ++ byte ∷ more ≡ [] → ⊥
byte_behind front byte more none =
    let size = ap (λ (l : List ℕ). length l) none in
    omega (arith, size, length-append front (byte ∷ more))

pub capture_line_has_bytes : (moment : ℕ) (packet : List ℕ) → capture_line moment packet ≡ [] → ⊥
capture_line_has_bytes moment packet = byte_behind (decimal moment) 32 (encode_lower packet ++ 10 ∷ [])

pub capture_lines_have_bytes : (moment : ℕ) (packet : ℕ → List ℕ) (i n : ℕ) → i < n → capture_lines moment (map packet (range_with_len 0 n)) ≡ [] → ⊥
capture_lines_have_bytes moment packet i zero below none = omega arith
capture_lines_have_bytes moment packet i (suc n) below none =
    let size = ap (λ (l : List ℕ). length l) none in
    let line = capture_line moment (packet 0) in
    let more = capture_lines moment (map packet (range_with_len 1 n)) in
    omega (arith, size, length-append line more, length-append (decimal moment) (32 ∷ (encode_lower (packet 0) ++ 10 ∷ [])))

pub drop_line_has_bytes : (reason : Reason) → drop_line reason ≡ [] → ⊥
drop_line_has_bytes reason none =
    let size = ap (λ (l : List ℕ). length l) none in
    omega (arith, size, length-append (codes "mctpctl: drop ") (name_of_reason reason ++ 10 ∷ []), length-append (name_of_reason reason) (10 ∷ []))

pub no_frame_line_has_bytes : (fault : SerialFault) → no_frame_line fault ≡ [] → ⊥
no_frame_line_has_bytes fault none =
    let size = ap (λ (l : List ℕ). length l) none in
    omega (arith, size, length-append (codes "mctpctl: no frame: ") (name_of fault ++ 10 ∷ []), length-append (name_of fault) (10 ∷ []))
