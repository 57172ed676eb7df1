-- Reading by place gives the message that the bytes are, and every message is read.
use Rattle.std.proofs.Common.{◌≡◌, ℕ, ◌+◌, ◌*◌, ◌/◌, ◌%◌, ◌<◌, ◌≤◌, List, ◌∷◌, length, slice_index, drop, Some, IfSome, nat_le, true, refl, arith}
use Rattle.std.proofs.lemmas.Bool.{le-leb}
use Rattle.std.proofs.lemmas.Bool.Decides.{nat_tests}
use Rattle.mctp_control.proofs.Cells.{by_test, front_four, front_three}
use Rattle.mctp_control.specs.Messages.{IsRequest, IsResponse, Request, Response, is_control, message, request_of, response_of}

-- a byte of flags whose two highest bits are these
flags_are : (flags high : ℕ) → flags < 256 → flags / 64 ≡ high → flags ≡ 64 * high + 32 * (flags / 32 % 2) + flags % 32
flags_are flags high small h = omega (arith, h)

pub request_found : (bytes : List ℕ) → ((i : ℕ) → slice_index bytes i < 256) → IfSome (request_of bytes) (λ r. IsRequest bytes r)
unfolding request_of
request_found bytes small =
    by_test (λ r. IfSome r (λ r. IsRequest bytes r)) (is_control 3 2 bytes) _ _
    (λ t.
    let long : 3 ≤ length bytes = grind (arith, nat_tests, t) in
    let first : slice_index bytes 0 ≡ 0 = grind (arith, nat_tests, t) in
    let high : slice_index bytes 1 / 64 ≡ 2 = grind (arith, nat_tests, t) in
    let flags : slice_index bytes 1 ≡ 128 * 1 + 32 * (slice_index bytes 1 / 32 % 2) + slice_index bytes 1 % 32 = omega (arith, flags_are (slice_index bytes 1) 2 (small 1) high) in
    let whole : bytes ≡ slice_index bytes 0 ∷ slice_index bytes 1 ∷ slice_index bytes 2 ∷ drop 3 bytes = front_three bytes long in
    record { id_range = omega arith; reserved = slice_index bytes 1 / 32 % 2; bit = omega arith; bytes_are = cc })
    (λ _. tt)

pub response_found : (bytes : List ℕ) → ((i : ℕ) → slice_index bytes i < 256) → IfSome (response_of bytes) (λ r. IsResponse bytes r)
unfolding response_of
response_found bytes small =
    by_test (λ r. IfSome r (λ r. IsResponse bytes r)) (is_control 4 0 bytes) _ _
    (λ t.
    let long : 4 ≤ length bytes = grind (arith, nat_tests, t) in
    let first : slice_index bytes 0 ≡ 0 = grind (arith, nat_tests, t) in
    let high : slice_index bytes 1 / 64 ≡ 0 = grind (arith, nat_tests, t) in
    let flags : slice_index bytes 1 ≡ 128 * 0 + 32 * (slice_index bytes 1 / 32 % 2) + slice_index bytes 1 % 32 = omega (arith, flags_are (slice_index bytes 1) 0 (small 1) high) in
    let whole : bytes ≡ slice_index bytes 0 ∷ slice_index bytes 1 ∷ slice_index bytes 2 ∷ slice_index bytes 3 ∷ drop 4 bytes = front_four bytes long in
    record { id_range = omega arith; reserved = slice_index bytes 1 / 32 % 2; bit = omega arith; bytes_are = cc })
    (λ _. tt)

-- every request is read
request_read : (reserved : ℕ) (r : Request) → reserved < 2 → r.id < 32 → request_of (message 1 reserved r.id r.command r.rest) ≡ Some r
unfolding request_of
request_read reserved r bit id_range =
    let long : nat_le 3 (length (message 1 reserved r.id r.command r.rest)) ≡ true = le-leb _ _ (omega arith) in
    let high : (128 * 1 + 32 * reserved + r.id) / 64 ≡ 2 = omega (arith, bit, id_range) in
    let id : (128 * 1 + 32 * reserved + r.id) % 32 ≡ r.id = omega (arith, bit, id_range) in
    rw (long, high, id) refl

pub request_only : (bytes : List ℕ) (r : Request) → IsRequest bytes r → request_of bytes ≡ Some r
request_only bytes r h = rw h.bytes_are (request_read h.reserved r h.bit h.id_range)

-- every response is read
response_read : (reserved : ℕ) (r : Response) → reserved < 2 → r.id < 32 → response_of (message 0 reserved r.id r.command (r.code ∷ r.rest)) ≡ Some r
unfolding response_of
response_read reserved r bit id_range =
    let long : nat_le 4 (length (message 0 reserved r.id r.command (r.code ∷ r.rest))) ≡ true = le-leb _ _ (omega arith) in
    let high : (128 * 0 + 32 * reserved + r.id) / 64 ≡ 0 = omega (arith, bit, id_range) in
    let id : (128 * 0 + 32 * reserved + r.id) % 32 ≡ r.id = omega (arith, bit, id_range) in
    rw (long, high, id) refl

pub response_only : (bytes : List ℕ) (r : Response) → IsResponse bytes r → response_of bytes ≡ Some r
response_only bytes r h = rw h.bytes_are (response_read h.reserved r h.bit h.id_range)
