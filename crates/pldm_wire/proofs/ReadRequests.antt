-- Reading by place gives the request that the bytes are, and every request is read.
use Rattle.std.proofs.Common.{◌≡◌, ℕ, ◌+◌, ◌*◌, ◌/◌, ◌%◌, ◌<◌, ◌≤◌, List, [], ◌∷◌, length, slice_index, drop, Option, Some, None, Ok, IfOk, refl, arith, ltb-false}
use Rattle.std.proofs.lemmas.Bool.Decides.{nat_tests}
use Rattle.mctp_packet.specs.declared.reason.Reason.{Reason}
use Rattle.mctp_packet.specs.declared.reason.Reason.TheVariants.{NotRequest}
use Rattle.pldm_wire.specs.Kinds.{TypeAndCommand}
use Rattle.pldm_wire.specs.Headers.{checks, id_at, kind_at}
use Rattle.pldm_wire.specs.Messages.{IsRequest, request_message}
use Rattle.mctp_packet.specs.Reading.{unless}
use Rattle.pldm_wire.specs.Requests.{request, request_refusal, request_of}
use Rattle.pldm_wire.proofs.Passing.{AllPass, all_pass, none_fails}
use Rattle.pldm_wire.specs.declared.assigned.TheConstants.{INSTANCE_IDS}

-- a list of four at least is its first four and the rest
four_front : (bytes : List ℕ) → 4 ≤ length bytes → bytes ≡ slice_index bytes 0 ∷ slice_index bytes 1 ∷ slice_index bytes 2 ∷ slice_index bytes 3 ∷ drop 4 bytes
four_front [] h = absurd (omega arith)
four_front (a ∷ []) h = absurd (omega arith)
four_front (a ∷ b ∷ []) h = absurd (omega arith)
four_front (a ∷ b ∷ c ∷ []) h = absurd (omega arith)
four_front (a ∷ b ∷ c ∷ d ∷ rest) h = refl

-- bytes that no check refuses are the request that is read from them
read_is_request : (bytes : List ℕ) → ((i : ℕ) → slice_index bytes i < 256) → request_refusal bytes ≡ None → IsRequest bytes (id_at bytes) (kind_at bytes) (drop 4 bytes)
read_is_request bytes small h =
    let passes : AllPass (checks 4 1 NotRequest bytes) = all_pass (checks 4 1 NotRequest bytes) h in
    let long : 4 ≤ length bytes = omega (arith, ltb-false _ _ passes.1.1.1.0) in
    let first : slice_index bytes 0 ≡ 1 = grind (arith, nat_tests, passes.1.0, passes.1.1.0) in
    let flags : slice_index bytes 1 ≡ 128 * 1 + 32 * (slice_index bytes 1 / 32 % 2) + slice_index bytes 1 % 32 = grind (arith, nat_tests, small 1, passes.1.1.1.1.1.0, passes.1.1.1.1.1.1.0) in
    let pldm_type : slice_index bytes 2 ≡ slice_index bytes 2 % 64 = grind (arith, nat_tests, passes.1.1.1.1.0) in
    let whole : bytes ≡ slice_index bytes 0 ∷ slice_index bytes 1 ∷ slice_index bytes 2 ∷ slice_index bytes 3 ∷ drop 4 bytes = four_front bytes long in
    record {
      id_range = omega arith;
      kind_range = omega arith;
      reserved = slice_index bytes 1 / 32 % 2;
      bit = omega arith;
      bytes_are = cc;
    }

found_by : (bytes : List ℕ) → ((i : ℕ) → slice_index bytes i < 256) → (r : Option Reason) → request_refusal bytes ≡ r → IfOk (unless r (request (id_at bytes) (kind_at bytes) (drop 4 bytes))) (λ r. IsRequest bytes r.id r.kind r.rest)
found_by bytes small None h = read_is_request bytes small h
found_by bytes small (Some reason) h = tt

-- what reading finds is what the bytes are
pub found : (bytes : List ℕ) → ((i : ℕ) → slice_index bytes i < 256) → IfOk (request_of bytes) (λ r. IsRequest bytes r.id r.kind r.rest)
unfolding request_of
found bytes small = found_by bytes small (request_refusal bytes) refl

message_passes : (reserved id : ℕ) (kind : TypeAndCommand) (rest : List ℕ) → reserved < 2 → id < INSTANCE_IDS → kind.pldm_type < 64 → request_refusal (request_message reserved id kind rest) ≡ None
message_passes reserved id kind rest bit id_range kind_range =
    none_fails (checks 4 1 NotRequest (request_message reserved id kind rest)) (grind (arith, nat_tests), (refl, (refl, (grind (arith, nat_tests), (grind (arith, nat_tests), (grind (arith, nat_tests), (grind (arith, nat_tests), tt)))))))

message_read : (reserved id : ℕ) (kind : TypeAndCommand) (rest : List ℕ) → reserved < 2 → id < INSTANCE_IDS → kind.pldm_type < 64 → request_of (request_message reserved id kind rest) ≡ Ok (request id kind rest)
unfolding request_of
message_read reserved id kind rest bit id_range kind_range =
    rw (message_passes reserved id kind rest bit id_range kind_range)
    (let same_id : (128 * 1 + 32 * reserved + id) % 32 ≡ id = omega arith in
    let same_type : kind.pldm_type % 64 ≡ kind.pldm_type = omega arith in
    rw (same_id, same_type) refl)

-- every request is read
pub only : (bytes : List ℕ) (id : ℕ) (kind : TypeAndCommand) (rest : List ℕ) → IsRequest bytes id kind rest → request_of bytes ≡ Ok (request id kind rest)
only bytes id kind rest h =
    rw h.bytes_are (message_read h.reserved id kind rest h.bit h.id_range h.kind_range)
