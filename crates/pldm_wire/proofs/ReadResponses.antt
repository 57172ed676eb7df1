-- Reading by place gives the response that the bytes are, and every response is read.
use Rattle.std.proofs.Common.{◌≡◌, ℕ, ◌+◌, ◌*◌, ◌/◌, ◌%◌, ◌<◌, ◌≤◌, List, ◌∷◌, length, slice_index, drop, Option, Some, None, Ok, IfOk, refl, arith, ltb-false}
use Rattle.std.proofs.lemmas.Bool.Decides.{nat_tests}
use Rattle.mctp_packet.specs.declared.reason.Reason.{Reason}
use Rattle.mctp_packet.specs.declared.reason.Reason.TheVariants.{NotResponse}
use Rattle.pldm_wire.specs.Kinds.{TypeAndCommand}
use Rattle.pldm_wire.specs.Headers.{checks, id_at, kind_at}
use Rattle.pldm_wire.specs.Messages.{IsResponse, response_message}
use Rattle.mctp_packet.specs.Reading.{unless}
use Rattle.pldm_wire.specs.Responses.{response, response_refusal, response_of, code_at}
use Rattle.pldm_wire.proofs.Cells.{front_bytes}
use Rattle.pldm_wire.proofs.Passing.{AllPass, all_pass, none_fails}
use Rattle.pldm_wire.specs.declared.assigned.TheConstants.{INSTANCE_IDS}

-- bytes that no check refuses are the response that is read from them
read_is_response : (bytes : List ℕ) → ((i : ℕ) → slice_index bytes i < 256) → response_refusal bytes ≡ None → IsResponse bytes (id_at bytes) (kind_at bytes) (code_at bytes) (drop 5 bytes)
read_is_response bytes small h =
    let passes : AllPass (checks 5 0 NotResponse bytes) = all_pass (checks 5 0 NotResponse bytes) h in
    let long : 5 ≤ length bytes = omega (arith, ltb-false _ _ passes.1.1.1.0) in
    let first : slice_index bytes 0 ≡ 1 = grind (arith, nat_tests, passes.1.0, passes.1.1.0) in
    let flags : slice_index bytes 1 ≡ 128 * 0 + 32 * (slice_index bytes 1 / 32 % 2) + slice_index bytes 1 % 32 = grind (arith, nat_tests, small 1, passes.1.1.1.1.1.0, passes.1.1.1.1.1.1.0) in
    let pldm_type : slice_index bytes 2 ≡ slice_index bytes 2 % 64 = grind (arith, nat_tests, passes.1.1.1.1.0) in
    let whole : bytes ≡ slice_index bytes 0 ∷ slice_index bytes 1 ∷ slice_index bytes 2 ∷ slice_index bytes 3 ∷ slice_index bytes 4 ∷ drop 5 bytes = front_bytes 5 bytes long in
    record {
      id_range = omega arith;
      kind_range = omega arith;
      reserved = slice_index bytes 1 / 32 % 2;
      bit = omega arith;
      bytes_are = cc;
    }

found_by : (bytes : List ℕ) → ((i : ℕ) → slice_index bytes i < 256) → (r : Option Reason) → response_refusal bytes ≡ r → IfOk (unless r (response (id_at bytes) (kind_at bytes) (code_at bytes) (drop 5 bytes))) (λ r. IsResponse bytes r.id r.kind r.code r.rest)
found_by bytes small None h = read_is_response bytes small h
found_by bytes small (Some reason) h = tt

-- what reading finds is what the bytes are
pub found : (bytes : List ℕ) → ((i : ℕ) → slice_index bytes i < 256) → IfOk (response_of bytes) (λ r. IsResponse bytes r.id r.kind r.code r.rest)
unfolding response_of
found bytes small = found_by bytes small (response_refusal bytes) refl

message_passes : (reserved id : ℕ) (kind : TypeAndCommand) (code : ℕ) (rest : List ℕ) → reserved < 2 → id < INSTANCE_IDS → kind.pldm_type < 64 → response_refusal (response_message reserved id kind code rest) ≡ None
message_passes reserved id kind code rest bit id_range kind_range =
    none_fails (checks 5 0 NotResponse (response_message reserved id kind code rest)) (grind (arith, nat_tests), (refl, (refl, (grind (arith, nat_tests), (grind (arith, nat_tests), (grind (arith, nat_tests), (grind (arith, nat_tests), tt)))))))

message_read : (reserved id : ℕ) (kind : TypeAndCommand) (code : ℕ) (rest : List ℕ) → reserved < 2 → id < INSTANCE_IDS → kind.pldm_type < 64 → response_of (response_message reserved id kind code rest) ≡ Ok (response id kind code rest)
unfolding response_of
message_read reserved id kind code rest bit id_range kind_range =
    rw (message_passes reserved id kind code rest bit id_range kind_range)
    (let same_id : (128 * 0 + 32 * reserved + id) % 32 ≡ id = omega arith in
    let same_type : kind.pldm_type % 64 ≡ kind.pldm_type = omega arith in
    rw (same_id, same_type) refl)

-- every response is read
pub only : (bytes : List ℕ) (id : ℕ) (kind : TypeAndCommand) (code : ℕ) (rest : List ℕ) → IsResponse bytes id kind code rest → response_of bytes ≡ Ok (response id kind code rest)
only bytes id kind code rest h =
    rw h.bytes_are (message_read h.reserved id kind code rest h.bit h.id_range h.kind_range)
