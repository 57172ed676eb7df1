-- Which reason refuses a packet's bytes: the first check that fails, in the order of this list.
use Rattle.std.specs.Prelude.{ℕ, ◌%◌, Bool, not, ◌&&◌, ◌==◌, nat_lt, nat_le, List, []}
use Rattle.std.specs.Prelude.{◌∷◌, length, slice_index, Option, Some, None, if◌then◌else◌}
use Rattle.mctp_packet.specs.declared.reason.Reason.{Reason}
use Rattle.mctp_packet.specs.declared.reason.Reason.TheVariants.{Short, BadVersion, UnknownDestination}
use Rattle.mctp_packet.specs.declared.reason.Reason.TheVariants.{BadSource, NoPayload, UnsupportedUnit}
use Rattle.mctp_packet.specs.declared.TheConstants.{MIN_EID, MAX_EID, HEADER, MAX_PACKET_BYTES, VERSION}

abbrev pub first_failing : List (Bool × Reason) → Option Reason
first_failing [] = None
first_failing ((fails, reason) ∷ checks) = if fails then Some reason else first_failing checks

abbrev pub is_eid : ℕ → Bool
is_eid n = nat_le MIN_EID n && nat_le n MAX_EID

-- an endpoint ID, and the own one where it is known: never one that is null, which an endpoint has before it gets one
abbrev pub is_destination : Option ℕ → ℕ → Bool
is_destination None n = is_eid n
is_destination (Some own) n = is_eid n && (n == own)

-- an endpoint ID, and another than the own one where it is known
abbrev pub is_source : Option ℕ → ℕ → Bool
is_source None n = is_eid n
is_source (Some own) n = is_eid n && not (n == own)

abbrev pub checks : Option ℕ → List ℕ → List (Bool × Reason)
checks own bytes =
    (nat_lt (length bytes) HEADER, Short)
    ∷ (not (slice_index bytes 0 % 16 == VERSION), BadVersion)
    ∷ (not (is_destination own (slice_index bytes 1)), UnknownDestination)
    ∷ (not (is_source own (slice_index bytes 2)), BadSource)
    ∷ (nat_le (length bytes) HEADER, NoPayload)
    ∷ (nat_lt MAX_PACKET_BYTES (length bytes), UnsupportedUnit)
    ∷ []

abbrev pub refusal : Option ℕ → List ℕ → Option Reason
refusal own bytes = first_failing (checks own bytes)
