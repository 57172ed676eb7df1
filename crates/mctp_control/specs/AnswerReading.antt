-- The answer that a completion code and bytes are, as a function by place.
use Rattle.std.specs.Prelude.{ℕ, ◌/◌, ◌%◌, ◌==◌, ◌&&◌, nat_le, Bool, List, length, drop, slice_index}
use Rattle.std.specs.Prelude.{Option, None, Some, option_map, if◌then◌else◌}
use Rattle.mctp_control.specs.Answers.{assignment_of, eid_kind_of, endpoint_of}
use Rattle.mctp_control.specs.Lists.{is_versions}
use Rattle.mctp_control.specs.declared.answer.Answer.{Answer}
use Rattle.mctp_control.specs.declared.answer.Answer.TheVariants.{Refused, EndpointIdSet, EndpointId, EndpointUuid}
use Rattle.mctp_control.specs.declared.answer.Answer.TheVariants.{VersionSupport, MessageTypeSupport}
use Rattle.mctp_control.specs.declared.assigned.TheConstants.{SET_ENDPOINT_ID, GET_ENDPOINT_ID, GET_ENDPOINT_UUID}
use Rattle.mctp_control.specs.declared.assigned.TheConstants.{GET_VERSION_SUPPORT, GET_MESSAGE_TYPE_SUPPORT, SUCCESS}
use Rattle.mctp_control.specs.declared.assigned.TheConstants.{MAX_MESSAGE_TYPES, UUID_BYTES, VERSION_BYTES}

-- an answer where a test passes
abbrev pub only_if : Bool → Option Answer → Option Answer
only_if test answer = if test then answer else None

abbrev pub set_of : List ℕ → Option Answer
set_of bytes =
    only_if ((length bytes == 3) && (slice_index bytes 0 % 4 == 0) && (slice_index bytes 2 == 0))
    (option_map (λ assignment. EndpointIdSet assignment (slice_index bytes 1)) (assignment_of (slice_index bytes 0)))

abbrev pub endpoint_id_of : List ℕ → Option Answer
endpoint_id_of bytes =
    only_if (length bytes == 3)
    (option_map
    (λ endpoint. EndpointId (slice_index bytes 0) endpoint (eid_kind_of (slice_index bytes 1)) (slice_index bytes 2))
    (endpoint_of (slice_index bytes 1)))

abbrev pub uuid_of : List ℕ → Option Answer
uuid_of bytes = only_if (length bytes == UUID_BYTES) (Some (EndpointUuid bytes))

-- how many there are, and then they
abbrev pub versions_of : List ℕ → Option Answer
versions_of bytes =
    only_if (is_versions (drop 1 bytes) && (slice_index bytes 0 == length (drop 1 bytes) / VERSION_BYTES))
    (Some (VersionSupport (drop 1 bytes)))

abbrev pub types_of : List ℕ → Option Answer
types_of bytes =
    only_if (nat_le 1 (length bytes) && nat_le (length (drop 1 bytes)) MAX_MESSAGE_TYPES
    && (slice_index bytes 0 == length (drop 1 bytes)))
    (Some (MessageTypeSupport (drop 1 bytes)))

-- the answer to a command that was carried out
abbrev pub success_of : ℕ → List ℕ → Option Answer
success_of number bytes =
    if number == SET_ENDPOINT_ID then set_of bytes
    else if number == GET_ENDPOINT_ID then endpoint_id_of bytes
    else if number == GET_ENDPOINT_UUID then uuid_of bytes
    else if number == GET_VERSION_SUPPORT then versions_of bytes
    else if number == GET_MESSAGE_TYPE_SUPPORT then types_of bytes
    else None

-- what reading gives of a response to a command of this number
unfoldable pub answer_of : ℕ → ℕ → List ℕ → Option Answer
answer_of number code bytes = if code == SUCCESS then success_of number bytes else Some (Refused code)
