-- Which bytes are a control request or a control response (DSP0236, "MCTP control message format").
use Rattle.std.specs.Prelude.{◌≡◌, ℕ, ◌+◌, ◌*◌, ◌<◌, ◌/◌, ◌%◌, ◌==◌, ◌&&◌, nat_le, Bool, List, ◌∷◌, length, slice_index}
use Rattle.std.specs.Prelude.{drop, Option, None, Some, if◌then◌else◌}
use Rattle.mctp_control.specs.declared.assigned.TheConstants.{CONTROL, INSTANCE_IDS, REQUEST_HEADER, RESPONSE_HEADER}

-- the instance ID, the number of the command, and the bytes after the header
pub record Request : Type 0 where
  pub id : ℕ
  pub command : ℕ
  pub rest : List ℕ

-- the same, and the completion code before the data
pub record Response : Type 0 where
  pub id : ℕ
  pub command : ℕ
  pub code : ℕ
  pub rest : List ℕ

-- message type 0 with the integrity bit 0; Rq in bit 7, D as 0 in bit 6, a reserved bit 5 and the instance ID; the
-- command; what follows
abbrev pub message : ℕ → ℕ → ℕ → ℕ → List ℕ → List ℕ
message rq reserved id command rest = CONTROL ∷ (128 * rq + INSTANCE_IDS * reserved + id) ∷ command ∷ rest

-- these bytes are the request; its reserved bit may be any
pub record IsRequest (bytes : List ℕ) (r : Request) : Type 0 where
  pub id_range : r.id < INSTANCE_IDS
  pub reserved : ℕ
  pub bit : reserved < 2
  pub bytes_are : bytes ≡ message 1 reserved r.id r.command r.rest

-- these bytes are the response; its reserved bit may be any
pub record IsResponse (bytes : List ℕ) (r : Response) : Type 0 where
  pub id_range : r.id < INSTANCE_IDS
  pub reserved : ℕ
  pub bit : reserved < 2
  pub bytes_are : bytes ≡ message 0 reserved r.id r.command (r.code ∷ r.rest)

-- a message of so many bytes at least, whose Rq and D bits are these
abbrev pub is_control : ℕ → ℕ → List ℕ → Bool
is_control size rq_and_d bytes =
    nat_le size (length bytes) && (slice_index bytes 0 == CONTROL) && (slice_index bytes 1 / 64 == rq_and_d)

abbrev pub id_at : List ℕ → ℕ
id_at bytes = slice_index bytes 1 % INSTANCE_IDS

-- the request that bytes are, by place
unfoldable pub request_of : List ℕ → Option Request
request_of bytes =
    if is_control REQUEST_HEADER 2 bytes
    then Some (record { id = id_at bytes; command = slice_index bytes 2; rest = drop REQUEST_HEADER bytes }) else None

-- the response that bytes are, by place
unfoldable pub response_of : List ℕ → Option Response
response_of bytes =
    if is_control RESPONSE_HEADER 0 bytes
    then Some (record {
      id = id_at bytes;
      command = slice_index bytes 2;
      code = slice_index bytes 3;
      rest = drop RESPONSE_HEADER bytes;
    }) else None
