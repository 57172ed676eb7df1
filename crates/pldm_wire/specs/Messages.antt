-- Which bytes are a request or a response (DSP0240, "PLDM message fields").
use Rattle.std.specs.Prelude.{◌≡◌, ℕ, ◌+◌, ◌*◌, ◌<◌, List, ◌∷◌}
use Rattle.pldm_wire.specs.Kinds.{TypeAndCommand, IsKind}
use Rattle.pldm_wire.specs.declared.assigned.TheConstants.{INSTANCE_IDS, MESSAGE_TYPE}

-- the message type with the integrity bit 0; Rq in bit 7, D as 0 in bit 6, a reserved bit 5 and the
-- instance ID; the header version 0 with the PLDM type; the command; what follows
abbrev pub message : ℕ → ℕ → ℕ → TypeAndCommand → List ℕ → List ℕ
message rq reserved id kind rest =
    MESSAGE_TYPE ∷ (128 * rq + INSTANCE_IDS * reserved + id) ∷ kind.pldm_type ∷ kind.command ∷ rest

-- a request has Rq 1, and its data follows
abbrev pub request_message : ℕ → ℕ → TypeAndCommand → List ℕ → List ℕ
request_message reserved id kind rest = message 1 reserved id kind rest

-- a response has Rq 0, and its completion code and its data follow
abbrev pub response_message : ℕ → ℕ → TypeAndCommand → ℕ → List ℕ → List ℕ
response_message reserved id kind code rest = message 0 reserved id kind (code ∷ rest)

-- these bytes are the request; its reserved bit may be any
pub record IsRequest (bytes : List ℕ) (id : ℕ) (kind : TypeAndCommand) (rest : List ℕ) : Type 0 where
  pub id_range : id < INSTANCE_IDS
  pub kind_range : IsKind kind
  pub reserved : ℕ
  pub bit : reserved < 2
  pub bytes_are : bytes ≡ request_message reserved id kind rest

-- these bytes are the response; its reserved bit may be any
pub record IsResponse (bytes : List ℕ) (id : ℕ) (kind : TypeAndCommand) (code : ℕ) (rest : List ℕ) : Type 0 where
  pub id_range : id < INSTANCE_IDS
  pub kind_range : IsKind kind
  pub reserved : ℕ
  pub bit : reserved < 2
  pub bytes_are : bytes ≡ response_message reserved id kind code rest
