-- The response that bytes are, as a function by place.
use Rattle.std.specs.Prelude.{ℕ, List, drop, slice_index, Option, Result}
use Rattle.mctp_packet.specs.Reading.{unless}
use Rattle.mctp_packet.specs.declared.reason.Reason.{Reason}
use Rattle.mctp_packet.specs.declared.reason.Reason.TheVariants.{NotResponse}
use Rattle.pldm_wire.specs.Kinds.{TypeAndCommand}
use Rattle.pldm_wire.specs.Headers.{refusal, id_at, kind_at}
use Rattle.pldm_wire.specs.declared.assigned.TheConstants.{REQUEST_HEADER, RESPONSE_HEADER}

-- the instance ID, which command it answers, the completion code and the bytes after it
pub record Response : Type 0 where
  pub id : ℕ
  pub kind : TypeAndCommand
  pub code : ℕ
  pub rest : List ℕ

abbrev pub response : ℕ → TypeAndCommand → ℕ → List ℕ → Response
response id kind code rest = record { id = id; kind = kind; code = code; rest = rest }

-- the first reason for which bytes are no response
abbrev pub response_refusal : List ℕ → Option Reason
response_refusal bytes = refusal RESPONSE_HEADER 0 NotResponse bytes

-- the completion code stands right after a request's header
abbrev pub code_at : List ℕ → ℕ
code_at bytes = slice_index bytes REQUEST_HEADER

-- what reading gives
unfoldable pub response_of : List ℕ → Result Response Reason
response_of bytes =
    unless (response_refusal bytes)
    (response (id_at bytes) (kind_at bytes) (code_at bytes) (drop RESPONSE_HEADER bytes))
