-- The request that bytes are, as a function by place.
use Rattle.std.specs.Prelude.{ℕ, List, drop, Option, Result}
use Rattle.mctp_packet.specs.Reading.{unless}
use Rattle.mctp_packet.specs.declared.reason.Reason.{Reason}
use Rattle.mctp_packet.specs.declared.reason.Reason.TheVariants.{NotRequest}
use Rattle.pldm_wire.specs.Kinds.{TypeAndCommand}
use Rattle.pldm_wire.specs.Headers.{refusal, id_at, kind_at}
use Rattle.pldm_wire.specs.declared.assigned.TheConstants.{REQUEST_HEADER}

-- the instance ID, which command it is of, and the bytes after the header
pub record Request : Type 0 where
  pub id : ℕ
  pub kind : TypeAndCommand
  pub rest : List ℕ

abbrev pub request : ℕ → TypeAndCommand → List ℕ → Request
request id kind rest = record { id = id; kind = kind; rest = rest }

-- the first reason for which bytes are no request
abbrev pub request_refusal : List ℕ → Option Reason
request_refusal bytes = refusal REQUEST_HEADER 1 NotRequest bytes

-- what reading gives
unfoldable pub request_of : List ℕ → Result Request Reason
request_of bytes =
    unless (request_refusal bytes) (request (id_at bytes) (kind_at bytes) (drop REQUEST_HEADER bytes))
