-- What is reported of a message's header (DSP0240, "PLDM message fields").
use Rattle.std.specs.Prelude.{◌≡◌, ℕ, nat_lt, List, length, Result, Ok, Err, if◌then◌else◌}
use Rattle.mctp_packet.specs.Reasons.{number_of}
use Rattle.mctp_packet.specs.declared.reason.Reason.{Reason}
use Rattle.pldm_wire.specs.Requests.{Request}
use Rattle.pldm_wire.specs.Responses.{Response}
use Rattle.needleoat_forms.specs.declared.message.MessageFields.{MessageFields}
use Rattle.needleoat_forms.specs.declared.message.TheConstants.{MOST_REPORTED}

-- the length of a message's data, as far as a number of four bytes has it
abbrev pub reported_length : List ℕ → ℕ
reported_length bytes = if nat_lt MOST_REPORTED (length bytes) then MOST_REPORTED else length bytes

-- each field is the request's, which has no completion code
pub record ReportsRequestFields (q : Request) (r : MessageFields) : Type 0 where
  pub reason : r.reason ≡ 0
  pub instance_id : r.instance_id ≡ q.id
  pub pldm_type : r.pldm_type ≡ q.kind.pldm_type
  pub command : r.command ≡ q.kind.command
  pub code : r.code ≡ 0
  pub data_length : r.data_length ≡ reported_length q.rest

-- each field is the response's
pub record ReportsResponseFields (q : Response) (r : MessageFields) : Type 0 where
  pub reason : r.reason ≡ 0
  pub instance_id : r.instance_id ≡ q.id
  pub pldm_type : r.pldm_type ≡ q.kind.pldm_type
  pub command : r.command ≡ q.kind.command
  pub code : r.code ≡ q.code
  pub data_length : r.data_length ≡ reported_length q.rest

-- the fields, or the number of the reason to drop the message

abbrev pub ReportsRequest : Result Request Reason → MessageFields → Type 0
ReportsRequest (Ok q) r = ReportsRequestFields q r
ReportsRequest (Err reason) r = r.reason ≡ number_of reason

abbrev pub ReportsResponse : Result Response Reason → MessageFields → Type 0
ReportsResponse (Ok q) r = ReportsResponseFields q r
ReportsResponse (Err reason) r = r.reason ≡ number_of reason
