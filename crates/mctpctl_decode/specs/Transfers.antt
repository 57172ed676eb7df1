-- Records that come in parts, by looking back over the whole messages of a capture (DSP0248, "GetPDR command").
use Rattle.std.specs.Prelude.{ℕ, ◌==◌, ◌&&◌, nat_lt, not, Bool, false, List, [], ◌++◌, length}
use Rattle.std.specs.Prelude.{Option, None, Some, is_some, Result, Ok, Err, if◌then◌else◌}
use Rattle.mctp_packet.specs.declared.packet.Route.{Route}
use Rattle.mctp_packet.specs.declared.reason.Reason.{Reason}
use Rattle.mctpctl_decode.specs.declared.transfer.NewestPart.{NewestPart}
use Rattle.mctpctl_decode.specs.declared.transfer.PartRequest.{PartRequest}
use Rattle.mctpctl_engines.specs.MessageForms.{Message, known_of}
use Rattle.pldm_records.specs.declared.limits.TheConstants.{MAX_RECORD_BYTES}
use Rattle.pldm_wire.specs.AnswerReading.{answer_of}
use Rattle.pldm_wire.specs.CommandReading.{command_of}
use Rattle.pldm_wire.specs.RecordParts.{Part}
use Rattle.pldm_wire.specs.Requests.{Request, request_of}
use Rattle.pldm_wire.specs.Responses.{Response, response_of}
use Rattle.pldm_wire.specs.TransferFlags.{is_end}
use Rattle.pldm_wire.specs.declared.answer.Answer.{Answer}
use Rattle.pldm_wire.specs.declared.answer.Answer.TheVariants as answers
use Rattle.pldm_wire.specs.declared.answer_reading.AnswerFault.{AnswerFault}
use Rattle.pldm_wire.specs.declared.command.Command.{Command}
use Rattle.pldm_wire.specs.declared.command.Command.TheVariants as commands
use Rattle.pldm_wire.specs.declared.transfer_flag.TransferFlag.{TransferFlag}
use Rattle.pldm_wire.specs.declared.transfer_flag.TransferFlag.TheVariants.{Start, Middle, BaseMiddle, End, StartAndEnd}

-- what has gone between a requester and a responder: the newest request for a part, the newest part of a record, and
-- the bytes of that record up to its end
pub record Transferred : Type 0 where
  pub request : Option PartRequest
  pub newest : Option NewestPart
  pub bytes : List ℕ

-- nothing has
abbrev pub none_transferred : Transferred
none_transferred = record { request = None; newest = None; bytes = [] }

-- a part is asked for
abbrev pub asked_for : Transferred → PartRequest → Transferred
asked_for t request = record { request = Some request; newest = t.newest; bytes = t.bytes }

-- no record goes on
abbrev pub broken_off : Transferred → Transferred
broken_off t = record { request = t.request; newest = None; bytes = [] }

-- with the bytes of the part that answers this request; no record is longer than one may be
abbrev pub extended : Transferred → PartRequest → Option ℕ → List ℕ → Transferred
extended t request next bytes =
    if nat_lt MAX_RECORD_BYTES (length (t.bytes ++ bytes)) then broken_off t
    else record {
      request = t.request;
      newest = Some (record { request = request; next = next });
      bytes = t.bytes ++ bytes;
    }

abbrev pub is_same : PartRequest → PartRequest → Bool
is_same request other = (request.id == other.id) && (request.transfer == other.transfer)

-- the next part begins there
abbrev pub begins_at : Option ℕ → ℕ → Bool
begins_at None transfer = false
begins_at (Some next) transfer = next == transfer

-- a part that is not the first one: one that came already, or the one that was asked for where the newest one said that
-- the next begins
abbrev pub gone_on : Transferred → Option NewestPart → PartRequest → Option ℕ → List ℕ → Transferred
gone_on t None request next bytes = broken_off t
gone_on t (Some newest) request next bytes =
    if is_same request newest.request then t
    else if begins_at newest.next request.transfer then extended t request next bytes
    else broken_off t

-- with a part that answers this request: a first one begins anew, and after the last one no next one begins
abbrev pub with_flag : Transferred → PartRequest → ℕ → TransferFlag → List ℕ → Transferred
with_flag t request next Start bytes = extended (broken_off t) request (Some next) bytes
with_flag t request next Middle bytes = gone_on t t.newest request (Some next) bytes
with_flag t request next BaseMiddle bytes = gone_on t t.newest request (Some next) bytes
with_flag t request next End bytes = gone_on t t.newest request None bytes
with_flag t request next StartAndEnd bytes = broken_off t

-- an answer is to the newest request, where it has its instance ID; any other one is late
abbrev pub with_answer : Transferred → Option PartRequest → ℕ → ℕ → Part → Transferred
with_answer t None id next part = t
with_answer t (Some request) id next part =
    if request.id == id then with_flag t request next part.flag part.bytes else t

-- what messages say

-- a part that an answer has: the answer's instance ID, and where the next part begins
pub record Given : Type 0 where
  pub id : ℕ
  pub next : ℕ
  pub part : Part

abbrev pub given : ℕ → ℕ → Part → Given
given id next part = record { id = id; next = next; part = part }

abbrev pub asked_by_command : ℕ → Result Command ℕ → Option PartRequest
asked_by_command id (Ok (commands.GetPdr record_handle transfer operation count change)) =
    Some (record { id = id; transfer = transfer })
asked_by_command id other = None

abbrev pub asked_by_request : Result Request Reason → Option PartRequest
asked_by_request (Err reason) = None
asked_by_request (Ok request) = asked_by_command request.id (command_of request.kind request.rest)

-- the request for a part of a record that a message is
abbrev pub asked_by : List ℕ → Option PartRequest
asked_by bytes = asked_by_request (request_of bytes)

abbrev pub given_by_answer : ℕ → Result Answer AnswerFault → Option Given
given_by_answer id (Ok (answers.GetPdr next_record next_transfer part)) =
    Some (given id next_transfer part)
given_by_answer id other = None

abbrev pub given_by_response : Result Response Reason → Option Given
given_by_response (Err reason) = None
given_by_response (Ok response) =
    given_by_answer response.id (answer_of response.kind response.kind response.code response.rest)

-- the part of a record that a message is an answer with
abbrev pub given_by : List ℕ → Option Given
given_by bytes = given_by_response (response_of bytes)

abbrev pub with_asked : Transferred → Option PartRequest → Transferred
with_asked t None = t
with_asked t (Some request) = asked_for t request

abbrev pub with_given : Transferred → Option Given → Transferred
with_given t None = t
with_given t (Some given) = with_answer t t.request given.id given.next given.part

-- looking back

-- what is known between each requester and each responder
abbrev pub Between : Type 0
Between = ℕ → ℕ → Transferred

-- a request belongs to its source and its destination, in this order
abbrev pub all_with_asked : Between → Route → Option PartRequest → Between
all_with_asked all route asked requester responder =
    if (route.source == requester) && (route.destination == responder) then with_asked (all requester responder) asked
    else all requester responder

-- an answer to its destination and its source
abbrev pub all_with_given : Between → Route → Option Given → Between
all_with_given all route given requester responder =
    if (route.destination == requester) && (route.source == responder) then with_given (all requester responder) given
    else all requester responder

-- with a message, which is a request, an answer or neither
abbrev pub with_message : Between → Message → Between
with_message all m = all_with_given (all_with_asked all m.route (asked_by m.bytes)) m.route (given_by m.bytes)

-- of no message
abbrev pub none_between : Between
none_between requester responder = none_transferred

-- what these messages leave, the newest first
abbrev pub transfers_of : List Message → Between
transfers_of messages = known_of with_message none_between messages

-- the last part has come
abbrev pub is_whole : Option NewestPart → Bool
is_whole None = false
is_whole (Some newest) = not (is_some newest.next)

abbrev pub answers_newest : Option PartRequest → ℕ → Bool
answers_newest None id = false
answers_newest (Some request) id = request.id == id

-- an answer with this ID and flag has the last part of the record that came
abbrev pub is_ended_by : Transferred → ℕ → TransferFlag → Bool
is_ended_by t id flag = is_end flag && answers_newest t.request id && is_whole t.newest
