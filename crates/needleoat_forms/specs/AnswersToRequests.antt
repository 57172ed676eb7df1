-- Whether a response is the answer to a request, and what is reported of it.
use Rattle.std.specs.Prelude.{◌≡◌, ℕ, ◌+◌, ◌==◌, Some, Result, Ok, Err, if◌then◌else◌}
use Rattle.mctp_packet.specs.declared.reason.Reason.{Reason}
use Rattle.pldm_wire.specs.AnswerFaults.{number_of_answer_fault}
use Rattle.pldm_wire.specs.AnswerReading.{answer_of}
use Rattle.pldm_wire.specs.CommandReading.{command_of}
use Rattle.pldm_wire.specs.Commands.{kind_of}
use Rattle.pldm_wire.specs.Kinds.{TypeAndCommand}
use Rattle.pldm_wire.specs.Requests.{Request}
use Rattle.pldm_wire.specs.Responses.{Response}
use Rattle.pldm_wire.specs.declared.answer.Answer.{Answer}
use Rattle.pldm_wire.specs.declared.answer_reading.AnswerFault.{AnswerFault}
use Rattle.pldm_wire.specs.declared.command.Command.{Command}
use Rattle.needleoat_forms.specs.Answers.{answer_in, kind_in}
use Rattle.needleoat_forms.specs.declared.answer.AnswerFields.{AnswerFields}

-- an answer with the instance ID and the kind of its response
pub record Answered : Type 0 where
  pub id : ℕ
  pub kind : TypeAndCommand
  pub answer : Answer

abbrev pub answered : Response → Answer → Answered
answered r answer = record { id = r.id; kind = r.kind; answer = answer }

-- the answer that a response is to a command, or the number that says why it is none

abbrev pub answered_or_fault : Response → Result Answer AnswerFault → Result Answered ℕ
answered_or_fault r (Ok answer) = Ok (answered r answer)
answered_or_fault r (Err fault) = Err (4 + number_of_answer_fault fault)

abbrev pub answer_to : ℕ → Command → Response → Result Answered ℕ
answer_to id command r =
    if r.id == id then answered_or_fault r (answer_of (kind_of command) r.kind r.code r.rest) else Err 4

-- the same of a message that may be no response

abbrev pub answer_to_command : ℕ → Command → Result Response Reason → Result Answered ℕ
answer_to_command id command (Ok r) = answer_to id command r
answer_to_command id command (Err reason) = Err 3

-- the same of a request whose command may be refused

abbrev pub answer_to_request : ℕ → Result Command ℕ → Result Response Reason → Result Answered ℕ
answer_to_request id (Ok command) response = answer_to_command id command response
answer_to_request id (Err code) response = Err 2

-- the same of a message that may be no request

abbrev pub answer_between : Result Request Reason → Result Response Reason → Result Answered ℕ
answer_between (Ok q) response = answer_to_request q.id (command_of q.kind q.rest) response
answer_between (Err reason) response = Err 1

-- the number that is returned: 0 for an answer
abbrev pub number_of_outcome : Result Answered ℕ → ℕ
number_of_outcome (Ok a) = 0
number_of_outcome (Err number) = number

-- the answer was read; or the number says why there is none, with the struct as it was before
abbrev pub IsAnswerRead : Result Answered ℕ → ℕ → AnswerFields → AnswerFields → Type 0
IsAnswerRead (Ok a) number old new =
    (number ≡ 0) × (new.instance_id ≡ a.id) × (kind_in new ≡ a.kind) × (answer_in new ≡ Some a.answer)
IsAnswerRead (Err why) number old new = (number ≡ why) × (new ≡ old)
