-- The answer that a message is to a command.
use Rattle.std.specs.Prelude.{ℕ, List, Option, Some, None, Result, Ok, Err}
use Rattle.mctp_packet.specs.declared.reason.Reason.{Reason}
use Rattle.pldm_wire.specs.AnswerReading.{answer_of}
use Rattle.pldm_wire.specs.Commands.{kind_of}
use Rattle.pldm_wire.specs.Responses.{Response, response_of}
use Rattle.pldm_wire.specs.declared.answer.Answer.{Answer}
use Rattle.pldm_wire.specs.declared.answer_reading.AnswerFault.{AnswerFault}
use Rattle.pldm_wire.specs.declared.command.Command.{Command}

abbrev pub if_answer : Result Answer AnswerFault → Option Answer
if_answer (Ok answer) = Some answer
if_answer (Err fault) = None

abbrev pub answer_in : Command → Result Response Reason → Option Answer
answer_in command (Ok r) = if_answer (answer_of (kind_of command) r.kind r.code r.rest)
answer_in command (Err reason) = None

-- none, where no message came, or it is no response, or no answer to the command
unfoldable pub answer_to : Command → Option (List ℕ) → Option Answer
answer_to command None = None
answer_to command (Some message) = answer_in command (response_of message)
