-- The line that `mctpctl show --decode` writes of a whole message.
use Rattle.std.specs.Prelude.{ℕ, List, [], ◌∷◌, ◌++◌, codes, unwrap_or, Result, Ok, Err, if◌then◌else◌}
use Rattle.std.specs.Fmt.{decimal}
use Rattle.mctp_packet.specs.declared.reason.Reason.{Reason}
use Rattle.mctpctl_decode.specs.AnswerTexts.{answer_text, refused_text}
use Rattle.mctpctl_decode.specs.CommandTexts as commands
use Rattle.mctpctl_decode.specs.ControlTexts.{control_line}
use Rattle.mctpctl_decode.specs.RecordTexts.{carried_lines}
use Rattle.mctpctl_texts.specs.ShownLines.{command_text, data_text, is_shown_as_response, message_line}
use Rattle.pldm_wire.specs.AnswerReading.{answer_of}
use Rattle.pldm_wire.specs.CommandReading.{command_of}
use Rattle.pldm_wire.specs.Kinds.{TypeAndCommand}
use Rattle.pldm_wire.specs.Requests.{Request, request_of}
use Rattle.pldm_wire.specs.Responses.{Response, response_of}
use Rattle.pldm_wire.specs.declared.answer.Answer.{Answer}
use Rattle.pldm_wire.specs.declared.answer_reading.AnswerFault.{AnswerFault}
use Rattle.pldm_wire.specs.declared.command.Command.{Command}

-- what a message is, its instance ID, and its command
abbrev pub subject_text : List ℕ → ℕ → TypeAndCommand → List ℕ
subject_text what id kind = what ++ (decimal id ++ 32 ∷ command_text kind)

-- the fields of the command that is read, else the data and why it is refused
abbrev pub asked_text : Request → Result Command ℕ → List ℕ
asked_text request (Ok command) = commands.command_text command
asked_text request (Err code) = 32 ∷ data_text request.rest ++ refused_text request.kind code

abbrev pub request_line : List ℕ → Result Request Reason → List ℕ
request_line message (Err reason) = message_line message
request_line message (Ok request) =
    subject_text (codes "  request ") request.id request.kind
    ++ (asked_text request (command_of request.kind request.rest) ++ 10 ∷ [])

-- the fields of the answer that is read
unfoldable pub answer_line : Response → Answer → List ℕ
answer_line response answer =
    subject_text (codes "  response ") response.id response.kind ++ (answer_text response.kind answer ++ 10 ∷ [])

-- the same, and below it the lines of a record that it has whole; a response that is none is shown as without decoding
abbrev pub answered_line : List ℕ → Response → Result Answer AnswerFault → List ℕ
answered_line message response (Err fault) = message_line message
answered_line message response (Ok answer) = answer_line response answer ++ carried_lines answer

-- a response is read as the answer to a command of its own kind
abbrev pub response_line : List ℕ → Result Response Reason → List ℕ
response_line message (Err reason) = message_line message
response_line message (Ok response) =
    answered_line message response (answer_of response.kind response.kind response.code response.rest)

-- the line of a message that is no control message
abbrev pub pldm_line : List ℕ → List ℕ
pldm_line message =
    if is_shown_as_response message then response_line message (response_of message)
    else request_line message (request_of message)

-- the line of a whole message
abbrev pub decoded_line : List ℕ → List ℕ
decoded_line message = unwrap_or (control_line message) (pldm_line message)
