-- The line of a control message: the fields of its command or answer by name, as DSP0236 names them.
use Rattle.std.specs.Prelude.{ℕ, List, [], ◌∷◌, ◌++◌, codes, Option, None, Some, Result, Ok, Err}
use Rattle.std.specs.Fmt.{decimal}
use Rattle.std.specs.List.{flat_map}
use Rattle.mctp_control.specs.AnswerReading.{answer_of}
use Rattle.mctp_control.specs.CommandReading.{command_of}
use Rattle.mctp_control.specs.Messages.{Request, Response, request_of, response_of}
use Rattle.mctp_control.specs.declared.answer.Answer.{Answer}
use Rattle.mctp_control.specs.declared.answer.Answer.TheVariants.{Refused, EndpointIdSet, EndpointId, EndpointUuid}
use Rattle.mctp_control.specs.declared.answer.Answer.TheVariants.{VersionSupport, MessageTypeSupport}
use Rattle.mctp_control.specs.declared.answer.Assignment.{Assignment}
use Rattle.mctp_control.specs.declared.answer.EidKind.{EidKind}
use Rattle.mctp_control.specs.declared.answer.EndpointKind.{EndpointKind}
use Rattle.mctp_control.specs.declared.command.Command.{Command}
use Rattle.mctp_control.specs.declared.command.Command.TheVariants.{SetEndpointId, GetEndpointId, GetEndpointUuid}
use Rattle.mctp_control.specs.declared.command.Command.TheVariants.{GetVersionSupport, GetMessageTypeSupport}
use Rattle.mctpctl_decode.specs.ControlNames.{assignment_name, code_name, command_name, command_word}
use Rattle.mctpctl_decode.specs.ControlNames.{eid_kind_name, endpoint_name, operation_name}
use Rattle.mctpctl_decode.specs.FieldTexts.{code_word, field, hex_field, word}
use Rattle.mctpctl_texts.specs.ShownLines.{data_text}

abbrev pub refused_text : ℕ → ℕ → List ℕ
refused_text number code = word (codes "refused") ++ code_word (code_name number code) code

-- the fields of a command, a space before each
abbrev pub command_text : Command → List ℕ
command_text (SetEndpointId operation eid) =
    word (codes "operation") ++ word (operation_name operation) ++ field (codes "eid") eid
command_text GetEndpointId = []
command_text GetEndpointUuid = []
command_text (GetVersionSupport message_type) = field (codes "type") message_type
command_text GetMessageTypeSupport = []

-- what has become of the endpoint ID, the one that the endpoint has now, and that it has no pool of others
abbrev pub set_text : Assignment → ℕ → List ℕ
set_text assignment eid =
    word (codes "assignment") ++ word (assignment_name assignment) ++ field (codes "eid") eid ++ field (codes "pool") 0

abbrev pub endpoint_text : ℕ → EndpointKind → EidKind → ℕ → List ℕ
endpoint_text eid endpoint kind medium =
    field (codes "eid") eid ++ word (endpoint_name endpoint) ++ word (eid_kind_name kind)
    ++ field (codes "medium") medium

-- the number of a message type
abbrev pub type_text : ℕ → List ℕ
type_text message_type = word (decimal message_type)

-- the fields of an answer to the command of this number, a space before each
abbrev pub answer_text : ℕ → Answer → List ℕ
answer_text number (Refused code) = refused_text number code
answer_text number (EndpointIdSet assignment eid) = set_text assignment eid
answer_text number (EndpointId eid endpoint kind medium) = endpoint_text eid endpoint kind medium
answer_text number (EndpointUuid uuid) = hex_field (codes "uuid") uuid
answer_text number (VersionSupport versions) = hex_field (codes "versions") versions
answer_text number (MessageTypeSupport types) = word (codes "types") ++ flat_map type_text types

-- what a message is, its instance ID, and its command
abbrev pub subject_text : List ℕ → ℕ → ℕ → List ℕ
subject_text what id number = what ++ (decimal id ++ 32 ∷ command_word (command_name number) number)

-- the fields of the command that is read, else the data and why it is refused
abbrev pub asked_text : Request → Result Command ℕ → List ℕ
asked_text request (Ok command) = command_text command
asked_text request (Err code) = 32 ∷ data_text request.rest ++ refused_text request.command code

abbrev pub request_line : Request → List ℕ
request_line request =
    subject_text (codes "  request ") request.id request.command
    ++ (asked_text request (command_of request.command request.rest) ++ 10 ∷ [])

abbrev pub response_line : Response → Answer → List ℕ
response_line response answer =
    subject_text (codes "  response ") response.id response.command
    ++ (answer_text response.command answer ++ 10 ∷ [])

-- a response has a line where it is an answer to its command
abbrev pub answered_line : Response → Option Answer → Option (List ℕ)
answered_line response None = None
answered_line response (Some answer) = Some (response_line response answer)

abbrev pub line_of_read : Option Request → Option Response → Option (List ℕ)
line_of_read (Some request) response = Some (request_line request)
line_of_read None (Some response) =
    answered_line response (answer_of response.command response.code response.rest)
line_of_read None None = None

-- the line of a message, where it is a control message that is read
abbrev pub control_line : List ℕ → Option (List ℕ)
control_line message = line_of_read (request_of message) (response_of message)
