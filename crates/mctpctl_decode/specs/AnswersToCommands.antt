-- The line that `mctpctl walk` writes of an answer: it also says what was asked.
use Rattle.std.specs.Prelude.{ℕ, ◌+◌, Bool, true, false, List, [], ◌∷◌, ◌++◌, codes, Option, None, Some, Result, Ok, Err}
use Rattle.hex.specs.Hex.{encode_lower}
use Rattle.mctp_packet.specs.Bits.{is_set}
use Rattle.mctp_packet.specs.declared.reason.Reason.{Reason}
use Rattle.mctpctl_decode.specs.AnswerTexts.{answer_text}
use Rattle.mctpctl_decode.specs.DecodedLines.{subject_text}
use Rattle.mctpctl_decode.specs.FieldTexts.{field, word}
use Rattle.mctpctl_decode.specs.RecordTexts.{carried_lines}
use Rattle.mctpctl_texts.specs.ShownLines.{message_line}
use Rattle.pldm_wire.specs.AnswerReading.{answer_of}
use Rattle.pldm_wire.specs.CommandNames.{name_of_kind}
use Rattle.pldm_wire.specs.Kinds.{TypeAndCommand, of_type}
use Rattle.pldm_wire.specs.Responses.{Response, response_of}
use Rattle.pldm_wire.specs.declared.answer.Answer.{Answer}
use Rattle.pldm_wire.specs.declared.answer.Answer.TheVariants as answers
use Rattle.pldm_wire.specs.declared.answer_reading.AnswerFault.{AnswerFault}
use Rattle.pldm_wire.specs.declared.command.Command.{Command}
use Rattle.pldm_wire.specs.declared.command.Command.TheVariants.{GetPldmVersion, GetPldmCommands, GetSensorReading}
use Rattle.pldm_wire.specs.declared.command.Command.TheVariants.{GetStateSensorReadings, SetNumericEffecterValue}
use Rattle.pldm_wire.specs.declared.command.Command.TheVariants.{GetNumericEffecterValue, SetStateEffecterStates}
use Rattle.pldm_wire.specs.declared.command.Command.TheVariants.{GetStateEffecterStates, GetPdr}

-- what a command asks about, a space before each field: its answer does not say that
abbrev pub about_text : Command → List ℕ
about_text (GetPldmVersion handle flag pldm_type) = field (codes "type") pldm_type
about_text (GetPldmCommands pldm_type version) = field (codes "type") pldm_type
about_text (GetSensorReading sensor rearm) = field (codes "sensor") sensor
about_text (GetStateSensorReadings sensor rearm) = field (codes "sensor") sensor
about_text (SetNumericEffecterValue effecter value) = field (codes "effecter") effecter
about_text (GetNumericEffecterValue effecter) = field (codes "effecter") effecter
about_text (SetStateEffecterStates effecter fields) = field (codes "effecter") effecter
about_text (GetStateEffecterStates effecter) = field (codes "effecter") effecter
about_text (GetPdr record_handle transfer_handle flag count change) = field (codes "record") record_handle
about_text command = []

abbrev pub name_word : Option (List ℕ) → List ℕ
name_word (Some name) = word name
name_word None = []

-- a command that a device has: its number in hex, and its name, where it has one here
abbrev pub listed_command : ℕ → ℕ → Bool → List ℕ
listed_command pldm_type number true =
    word (encode_lower (number ∷ [])) ++ name_word (name_of_kind (of_type pldm_type number))
listed_command pldm_type number false = []

-- those of the bits of a byte, the lowest bit being this number
abbrev pub byte_commands : ℕ → ℕ → ℕ → List ℕ
byte_commands pldm_type first byte =
    listed_command pldm_type first (is_set byte 0) ++ listed_command pldm_type (first + 1) (is_set byte 1)
    ++ listed_command pldm_type (first + 2) (is_set byte 2) ++ listed_command pldm_type (first + 3) (is_set byte 3)
    ++ listed_command pldm_type (first + 4) (is_set byte 4) ++ listed_command pldm_type (first + 5) (is_set byte 5)
    ++ listed_command pldm_type (first + 6) (is_set byte 6) ++ listed_command pldm_type (first + 7) (is_set byte 7)

-- the same of more bytes, eight bits to a byte
abbrev pub commands_from : ℕ → ℕ → List ℕ → List ℕ
commands_from pldm_type first [] = []
commands_from pldm_type first (byte ∷ more) =
    byte_commands pldm_type first byte ++ commands_from pldm_type (first + 8) more

-- the fields of an answer to a command: commands of a type by their names
abbrev pub answered_fields : Command → TypeAndCommand → Answer → List ℕ
answered_fields (GetPldmCommands pldm_type version) kind (answers.GetPldmCommands commands) =
    word (codes "commands") ++ commands_from pldm_type 0 commands
answered_fields command kind answer = answer_text kind answer

abbrev pub told_text : Command → TypeAndCommand → Answer → List ℕ
told_text command kind answer = about_text command ++ (answered_fields command kind answer ++ 10 ∷ [])

unfoldable pub answer_line_to : Command → Response → Answer → List ℕ
answer_line_to command response answer =
    subject_text (codes "  response ") response.id response.kind ++ told_text command response.kind answer

-- the line of the answer that is read, and below it the lines of a record that it has whole
abbrev pub answered_line_to : Command → List ℕ → Response → Result Answer AnswerFault → List ℕ
answered_line_to command message response (Err fault) = message_line message
answered_line_to command message response (Ok answer) = answer_line_to command response answer ++ carried_lines answer

abbrev pub response_line_to : Command → List ℕ → Result Response Reason → List ℕ
response_line_to command message (Err reason) = message_line message
response_line_to command message (Ok response) =
    answered_line_to command message response (answer_of response.kind response.kind response.code response.rest)

-- the line of a message that answers a command
abbrev pub line_to : Command → List ℕ → List ℕ
line_to command message = response_line_to command message (response_of message)
