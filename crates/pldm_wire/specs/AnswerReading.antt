-- The answer that a response is to a command, or why it is none: another command, or what the command's row says of
-- its data.
use Rattle.std.specs.Prelude.{◌≡◌, ℕ, ◌==◌, ◌&&◌, Bool, List, [], ◌∷◌, Result, Ok, Err, if◌then◌else◌}
use Rattle.pldm_wire.specs.Kinds.{TypeAndCommand}
use Rattle.pldm_wire.specs.Commands.{kind_of}
use Rattle.pldm_wire.specs.Answers.{AnswerFields}
use Rattle.pldm_wire.specs.CommandReading.{data_in, told_as}
use Rattle.pldm_wire.specs.CommandTable.{Row, base_rows, platform_rows}
use Rattle.pldm_wire.specs.declared.assigned.TheConstants.{BASE, PLATFORM, SUCCESS}
use Rattle.pldm_wire.specs.declared.command.Command.{Command}
use Rattle.pldm_wire.specs.declared.answer.Answer.{Answer}
use Rattle.pldm_wire.specs.declared.answer.Answer.TheVariants.{Refused}
use Rattle.pldm_wire.specs.declared.answer_reading.AnswerFault.{AnswerFault}
use Rattle.pldm_wire.specs.declared.answer_reading.AnswerFault.TheVariants.{OtherCommand, Length, Value}

abbrev pub same_kind : TypeAndCommand → TypeAndCommand → Bool
same_kind kind other = (kind.pldm_type == other.pldm_type) && (kind.command == other.command)

-- the answer of a row that bytes are
abbrev pub answer_in : Row → List ℕ → Result Answer AnswerFault
answer_in row bytes = told_as Length Value (data_in row.answer bytes)

-- by the row with this command's number
abbrev pub answer_by : List Row → ℕ → List ℕ → Result Answer AnswerFault
answer_by [] command bytes = Err OtherCommand
answer_by (row ∷ rows) command bytes =
    if command == row.kind.command then answer_in row bytes else answer_by rows command bytes

-- the answer of a success
unfoldable pub success_of : TypeAndCommand → List ℕ → Result Answer AnswerFault
success_of kind bytes =
    if kind.pldm_type == BASE then answer_by base_rows kind.command bytes
    else if kind.pldm_type == PLATFORM then answer_by platform_rows kind.command bytes
    else Err OtherCommand

-- what reading gives for a response of a kind, a completion code and data to a command of the first
-- kind; the data after another code than SUCCESS is ignored
abbrev pub answer_of : TypeAndCommand → TypeAndCommand → ℕ → List ℕ → Result Answer AnswerFault
answer_of asked kind code bytes =
    if same_kind kind asked then (if code == SUCCESS then success_of kind bytes else Ok (Refused code))
    else Err OtherCommand

-- the response is this answer to a command of the kind `asked`
pub record AnswersKind (asked : TypeAndCommand) (answer : Answer) (kind : TypeAndCommand) (code : ℕ)
    (bytes : List ℕ) : Type 0 where
  pub same_command : kind ≡ asked
  pub fields : AnswerFields answer kind code bytes

-- the response is this answer to the command
abbrev pub AnswersCommand : Command → Answer → TypeAndCommand → ℕ → List ℕ → Type 0
AnswersCommand command answer kind code bytes = AnswersKind (kind_of command) answer kind code bytes
