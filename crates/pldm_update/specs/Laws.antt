-- Laws of layouts, commands and answers over the definitions alone.
use Rattle.std.specs.Prelude.{◌≡◌, ℕ, ◌≤◌, List, length, Ok, IfOk}
use Rattle.pldm_update.specs.Layouts.{Layout, Values, bytes_of, AllInRange, StandIn}
use Rattle.pldm_update.specs.FieldReading.{values_at}
use Rattle.pldm_update.specs.Commands.{number_of, command_data, IsUpdateCommand, UpdateCommandFields}
use Rattle.pldm_update.specs.CommandReading.{update_command_of}
use Rattle.pldm_update.specs.Answers.{code_of, answer_data, IsUpdateAnswer, IsAnswerTo, UpdateAnswerFields}
use Rattle.pldm_update.specs.AnswerReading.{update_answer_of}
use Rattle.pldm_update.specs.declared.limits.TheConstants.{MAX_UPDATE_DATA}
use Rattle.pldm_update.specs.declared.command.UpdateCommand.{UpdateCommand}
use Rattle.pldm_update.specs.declared.answer.UpdateAnswer.{UpdateAnswer}

-- the values that stand in data are read from it
abbrev pub ValuesReadBack : Type 0
ValuesReadBack =
    (layout : Layout) (values : Values layout) (bytes : List ℕ)
    → StandIn layout values bytes → values_at layout 0 bytes ≡ Ok values

-- what is read from data stands in it
abbrev pub ValuesFound : Type 0
ValuesFound =
    (layout : Layout) (bytes : List ℕ) → IfOk (values_at layout 0 bytes) (λ values. StandIn layout values bytes)

-- what values are written as has them in it
abbrev pub ValuesWritten : Type 0
ValuesWritten =
    (layout : Layout) (values : Values layout)
    → AllInRange layout values → StandIn layout values (bytes_of layout values)

-- a command whose fields stand in data is read from it
abbrev pub CommandReadBack : Type 0
CommandReadBack =
    (command : UpdateCommand) (number : ℕ) (bytes : List ℕ)
    → UpdateCommandFields command number bytes → update_command_of number bytes ≡ Ok command

-- no data has the fields of two commands of one number
abbrev pub OneCommand : Type 0
OneCommand =
    (command other : UpdateCommand) (number : ℕ) (bytes : List ℕ)
    → UpdateCommandFields command number bytes → UpdateCommandFields other number bytes → command ≡ other

-- the data that a command is written with is read back as the command
abbrev pub WrittenCommandReadBack : Type 0
WrittenCommandReadBack =
    (command : UpdateCommand) → IsUpdateCommand command
    → update_command_of (number_of command) (command_data command) ≡ Ok command

-- an answer whose fields stand in a completion code and data is read from them
abbrev pub AnswerReadBack : Type 0
AnswerReadBack =
    (answer : UpdateAnswer) (number code : ℕ) (bytes : List ℕ)
    → UpdateAnswerFields answer number code bytes → update_answer_of number code bytes ≡ Ok answer

-- no completion code and data have the fields of two answers to commands of one number
abbrev pub OneAnswer : Type 0
OneAnswer =
    (answer other : UpdateAnswer) (number code : ℕ) (bytes : List ℕ)
    → UpdateAnswerFields answer number code bytes → UpdateAnswerFields other number code bytes → answer ≡ other

-- the completion code and the data that an answer is written with are read back as the answer
abbrev pub WrittenAnswerReadBack : Type 0
WrittenAnswerReadBack =
    (answer : UpdateAnswer) (number : ℕ) → IsAnswerTo number answer → IsUpdateAnswer answer
    → update_answer_of number (code_of answer) (answer_data answer) ≡ Ok answer

-- the data that a command or an answer is written with fits a message
abbrev pub DataFits : Type 0
DataFits =
    ((command : UpdateCommand) → IsUpdateCommand command → length (command_data command) ≤ MAX_UPDATE_DATA)
    × ((answer : UpdateAnswer) → IsUpdateAnswer answer → length (answer_data answer) ≤ MAX_UPDATE_DATA)
