-- Laws of messages, commands, answers and checksums over the definitions alone.
use Rattle.std.specs.Prelude.{◌≡◌, ℕ, ◌<◌, List, slice_index, Ok, IfOk}
use Rattle.pldm_wire.specs.FieldReading.{values_at}
use Rattle.pldm_wire.specs.Kinds.{TypeAndCommand}
use Rattle.pldm_wire.specs.Layouts.{Layout, Values, bytes_of, AllInRange, StandIn}
use Rattle.pldm_wire.specs.Messages.{IsRequest, IsResponse}
use Rattle.pldm_wire.specs.Requests.{request, request_of}
use Rattle.pldm_wire.specs.Responses.{response, response_of}
use Rattle.pldm_wire.specs.Commands.{kind_of, CommandFields, IsCommand, command_data, command_message}
use Rattle.pldm_wire.specs.CommandReading.{command_of}
use Rattle.pldm_wire.specs.Answers.{IsAnswerTo, AnswerFields, IsAnswer, code_of, answer_data, answer_message}
use Rattle.pldm_wire.specs.AnswerReading.{answer_of, AnswersCommand}
use Rattle.pldm_wire.specs.Crc.{IsRemainder, IsCrc, crc}
use Rattle.pldm_wire.specs.declared.assigned.TheConstants.{INSTANCE_IDS}
use Rattle.pldm_wire.specs.declared.command.Command.{Command}
use Rattle.pldm_wire.specs.declared.answer.Answer.{Answer}

-- no bytes are two requests
abbrev pub OneRequest : Type 0
OneRequest =
    (bytes : List ℕ) (id other_id : ℕ) (kind other_kind : TypeAndCommand) (rest other_rest : List ℕ)
    → IsRequest bytes id kind rest → IsRequest bytes other_id other_kind other_rest
    → (id ≡ other_id) × (kind ≡ other_kind) × (rest ≡ other_rest)

-- no bytes are two responses
abbrev pub OneResponse : Type 0
OneResponse =
    (bytes : List ℕ) (id other_id : ℕ) (kind other_kind : TypeAndCommand) (code other_code : ℕ)
    (rest other_rest : List ℕ)
    → IsResponse bytes id kind code rest → IsResponse bytes other_id other_kind other_code other_rest
    → (id ≡ other_id) × (kind ≡ other_kind) × (code ≡ other_code) × (rest ≡ other_rest)

-- no bytes are a request and a response
abbrev pub RequestOrResponse : Type 0
RequestOrResponse =
    (bytes : List ℕ) (id other_id : ℕ) (kind other_kind : TypeAndCommand) (code : ℕ) (rest other_rest : List ℕ)
    → IsRequest bytes id kind rest → IsResponse bytes other_id other_kind code other_rest → ⊥

-- a request is read as itself
abbrev pub RequestReadBack : Type 0
RequestReadBack =
    (bytes : List ℕ) (id : ℕ) (kind : TypeAndCommand) (rest : List ℕ)
    → IsRequest bytes id kind rest → request_of bytes ≡ Ok (request id kind rest)

-- a response is read as itself
abbrev pub ResponseReadBack : Type 0
ResponseReadBack =
    (bytes : List ℕ) (id : ℕ) (kind : TypeAndCommand) (code : ℕ) (rest : List ℕ)
    → IsResponse bytes id kind code rest → response_of bytes ≡ Ok (response id kind code rest)

-- the values that stand in data are read from it
abbrev pub ValuesReadBack : Type 0
ValuesReadBack =
    (layout : Layout) (values : Values layout) (bytes : List ℕ)
    → StandIn layout values bytes → values_at layout 0 bytes ≡ Ok values

-- what is read from data stands in it
abbrev pub ValuesFound : Type 0
ValuesFound =
    (layout : Layout) (bytes : List ℕ) → IfOk (values_at layout 0 bytes) (λ values. StandIn layout values bytes)

-- what values are written as has them in it
abbrev pub ValuesWritten : Type 0
ValuesWritten =
    (layout : Layout) (values : Values layout)
    → AllInRange layout values → StandIn layout values (bytes_of layout values)

-- a command whose fields stand in the bytes is read from them
abbrev pub CommandReadBack : Type 0
CommandReadBack =
    (command : Command) (kind : TypeAndCommand) (bytes : List ℕ)
    → CommandFields command kind bytes → command_of kind bytes ≡ Ok command

-- no bytes have the fields of two commands of one kind
abbrev pub OneCommand : Type 0
OneCommand =
    (command other : Command) (kind : TypeAndCommand) (bytes : List ℕ)
    → CommandFields command kind bytes → CommandFields other kind bytes → command ≡ other

-- the data that a command is written with has its fields
abbrev pub CommandWritten : Type 0
CommandWritten =
    (command : Command) → IsCommand command → CommandFields command (kind_of command) (command_data command)

-- the message that a command is written as is read back as its instance ID and the command
abbrev pub WrittenCommandReadBack : Type 0
WrittenCommandReadBack =
    (id : ℕ) (command : Command) → id < INSTANCE_IDS → IsCommand command
    → (request_of (command_message id command) ≡ Ok (request id (kind_of command) (command_data command)))
    × (command_of (kind_of command) (command_data command) ≡ Ok command)

-- an answer whose fields stand in a response to its command is read from it
abbrev pub AnswerReadBack : Type 0
AnswerReadBack =
    (command : Command) (answer : Answer) (kind : TypeAndCommand) (code : ℕ) (bytes : List ℕ)
    → AnswersCommand command answer kind code bytes → answer_of (kind_of command) kind code bytes ≡ Ok answer

-- no code and bytes have the fields of two answers of one kind
abbrev pub OneAnswer : Type 0
OneAnswer =
    (answer other : Answer) (kind : TypeAndCommand) (code : ℕ) (bytes : List ℕ)
    → AnswerFields answer kind code bytes → AnswerFields other kind code bytes → answer ≡ other

-- the completion code and the data that an answer is written with have its fields
abbrev pub AnswerWritten : Type 0
AnswerWritten =
    (answer : Answer) (kind : TypeAndCommand)
    → IsAnswerTo kind answer → IsAnswer answer → AnswerFields answer kind (code_of answer) (answer_data answer)

-- the message that an answer to a command is written as is read back as its instance ID and the
-- answer
abbrev pub WrittenAnswerReadBack : Type 0
WrittenAnswerReadBack =
    (id : ℕ) (command : Command) (answer : Answer)
    → id < INSTANCE_IDS → IsAnswerTo (kind_of command) answer → IsAnswer answer
    → (response_of (answer_message id (kind_of command) answer)
    ≡ Ok (response id (kind_of command) (code_of answer) (answer_data answer)))
    × (answer_of (kind_of command) (kind_of command) (code_of answer) (answer_data answer) ≡ Ok answer)

-- no number has two remainders
abbrev pub OneRemainder : Type 0
OneRemainder =
    (number remainder other : ℕ)
    → IsRemainder number remainder → IsRemainder number other → remainder ≡ other

-- what long division leaves of bytes is their remainder
abbrev pub CrcIsRemainder : Type 0
CrcIsRemainder =
    (bytes : List ℕ) → ((i : ℕ) → slice_index bytes i < 256) → IsCrc bytes (crc bytes)

-- and they have no other
abbrev pub OnlyCrc : Type 0
OnlyCrc =
    (bytes : List ℕ) (remainder : ℕ) → ((i : ℕ) → slice_index bytes i < 256)
    → IsCrc bytes remainder → remainder ≡ crc bytes
