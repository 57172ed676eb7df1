-- What is written is read back as the same instance ID and value.
use Rattle.std.proofs.Common.{◌≡◌, ℕ, ◌<◌, Ok, refl, arith}
use Rattle.pldm_wire.specs.Requests.{request, request_of}
use Rattle.pldm_wire.specs.Responses.{response, response_of}
use Rattle.pldm_wire.specs.Commands.{kind_of, IsCommand, command_data, command_message}
use Rattle.pldm_wire.specs.CommandReading.{command_of}
use Rattle.pldm_wire.specs.Answers.{IsAnswerTo, IsAnswer, code_of, answer_data, answer_message}
use Rattle.pldm_wire.specs.AnswerReading.{answer_of}
use Rattle.pldm_wire.specs.declared.command.Command.{Command}
use Rattle.pldm_wire.specs.declared.answer.Answer.{Answer}
use Rattle.pldm_wire.proofs.ReadRequests as requests
use Rattle.pldm_wire.proofs.ReadResponses as responses
use Rattle.pldm_wire.proofs.ReadCommands as commands
use Rattle.pldm_wire.proofs.ReadAnswers as answers
use Rattle.pldm_wire.specs.declared.assigned.TheConstants.{INSTANCE_IDS}

pub command_read_back : (id : ℕ) (c : Command) → id < INSTANCE_IDS → IsCommand c
    → (request_of (command_message id c) ≡ Ok (request id (kind_of c) (command_data c))) × (command_of (kind_of c) (command_data c) ≡ Ok c)
command_read_back id c id_range range = (
  requests.only (command_message id c) id (kind_of c) (command_data c)
      (record { id_range = id_range; kind_range = commands.kind_is c; reserved = 0; bit = omega arith; bytes_are = refl }),
  commands.only c (kind_of c) (command_data c) (commands.written c range),
)

pub answer_read_back : (id : ℕ) (c : Command) (a : Answer) → id < INSTANCE_IDS → IsAnswerTo (kind_of c) a → IsAnswer a
    → (response_of (answer_message id (kind_of c) a) ≡ Ok (response id (kind_of c) (code_of a) (answer_data a)))
    × (answer_of (kind_of c) (kind_of c) (code_of a) (answer_data a) ≡ Ok a)
answer_read_back id c a id_range variant range = (
  responses.only (answer_message id (kind_of c) a) id (kind_of c) (code_of a) (answer_data a)
      (record { id_range = id_range; kind_range = commands.kind_is c; reserved = 0; bit = omega arith; bytes_are = refl }),
  answers.only (kind_of c) a (kind_of c) (code_of a) (answer_data a)
      (record { same_command = refl; fields = answers.written a (kind_of c) variant range }),
)
