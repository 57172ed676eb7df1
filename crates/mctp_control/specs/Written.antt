-- The messages that commands and answers are written as: reserved bits are 0.
use Rattle.std.specs.Prelude.{ℕ, List, ◌∷◌}
use Rattle.mctp_control.specs.Answers.{answer_data, code_of}
use Rattle.mctp_control.specs.Commands.{command_data, number_of}
use Rattle.mctp_control.specs.Messages.{message}
use Rattle.mctp_control.specs.declared.answer.Answer.{Answer}
use Rattle.mctp_control.specs.declared.command.Command.{Command}

abbrev pub command_message : ℕ → Command → List ℕ
command_message id command = message 1 0 id (number_of command) (command_data command)

-- the answer to a command of this number
abbrev pub answer_message : ℕ → ℕ → Answer → List ℕ
answer_message id number answer = message 0 0 id number (code_of answer ∷ answer_data answer)
