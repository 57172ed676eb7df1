-- What a request asks: which command, and the data after its header (DSP0240, "PLDM message fields").
use Rattle.std.specs.Prelude.{ℕ, List}
use Rattle.pldm_wire.specs.Commands.{kind_of, command_data}
use Rattle.pldm_wire.specs.Kinds.{TypeAndCommand}
use Rattle.pldm_wire.specs.Messages.{request_message}
use Rattle.pldm_wire.specs.declared.command.Command.{Command}

pub record Ask : Type 0 where
  pub kind : TypeAndCommand
  pub rest : List ℕ

abbrev pub ask_for : TypeAndCommand → List ℕ → Ask
ask_for kind rest = record { kind = kind; rest = rest }

-- a command is asked with the data that it is written with
abbrev pub ask_of : Command → Ask
ask_of command = ask_for (kind_of command) (command_data command)

-- the message that asks it with an instance ID: its reserved bit is 0
abbrev pub ask_message : ℕ → Ask → List ℕ
ask_message id ask = request_message 0 id ask.kind ask.rest
