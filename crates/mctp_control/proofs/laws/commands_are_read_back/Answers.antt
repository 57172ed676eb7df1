-- What a command is written with has its fields, so it is read.
use Rattle.mctp_control.proofs.ReadCommands.{only, written}
use Rattle.mctp_control.specs.Commands.{command_data, number_of}
use Rattle.mctp_control.proofs.laws.commands_are_read_back.Goals as goal

pub returns-clause-back : goal.returns-clause-back
returns-clause-back c = λ command. only command (number_of command) (command_data command) (written command)
