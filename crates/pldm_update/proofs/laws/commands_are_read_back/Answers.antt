-- Commands are read from their data, and what they are written as is read back.
use Rattle.pldm_update.specs.Commands.{number_of, command_data}
use Rattle.pldm_update.proofs.ReadCommands.{only, one, written}
use Rattle.pldm_update.proofs.laws.commands_are_read_back.Goals as goal

pub returns-clause-reads_back : goal.returns-clause-reads_back
returns-clause-reads_back c = only

pub returns-clause-one : goal.returns-clause-one
returns-clause-one c = one

pub returns-clause-written_reads_back : goal.returns-clause-written_reads_back
returns-clause-written_reads_back c =
    λ command range. only command (number_of command) (command_data command) (written command range)
