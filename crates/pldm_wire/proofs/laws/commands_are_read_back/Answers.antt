-- Commands are read from their data, and what they are written as is read back.
use Rattle.pldm_wire.proofs.ReadCommands.{only, one}
use Rattle.pldm_wire.proofs.ReadCommands.{written}
use Rattle.pldm_wire.proofs.ReadBack.{command_read_back}
use Rattle.pldm_wire.proofs.laws.commands_are_read_back.Goals as goal

pub returns-clause-reads_back : goal.returns-clause-reads_back
returns-clause-reads_back c = only

pub returns-clause-one : goal.returns-clause-one
returns-clause-one c = one

pub returns-clause-written : goal.returns-clause-written
returns-clause-written c = written

pub returns-clause-written_reads_back : goal.returns-clause-written_reads_back
returns-clause-written_reads_back c = command_read_back
