-- The written data has the command's fields in it.
use Rattle.pldm_wire.proofs.ReadCommands.{written}
use Rattle.pldm_wire.proofs.command_writing.put_command.Goals as goal

pub returns-clause-fields : goal.returns-clause-fields
returns-clause-fields c = written c.args.command.now c.push_command_data.ensures.range
