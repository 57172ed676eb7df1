-- The written data has the command's fields in it.
use Rattle.pldm_update.proofs.ReadCommands.{written}
use Rattle.pldm_update.proofs.command_writing.update_command_data.Goals as goal

pub returns-clause-fields : goal.returns-clause-fields
returns-clause-fields c = rw c.spelled.ensures.items (written c.args.command.now c.spelled.ensures.range)
