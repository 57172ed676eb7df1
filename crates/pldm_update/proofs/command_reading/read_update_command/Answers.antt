-- What is read has its fields in the data, and every command whose fields stand there is read.
use Rattle.pldm_update.proofs.ReadCommands.{coded_found, coded_only}
use Rattle.pldm_update.proofs.command_reading.read_update_command.Goals as goal

pub returns-clause-found : goal.returns-clause-found
returns-clause-found c = rw (c.coded.ensures, c.update_command_in.ensures) (coded_found c.args.command c.args.data.now)

pub returns-clause-only : goal.returns-clause-only
returns-clause-only c =
    λ command h. rw (c.coded.ensures, c.update_command_in.ensures) (coded_only command c.args.command c.args.data.now h)
