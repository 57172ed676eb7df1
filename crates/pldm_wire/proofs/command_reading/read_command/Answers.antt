-- What is read has its fields in the data, and every command whose fields stand there is read.
use Rattle.pldm_wire.proofs.ReadCommands.{found, only}
use Rattle.pldm_wire.proofs.command_reading.read_command.Goals as goal

pub returns-clause-found : goal.returns-clause-found
returns-clause-found c = rw (c.command_in.ensures, c.kind.ensures.value, c.data.ensures) (found c.args.request.now.kind c.args.request.now.rest)

pub returns-clause-only : goal.returns-clause-only
returns-clause-only c =
    λ command h. rw (c.command_in.ensures, c.kind.ensures.value, c.data.ensures) (only command c.args.request.now.kind c.args.request.now.rest h)
