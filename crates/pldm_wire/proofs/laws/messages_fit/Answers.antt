-- Messages fit their packets.
use Rattle.pldm_wire.proofs.FittingMessages.{command_fits, command_is_short, answer_fits}
use Rattle.pldm_wire.proofs.laws.messages_fit.Goals as goal

pub returns-clause-command : goal.returns-clause-command
returns-clause-command c = command_fits

pub returns-clause-short : goal.returns-clause-short
returns-clause-short c = command_is_short

pub returns-clause-answer : goal.returns-clause-answer
returns-clause-answer c = answer_fits
