-- What a command or an answer is written with fits a message.
use Rattle.pldm_update.proofs.FittingData.{command_fits, answer_fits}
use Rattle.pldm_update.proofs.laws.data_fits.Goals as goal

pub returns : goal.returns
returns c = (command_fits, answer_fits)
