use Rattle.pldm_responder.proofs.BusyAnswers.{busy_answers_are_one_packet}
use Rattle.pldm_responder.proofs.laws.busy_answers_are_one_packet.Goals as goal

pub returns : goal.returns
returns c = busy_answers_are_one_packet
