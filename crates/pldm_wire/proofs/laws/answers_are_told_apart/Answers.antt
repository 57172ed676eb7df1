-- Two answers with the same fields would be read as one.
use Rattle.pldm_wire.proofs.ReadAnswers as answers
use Rattle.pldm_wire.proofs.laws.answers_are_told_apart.Goals as goal

pub returns : goal.returns
returns c = record { one = answers.one }
