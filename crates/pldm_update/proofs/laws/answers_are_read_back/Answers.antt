-- Answers are read from their code and data, and what they are written as is read back.
use Rattle.pldm_update.specs.Answers.{code_of, answer_data}
use Rattle.pldm_update.proofs.ReadAnswers.{only, one, written}
use Rattle.pldm_update.proofs.laws.answers_are_read_back.Goals as goal

pub returns-clause-reads_back : goal.returns-clause-reads_back
returns-clause-reads_back c = only

pub returns-clause-one : goal.returns-clause-one
returns-clause-one c = one

pub returns-clause-written_reads_back : goal.returns-clause-written_reads_back
returns-clause-written_reads_back c =
    λ answer number to range. only answer number (code_of answer) (answer_data answer) (written answer number to range)
