-- Answers are read from responses, and what they are written as is read back.
use Rattle.pldm_wire.specs.Commands.{kind_of}
use Rattle.pldm_wire.proofs.ReadAnswers.{only}
use Rattle.pldm_wire.proofs.ReadAnswers.{written}
use Rattle.pldm_wire.proofs.ReadBack.{answer_read_back}
use Rattle.pldm_wire.proofs.laws.answers_are_read_back.Goals as goal

pub returns-clause-reads_back : goal.returns-clause-reads_back
returns-clause-reads_back c = λ command answer kind code bytes h. only (kind_of command) answer kind code bytes h

pub returns-clause-written : goal.returns-clause-written
returns-clause-written c = written

pub returns-clause-written_reads_back : goal.returns-clause-written_reads_back
returns-clause-written_reads_back c = answer_read_back
