-- What an answer is written with has its fields, so it is read.
use Rattle.std.proofs.Common.{refl}
use Rattle.mctp_control.proofs.ReadAnswers.{only}
use Rattle.mctp_control.specs.Answers.{answer_data, code_of}
use Rattle.mctp_control.proofs.laws.answers_are_read_back.Goals as goal

pub returns-clause-back : goal.returns-clause-back
returns-clause-back c =
    λ answer number to fields. only answer number (code_of answer) (answer_data answer) (record { to = to; code_is = refl; fields = fields })
