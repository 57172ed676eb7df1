-- What is read has its fields in the code and the data, and every answer whose fields stand there is read.
use Rattle.std.proofs.Common.{arith}
use Rattle.pldm_update.proofs.ReadAnswers.{found, only}
use Rattle.pldm_update.proofs.answer_reading.read_update_answer.Goals as goal

pub returns-clause-found : goal.returns-clause-found
returns-clause-found c = rw c.answer_in.ensures (found c.args.command c.args.code c.args.data.now (omega arith))

pub returns-clause-only : goal.returns-clause-only
returns-clause-only c = λ a h. rw c.answer_in.ensures (only a c.args.command c.args.code c.args.data.now h)
