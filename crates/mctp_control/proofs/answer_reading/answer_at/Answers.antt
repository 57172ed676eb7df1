-- What is read has its fields in the code and the bytes, and every answer whose fields stand there is read.
use Rattle.std.proofs.Common.{arith}
use Rattle.mctp_control.proofs.ReadAnswers.{found, only}
use Rattle.mctp_control.proofs.answer_reading.answer_at.Goals as goal

pub returns-clause-found : goal.returns-clause-found
returns-clause-found c =
    rw c.answer_in.ensures (found c.args.command c.args.code c.args.bytes.now (omega arith) (λ i. omega (arith, c.type_inv.bytes i)))

pub returns-clause-only : goal.returns-clause-only
returns-clause-only c = λ answer h. rw c.answer_in.ensures (only answer c.args.command c.args.code c.args.bytes.now h)
