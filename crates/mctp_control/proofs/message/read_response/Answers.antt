-- What is read is what the bytes are, and whatever they are is read.
use Rattle.std.proofs.Common.{arith}
use Rattle.mctp_control.proofs.ReadMessages.{response_found, response_only}
use Rattle.mctp_control.proofs.message.read_response.Goals as goal

pub returns-clause-found : goal.returns-clause-found
returns-clause-found c =
    rw c.response_in.ensures (response_found c.args.message.now (λ i. omega (arith, c.type_inv.message i)))

pub returns-clause-only : goal.returns-clause-only
returns-clause-only c = λ r h. rw c.response_in.ensures (response_only c.args.message.now r h)
