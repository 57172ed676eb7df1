-- What is read is what the bytes are, and whatever they are is read.
use Rattle.std.proofs.Common.{arith}
use Rattle.pldm_wire.proofs.ReadResponses.{found, only}
use Rattle.pldm_wire.proofs.response.read_response.Goals as goal

pub returns-clause-found : goal.returns-clause-found
returns-clause-found c = rw c.response_in.ensures.exact (found c.args.bytes.now (λ i. omega (arith, c.type_inv.bytes i)))

pub returns-clause-only : goal.returns-clause-only
returns-clause-only c = λ id kind code rest h. rw c.response_in.ensures.exact (only c.args.bytes.now id kind code rest h)
