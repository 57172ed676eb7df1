-- What is read is what the bytes are, and whatever they are is read.
use Rattle.std.proofs.Common.{arith}
use Rattle.pldm_wire.proofs.ReadRequests.{found, only}
use Rattle.pldm_wire.proofs.request.read_request.Goals as goal

pub returns-clause-found : goal.returns-clause-found
returns-clause-found c = rw c.request_in.ensures.exact (found c.args.bytes.now (λ i. omega (arith, c.type_inv.bytes i)))

pub returns-clause-only : goal.returns-clause-only
returns-clause-only c = λ id kind rest h. rw c.request_in.ensures.exact (only c.args.bytes.now id kind rest h)
