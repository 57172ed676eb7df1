-- What is read is what the bytes spell, and whatever they spell is read.
use Rattle.std.proofs.Common.{arith}
use Rattle.pldm_pdr.proofs.Records.{is_found, only}
use Rattle.pldm_pdr.proofs.reading.read.Goals as goal

pub returns-clause-found : goal.returns-clause-found
returns-clause-found c =
    is_found c.args.bytes.now c.record_in.result (λ i. omega (arith, c.type_inv.bytes i)) c.record_in.ensures

pub returns-clause-only : goal.returns-clause-only
returns-clause-only c = λ r is. rw c.record_in.ensures (only c.args.bytes.now r is)
