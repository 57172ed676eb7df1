-- What is read is spelled so: reading by place passes every check.
use Rattle.std.proofs.Common.{arith}
use Rattle.mctp_packet.proofs.Spelled.{found_for}
use Rattle.mctp_packet.proofs.codec.read_for.Goals as goal

pub returns-clause-found : goal.returns-clause-found
returns-clause-found c = rw c.read_at.ensures.answer (found_for c.args.own c.args.bytes.now c.get-range.ensures.range (λ i. omega (arith, c.type_inv.bytes i)))
