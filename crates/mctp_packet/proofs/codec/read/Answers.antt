-- What is read is spelled so: reading by place passes every check.
use Rattle.std.proofs.Common.{None, arith}
use Rattle.mctp_packet.proofs.Spelled.{found}
use Rattle.mctp_packet.proofs.codec.read.Goals as goal

pub returns-clause-found : goal.returns-clause-found
returns-clause-found c = rw c.read_at.ensures.answer (found None c.args.bytes.now tt (λ i. omega (arith, c.type_inv.bytes i)))
