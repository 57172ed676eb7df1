-- What is read has its fields in the bytes, and every command whose fields stand there is read.
use Rattle.std.proofs.Common.{arith}
use Rattle.mctp_control.proofs.ReadCommands.{found, only}
use Rattle.mctp_control.proofs.command_reading.command_at.Goals as goal

pub returns-clause-found : goal.returns-clause-found
returns-clause-found c =
    rw c.command_in.ensures (found c.args.number c.args.bytes.now (λ i. omega (arith, c.type_inv.bytes i)))

pub returns-clause-only : goal.returns-clause-only
returns-clause-only c = λ command h. rw c.command_in.ensures (only command c.args.number c.args.bytes.now h)
