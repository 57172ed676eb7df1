-- Whatever frame the bytes are is read.
use Rattle.mctp_i2c.proofs.SmbusReadBack.{every}
use Rattle.mctp_i2c.proofs.smbus.read.Goals as goal

pub returns-clause-every : goal.returns-clause-every
returns-clause-every c = λ received h. rw c.read_in_turn.ensures.answer (every c.args.own c.args.bytes.now received h)
