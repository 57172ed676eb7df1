-- Each check passes, and what passes is framed.
use Rattle.std.proofs.Common.{arith}
use Rattle.mctp_i2c.proofs.SmbusReadBack.{read_back, only}
use Rattle.mctp_i2c.proofs.laws.smbus_frames_read_back.Goals as goal

pub returns-clause-back : goal.returns-clause-back
returns-clause-back c = λ source own packet address framed. read_back source own packet address (omega arith)

pub returns-clause-only : goal.returns-clause-only
returns-clause-only c = only
