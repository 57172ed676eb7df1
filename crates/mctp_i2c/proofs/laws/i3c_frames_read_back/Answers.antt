-- Both checks pass, and what passes is framed.
use Rattle.mctp_i2c.proofs.I3cReadBack.{read_back, only}
use Rattle.mctp_i2c.proofs.laws.i3c_frames_read_back.Goals as goal

pub returns-clause-back : goal.returns-clause-back
returns-clause-back c = λ address direction packet framed. read_back address direction packet framed.0

pub returns-clause-only : goal.returns-clause-only
returns-clause-only c = only
