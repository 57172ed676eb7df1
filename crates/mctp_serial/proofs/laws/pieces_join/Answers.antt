-- Byte after byte.
use Rattle.mctp_serial.proofs.FramesRead.{events_join, after_joins}
use Rattle.mctp_serial.proofs.laws.pieces_join.Goals as goal

pub returns : goal.returns
returns c = λ r a b. (events_join r a b, after_joins r a b)
