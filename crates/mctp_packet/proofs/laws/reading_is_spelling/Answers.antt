-- What reading by place finds is spelled so.
use Rattle.std.proofs.Common.{None}
use Rattle.mctp_packet.proofs.Spelled.{found, found_for}
use Rattle.mctp_packet.proofs.laws.reading_is_spelling.Goals as goal

pub returns-clause-spelled : goal.returns-clause-spelled
returns-clause-spelled c = λ p bytes small read. rw read at (found None bytes tt small)

pub returns-clause-spelled_for : goal.returns-clause-spelled_for
returns-clause-spelled_for c = λ own p bytes id small read. rw read at (found_for own bytes id small)
