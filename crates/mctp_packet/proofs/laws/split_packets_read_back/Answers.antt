-- Written packets are the packets of the message, and read back.
use Rattle.mctp_packet.proofs.ReadBack.{written_are_packets, split_reads_back}
use Rattle.mctp_packet.proofs.laws.split_packets_read_back.Goals as goal

pub returns-clause-written : goal.returns-clause-written
returns-clause-written c = written_are_packets

pub returns-clause-back : goal.returns-clause-back
returns-clause-back c = split_reads_back c.reading_is_spelling.ensures.read c.reading_is_spelling.ensures.read_for
