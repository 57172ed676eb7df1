-- The law is proved in PacedLogs, by those of packets, messages and a requester.
use Rattle.mctp_schedule.proofs.AnswerPacketOutcomes.{Lower}
use Rattle.mctp_schedule.proofs.PacedLogs.{paced_log_is_timely}
use Rattle.mctp_schedule.proofs.laws.paced_logs_are_timely.Goals as goal

pub returns : goal.returns
returns g c =
    let lower : Lower = record {
      splits = c.split_packets_read_back.ensures.back;
      found = c.one_open_on_each_tag.ensures.found;
      apart = c.instance_ids_are_apart.ensures.apart;
      requests = c.messages_are_told_apart.ensures.reads_back;
      responses = c.messages_are_told_apart.ensures.response_reads_back;
    } in
    λ setting. paced_log_is_timely setting lower
