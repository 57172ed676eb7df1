-- The laws are proved in OneReplyTaken, by those of packets, messages and a requester.
use Rattle.mctp_schedule.proofs.AnswerPacketOutcomes.{Lower}
use Rattle.mctp_schedule.proofs.OneReplyTaken.{answered_was_performed, answered_where_taken, busy_is_expected, own_assembly, own_deliveries, reply_is_expected, taken_once}
use Rattle.mctp_schedule.proofs.laws.requesters_take_the_one_reply.Goals as goal

pub returns : goal.returns
returns g c =
    let lower : Lower = record {
      splits = c.split_packets_read_back.ensures.back;
      found = c.one_open_on_each_tag.ensures.found;
      apart = c.instance_ids_are_apart.ensures.apart;
      requests = c.messages_are_told_apart.ensures.reads_back;
      responses = c.messages_are_told_apart.ensures.response_reads_back;
    } in
    record {
      deliveries = λ setting. own_deliveries setting lower;
      assembly = λ setting. own_assembly setting lower c.one_open_on_each_tag.ensures.fed;
      reply = λ setting. reply_is_expected setting lower;
      busy = λ setting. busy_is_expected setting lower;
      answered = λ setting. answered_where_taken setting lower;
      once = λ setting. taken_once setting lower;
      performed = λ setting. answered_was_performed setting lower;
    }
