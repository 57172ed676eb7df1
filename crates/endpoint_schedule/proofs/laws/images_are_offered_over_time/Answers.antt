-- The law is proved in OfferedOverLinks, by those of packets and messages, of both ends over time and of a firmware device.
use Rattle.mctp_schedule.proofs.AnswerPacketOutcomes.{Lower}
use Rattle.mctp_schedule.proofs.OneReplyTaken.{answered_was_performed}
use Rattle.endpoint_schedule.proofs.OfferedOverLinks.{images_are_offered_over_time}
use Rattle.endpoint_schedule.proofs.laws.images_are_offered_over_time.Goals as goal

pub returns : goal.returns
returns c =
    let lower : Lower = record {
      splits = c.split_packets_read_back.ensures.back;
      found = c.one_open_on_each_tag.ensures.found;
      apart = c.instance_ids_are_apart.ensures.apart;
      requests = c.messages_are_told_apart.ensures.reads_back;
      responses = c.messages_are_told_apart.ensures.response_reads_back;
    } in
    images_are_offered_over_time
    (record {
      requests = c.messages_are_told_apart.ensures.reads_back;
      responses = c.messages_are_told_apart.ensures.response_reads_back;
      performed = λ setting. answered_was_performed setting lower;
      whole = c.verified_is_whole.ensures;
      over_time = c.both_ends_over_time.ensures;
      scheduled = c.links_are_schedules.ensures;
    })
