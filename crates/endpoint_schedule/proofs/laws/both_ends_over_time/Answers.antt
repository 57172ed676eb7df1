-- The law is proved in LinkHolds, by those of packets, messages, requesters and the endpoint.
use Rattle.mctp_schedule.proofs.AnswerPacketOutcomes.{Lower}
use Rattle.endpoint_schedule.proofs.LinkHolds.{holds_over_time}
use Rattle.endpoint_schedule.proofs.LinkReceives.{Laws}
use Rattle.endpoint_schedule.proofs.laws.both_ends_over_time.Goals as goal

pub returns : goal.returns
returns c =
    let lower : Lower = record {
      splits = c.split_packets_read_back.ensures.back;
      found = c.one_open_on_each_tag.ensures.found;
      apart = c.instance_ids_are_apart.ensures.apart;
      requests = c.messages_are_told_apart.ensures.reads_back;
      responses = c.messages_are_told_apart.ensures.response_reads_back;
    } in
    let laws : Laws = record {
      lower = lower;
      spells = c.bytes_spell_one_packet.ensures.written;
      read_for = c.reading_is_spelling.ensures.read_for;
      feeds = c.looks_back.ensures.feed;
      begins = c.looks_back.ensures.new;
      forgets = c.looks_back.ensures.forget;
    } in
    holds_over_time laws
