-- The law is proved in HeadlineHolds, by those of both halves.
use Rattle.std.proofs.Common.{refl}
use Rattle.mctp_schedule.proofs.AnswerPacketOutcomes.{Lower}
use Rattle.mctp_schedule.proofs.DeliveriesExpected.{delivery_is_expected, fresh_in_order_of_firsts, fresh_where_first, state_is_once}
use Rattle.mctp_schedule.proofs.HeadlineHolds.{Halves, headline_holds}
use Rattle.mctp_schedule.proofs.OneReplyTaken.{answered_was_performed, answered_where_taken, busy_is_expected, reply_is_expected}
use Rattle.mctp_schedule.proofs.PacedLogs.{paced_log_is_timely}
use Rattle.mctp_schedule.proofs.TimelyTests.{timely_is_tested}
use Rattle.mctp_schedule.proofs.laws.headline_at_every_pace.Goals as goal

pub returns : goal.returns
returns g c =
    let lower : Lower = record {
      splits = c.split_packets_read_back.ensures.back;
      found = c.one_open_on_each_tag.ensures.found;
      apart = c.instance_ids_are_apart.ensures.apart;
      requests = c.messages_are_told_apart.ensures.reads_back;
      responses = c.messages_are_told_apart.ensures.response_reads_back;
    } in
    λ setting steps requests s each.
    let halves : Halves setting = record {
      log = paced_log_is_timely setting lower;
      tested = timely_is_tested setting;
      state = state_is_once setting.device;
      delivery = delivery_is_expected setting.device;
      order = fresh_in_order_of_firsts;
      fresh = fresh_where_first;
      reply = reply_is_expected setting lower;
      busy = busy_is_expected setting lower;
      answered = answered_where_taken setting lower;
      performed = answered_was_performed setting lower;
    } in
    headline_holds setting halves _ steps requests refl s each
