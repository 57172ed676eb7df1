-- The laws are proved in TimelyLogs and TimelyTests, the first by the requester's law on instance IDs.
use Rattle.mctp_schedule.proofs.TimelyLogs.{log_is_timely}
use Rattle.mctp_schedule.proofs.TimelyTests.{timely_is_tested}
use Rattle.mctp_schedule.proofs.laws.logs_are_timely.Goals as goal

pub returns : goal.returns
returns g c = record {
  log = λ setting. log_is_timely setting c.instance_ids_are_apart.ensures.apart;
  tested = λ setting. timely_is_tested setting;
}
