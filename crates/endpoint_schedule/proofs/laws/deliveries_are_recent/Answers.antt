-- The law is proved in RecentDeliveries, by those of a requester and of events.
use Rattle.endpoint_schedule.proofs.RecentDeliveries.{comes_while_recent}
use Rattle.endpoint_schedule.proofs.laws.deliveries_are_recent.Goals as goal

pub returns : goal.returns
returns g c =
    λ setting. comes_while_recent setting c.instance_ids_are_apart.ensures.apart (c.paced_logs_are_timely.ensures setting) c.requests_come_before_their_ids_are_used.ensures
