-- The law is proved in EventsTaken, by those of events and of both ends.
use Rattle.endpoint_schedule.proofs.EventsTaken.{events_are_taken}
use Rattle.endpoint_schedule.proofs.RecentDeliveries.{schedule_before}
use Rattle.endpoint_schedule.proofs.laws.events_over_schedules.Goals as goal

pub returns : goal.returns
returns g c =
    λ setting. events_are_taken setting c.events_once.ensures (c.requesters_take_the_one_reply.ensures.performed setting) (c.deliveries_are_recent.ensures setting) (schedule_before setting c.instance_ids_are_apart.ensures.apart (c.paced_logs_are_timely.ensures setting))
