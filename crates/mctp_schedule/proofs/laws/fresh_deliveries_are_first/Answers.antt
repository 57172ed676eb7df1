-- The law is proved in DeliveriesExpected.
use Rattle.mctp_schedule.proofs.DeliveriesExpected.{none_opened_since, fresh_where_first, fresh_in_order_of_firsts}
use Rattle.mctp_schedule.proofs.laws.fresh_deliveries_are_first.Goals as goal

pub returns : goal.returns
returns g c = record { none_since = none_opened_since; fresh = fresh_where_first; order = fresh_in_order_of_firsts }
