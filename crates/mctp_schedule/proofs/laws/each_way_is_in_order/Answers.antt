use Rattle.mctp_schedule.proofs.EachWay.{each_in_order}
use Rattle.mctp_schedule.proofs.laws.each_way_is_in_order.Goals as goal

pub returns : goal.returns
returns c = each_in_order
