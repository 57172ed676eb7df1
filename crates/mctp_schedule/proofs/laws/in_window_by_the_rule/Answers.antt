-- The law is proved in InWindowByTheRule.
use Rattle.mctp_schedule.proofs.InWindowByTheRule.{in_window_by_the_rule}
use Rattle.mctp_schedule.proofs.laws.in_window_by_the_rule.Goals as goal

pub returns : goal.returns
returns g c = in_window_by_the_rule _
