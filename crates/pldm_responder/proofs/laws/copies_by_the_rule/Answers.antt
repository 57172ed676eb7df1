use Rattle.pldm_responder.proofs.CopiesByTheRule.{copies_by_the_rule, fresh_past_the_window}
use Rattle.pldm_responder.proofs.laws.copies_by_the_rule.Goals as goal

pub returns : goal.returns
returns g c = record { rule = copies_by_the_rule; past = fresh_past_the_window }
