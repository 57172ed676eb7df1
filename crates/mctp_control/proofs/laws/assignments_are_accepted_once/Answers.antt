-- What is kept was accepted, and stays among those that are kept until eight others were.
use Rattle.mctp_control.proofs.KeptOnce.{alike, apart}
use Rattle.mctp_control.proofs.laws.assignments_are_accepted_once.Goals as goal

pub returns-clause-alike : goal.returns-clause-alike
returns-clause-alike c = alike

pub returns-clause-apart : goal.returns-clause-apart
returns-clause-apart c = apart
