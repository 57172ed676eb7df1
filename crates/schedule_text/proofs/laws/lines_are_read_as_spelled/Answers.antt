-- The law is proved in SpelledLines.
use Rattle.schedule_text.proofs.SpelledLines.{read_as_spelled}
use Rattle.schedule_text.proofs.laws.lines_are_read_as_spelled.Goals as goal

pub returns : goal.returns
returns g = read_as_spelled
