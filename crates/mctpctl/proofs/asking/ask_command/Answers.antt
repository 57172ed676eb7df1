-- The line stopped, or it failed to be written.
use Rattle.mctpctl.proofs.LineFaults.{stopped_or_printing}
use Rattle.mctpctl.proofs.asking.ask_command.Goals as goal

pub returns-in-Err-clause-stopped : goal.returns-in-Err-clause-stopped
returns-in-Err-clause-stopped g c = stopped_or_printing c.in-Err.fault c.in-Err.ensures.stopped
