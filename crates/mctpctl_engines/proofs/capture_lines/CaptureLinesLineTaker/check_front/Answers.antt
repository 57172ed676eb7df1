-- A front over the limit is refused as the whole line is.
use Rattle.std.proofs.Common.{◌+◌, arith}
use Rattle.mctpctl_engines.proofs.TaskLines.{front_too_long}
use Rattle.mctpctl_engines.proofs.capture_lines.CaptureLinesLineTaker.check_front.Goals as goal

pub returns-then-front-gt-MAX_CAPTURE_LINE-clause-err : goal.returns-then-front-gt-MAX_CAPTURE_LINE-clause-err
returns-then-front-gt-MAX_CAPTURE_LINE-clause-err g c =
    front_too_long g.T.LineTask.step g.met.T.LineTask.refuses_long (c.args.self.now.ended + 1) (g.T.LineTask.state_of c.args.self.now.task) c.args.front.now (omega arith)
