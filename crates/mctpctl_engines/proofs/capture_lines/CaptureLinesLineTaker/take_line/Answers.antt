-- The line is answered with the next number.
use Rattle.std.proofs.Common.{◌+◌}
use Rattle.mctpctl_engines.proofs.TaskLines.{task_takes}
use Rattle.mctpctl_engines.proofs.capture_lines.CaptureLinesLineTaker.take_line.Goals as goal

pub returns-clause-meets : goal.returns-clause-meets
returns-clause-meets g c =
    task_takes g.T.LineTask.step (c.args.self.now.ended + 1) (g.T.LineTask.state_of c.args.self.now.task) (g.T.LineTask.state_of c.answer.new.self) c.args.line.now c.args.out.now.items c.answer.new.out.items c.answer.result c.answer.ensures.meets
