-- The last line is answered as any other.
use Rattle.std.proofs.Common.{◌+◌}
use Rattle.mctpctl_engines.proofs.TaskLines.{last_finishes}
use Rattle.mctpctl_engines.proofs.capture_lines.CaptureLines.end_input.Goals as goal

pub returns-clause-meets : goal.returns-clause-meets
returns-clause-meets g c =
    rw c.if-is_cut.false (last_finishes g.T.LineTask.step (c.args.self.now.ended + 1) (g.T.LineTask.state_of c.args.self.now.task) (g.T.LineTask.state_of c.answer.new.self) c.args.last.now c.args.out.now.items c.answer.new.out.items c.answer.result c.answer.ensures.meets)
