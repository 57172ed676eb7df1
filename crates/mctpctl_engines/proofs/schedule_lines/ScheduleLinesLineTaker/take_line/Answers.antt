-- A line that is refused is reported at the end.
use Rattle.std.proofs.Common.{ap}
use Rattle.mctpctl_engines.specs.ScheduleLines.{good_lines_write, schedule_writes}
use Rattle.mctpctl_engines.proofs.ScheduleGlue.{line_refused}
use Rattle.mctpctl_engines.proofs.schedule_lines.ScheduleLinesLineTaker.take_line.Goals as goal

pub returns-in_default-clause-meets : goal.returns-in_default-clause-meets
returns-in_default-clause-meets c =
    line_refused (schedule_writes c.args.self.now) (good_lines_write c.in-Good.lines) c.args.line.now c.args._out.now.items c.in-Err.fault (ap schedule_writes c.in-Good.is) (c.in_default.not-Memory _) c.in-Err.ensures.err
