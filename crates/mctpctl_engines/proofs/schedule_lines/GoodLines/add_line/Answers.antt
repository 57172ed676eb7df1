-- A good line adds what it says, and no line after a refused one is read.
use Rattle.std.proofs.Common.{◌+◌}
use Rattle.mctpctl_engines.proofs.ScheduleGlue.{line_added, line_not_added}
use Rattle.mctpctl_engines.proofs.schedule_lines.GoodLines.add_line.Goals as goal

pub returns-clause-ok : goal.returns-clause-ok
returns-clause-ok c =
    line_added c.args.self.now.description (c.args.self.now.ended + 1) c.args.self.now.schedule c.add_line.new.self c.args.line.now c.add_line.result c.add_line.ensures.ok

pub returns-clause-err : goal.returns-clause-err
returns-clause-err c =
    line_not_added c.args.self.now.description (c.args.self.now.ended + 1) c.args.self.now.schedule c.args.line.now c.add_line.result c.add_line.ensures.err
