-- A line extends the description, or divides, and past that it is one of those that come after.
use Rattle.std.proofs.Common.{Ok, ap, ◌∙◌}
use Rattle.mctpctl_engines.specs.DescribedLines.{described_writes}
use Rattle.mctpctl_engines.specs.DescriptionLines.{description_writes}
use Rattle.mctpctl_engines.proofs.DescriptionGlue.{line_described, line_divides, line_stops}
use Rattle.mctpctl_engines.proofs.described_lines.DescribedLines.take_early.Goals as goal

pub returns-in-Ok-None-clause-meets : goal.returns-in-Ok-None-clause-meets
returns-in-Ok-None-clause-meets g c =
    line_described g.T.Described.written (described_writes g.T.Described.written g.T.LineTaker.writes c.args.self.now) (description_writes g.T.Described.written c.in-Before.lines.text.items) (description_writes g.T.Described.written c.take_line-found.new.self.text.items) c.args.line.now c.args.out.now.items c.take_line-found.result
    (ap (described_writes g.T.Described.written g.T.LineTaker.writes) c.in-Before.is) (c.in-Ok-None.is ∙ ap Ok c.in-Ok-None.field-0-is) (c.take_line-found.ensures.meets g.T.Described.written)

pub returns-in-Ok-Some-clause-meets : goal.returns-in-Ok-Some-clause-meets
returns-in-Ok-Some-clause-meets g c =
    line_divides g.T.Described.written (described_writes g.T.Described.written g.T.LineTaker.writes c.args.self.now) (description_writes g.T.Described.written c.in-Before.lines.text.items) (description_writes g.T.Described.written c.take_line-found.new.self.text.items) (described_writes g.T.Described.written g.T.LineTaker.writes c.divide.new.self) c.args.line.now c.args.out.now.items c.in-Ok-Some.description c.take_line-found.result
    (ap (described_writes g.T.Described.written g.T.LineTaker.writes) c.in-Before.is) (c.in-Ok-Some.is ∙ ap Ok c.in-Ok-Some.field-0-is) (c.take_line-found.ensures.meets g.T.Described.written) c.divide.ensures.writes

pub returns-in-Err-clause-meets : goal.returns-in-Err-clause-meets
returns-in-Err-clause-meets g c =
    line_stops g.T.Described.written (described_writes g.T.Described.written g.T.LineTaker.writes c.args.self.now) (description_writes g.T.Described.written c.in-Before.lines.text.items) (description_writes g.T.Described.written c.take_line-found.new.self.text.items) (description_writes g.T.Described.written c.take_line-found.new.self.text.items) c.args.line.now c.args.out.now.items c.in-Err.fault c.take_line-found.result
    (ap (described_writes g.T.Described.written g.T.LineTaker.writes) c.in-Before.is) c.in-Err.is (c.take_line-found.ensures.meets g.T.Described.written)
