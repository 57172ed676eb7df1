-- A front that is too long for a description is so whatever comes past it.
use Rattle.std.proofs.Common.{ap}
use Rattle.mctpctl_engines.specs.DescribedLines.{described_writes}
use Rattle.mctpctl_engines.proofs.DescriptionGlue.{front_stops}
use Rattle.mctpctl_engines.proofs.described_lines.DescribedLinesLineTaker.check_front.Goals as goal

pub returns-in-Before-clause-err : goal.returns-in-Before-clause-err
returns-in-Before-clause-err g c =
    front_stops g.T.Described.written (described_writes g.T.Described.written g.T.LineTaker.writes c.args.self.now) c.in-Before.lines.text.items c.args.front.now c.check_front-in-Before.result
    (ap (described_writes g.T.Described.written g.T.LineTaker.writes) c.in-Before.is) c.check_front-in-Before.ensures.err
