-- The last line may be the one that divides: it begins the run past it, and ends it.
use Rattle.std.proofs.Common.{ap}
use Rattle.mctpctl_engines.specs.DescribedLines.{described_writes}
use Rattle.mctpctl_engines.specs.DescriptionLines.{description_writes}
use Rattle.mctpctl_engines.proofs.DescriptionGlue.{end_stops}
use Rattle.mctpctl_engines.proofs.described_lines.DescribedLinesLineTaker.finish.Goals as goal

pub returns-in-Err-clause-meets : goal.returns-in-Err-clause-meets
returns-in-Err-clause-meets g c =
    end_stops g.T.Described.written (described_writes g.T.Described.written g.T.LineTaker.writes c.args.self.now) (description_writes g.T.Described.written c.in-Before.lines.text.items) c.args.is_cut c.args.last.now c.in-Err.fault c.end_input-found.result (g.W.Write.contents c.args.writer.now.inner)
    (ap (described_writes g.T.Described.written g.T.LineTaker.writes) c.in-Before.is) c.in-Err.is (c.end_input-found.ensures.meets g.T.Described.written)
