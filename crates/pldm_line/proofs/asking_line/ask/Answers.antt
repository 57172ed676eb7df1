-- It stopped while the request was open.
use Rattle.std.proofs.Common.{inr}
use Rattle.pldm_line.specs.Asked.{shown}
use Rattle.pldm_line.proofs.asking_line.ask.Goals as goal

pub returns-in-Err-follow-clause-stopped : goal.returns-in-Err-follow-clause-stopped
returns-in-Err-follow-clause-stopped g c =
    λ other. inr (record {
      number = c.in-Ok.number;
      asked = (shown g.C.Ticks.to_come g.R.Read.remaining g.W.Write.contents c.open.new.line c.open.new.reader c.open.new.writer);
      opens = c.in-Ok.ensures.opened;
      stops = c.in-Err-follow.ensures.stopped other;
    })
