-- One sensor or effecter more was read.
use native.Mathlib.Numerals.{unary_clauses}
use Rattle.std.proofs.Common.{ap, length, rules}
use Rattle.mctpctl.proofs.LineFaults.{stopped_reading}
use Rattle.pldm_line.specs.Asked.{shown}
use Rattle.mctpctl.proofs.watching.read_all.Goals as goal

pub loop-place-preserved : goal.loop-place-preserved
loop-place-preserved g c =
    let mid = shown g.C.Ticks.to_come g.R.Read.remaining g.W.Write.contents c.loop-place.line c.loop-place.reader c.loop-place.writer in
    record {
      read = simp unary_clauses (mid, c.loop-place.table, c.loop-place.status, c.in-Ok.one, c.loop-place.invariant.read, c.in-Ok.ensures.read, c.max-status.ensures);
      range = search rules;
      reads = search rules;
      writes = search rules;
      end = ap length c.found-place-end.ensures;
    }

pub returns-in-Err-clause-stopped : goal.returns-in-Err-clause-stopped
returns-in-Err-clause-stopped g c =
    stopped_reading c.args.walk.now c.loop-place.place c.in-Err.fault
    (shown g.C.Ticks.to_come g.R.Read.remaining g.W.Write.contents c.args.line.now c.args.reader.now c.args.writer.now)
    (shown g.C.Ticks.to_come g.R.Read.remaining g.W.Write.contents c.loop-place.line c.loop-place.reader c.loop-place.writer)
    (shown g.C.Ticks.to_come g.R.Read.remaining g.W.Write.contents c.read_one.new.line c.read_one.new.reader c.read_one.new.writer)
    c.loop-place.table c.loop-place.status c.loop-place.invariant.read c.in-Err.ensures.stopped
