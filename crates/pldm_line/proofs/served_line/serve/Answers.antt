-- One piece further.
use Rattle.std.proofs.Common.{[], ◌++◌, take, rules}
use Rattle.std.proofs.KnownBytes.{Consumes-nil, Consumes-trans}
use Rattle.pldm_line.proofs.Hearing.{hears_nothing, hears_after, front_after}
use Rattle.pldm_line.specs.Heard.{shown}
use Rattle.pldm_responder.specs.Performing.{rules_of}
use Rattle.pldm_line.proofs.served_line.serve.Goals as goal

pub loop-init : goal.loop-init
loop-init g c = record {
  taken = [];
  consumed = Consumes-nil (g.R.Read.remaining c.args.reader.now.inner);
  heard =
      hears_nothing g.P.Platform.performed (rules_of g.P.Platform.answer g.P.Platform.after g.P.Platform.sensed) g.L.Watch.sees
      g.met.P.Platform.none_performed
      (shown g.C.Ticks.to_come g.W.Write.contents c.args.line.now c.args.writer.now);
  reads = c.requires.works.0;
  writes = c.requires.works.1;
  flushed = λ was. was;
}

pub loop-preserved : goal.loop-preserved
loop-preserved g c =
    let i = c.loop.invariant in
    let got = take c.in-Ok.count c.read.new.buf in
    record {
      taken = i.taken ++ got;
      consumed = Consumes-trans (g.R.Read.remaining c.args.reader.now.inner) (g.R.Read.remaining c.loop.reader.inner) (g.R.Read.remaining c.read.new.self.inner) i.taken got i.consumed c.in-Ok.ensures.bytes.0;
      heard =
          hears_after g.P.Platform.performed (rules_of g.P.Platform.answer g.P.Platform.after g.P.Platform.sensed) g.L.Watch.sees
          g.met.P.Platform.performed_in_turn
          (shown g.C.Ticks.to_come g.W.Write.contents c.args.line.now c.args.writer.now) i.taken got
          (shown g.C.Ticks.to_come g.W.Write.contents c.loop.line c.loop.writer)
          (shown g.C.Ticks.to_come g.W.Write.contents c.hear_piece.new.line c.hear_piece.new.writer)
          i.heard c.in-Ok-hear_piece.ensures.heard;
      reads = search rules;
      writes = search rules;
      flushed = search rules;
    }

pub returns-in-Err-clause-stopped : goal.returns-in-Err-clause-stopped
returns-in-Err-clause-stopped g c =
    let i = c.loop.invariant in
    λ other.
    front_after g.P.Platform.performed (rules_of g.P.Platform.answer g.P.Platform.after g.P.Platform.sensed) g.L.Watch.sees
    g.met.P.Platform.performed_in_turn
    (shown g.C.Ticks.to_come g.W.Write.contents c.args.line.now c.args.writer.now) i.taken
    (shown g.C.Ticks.to_come g.W.Write.contents c.loop.line c.loop.writer)
    (g.R.Read.remaining c.args.reader.now.inner) (g.R.Read.remaining c.loop.reader.inner) (g.R.Read.remaining c.read.new.self.inner)
    (take c.in-Ok.count c.read.new.buf) c.in-Err.fault
    (shown g.C.Ticks.to_come g.W.Write.contents c.hear_piece.new.line c.hear_piece.new.writer)
    i.consumed c.in-Ok.ensures.bytes.0 i.heard (c.in-Err.ensures.stopped other)
