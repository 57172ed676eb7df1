-- One turn further, while the request is open.
use Rattle.std.proofs.Common.{◌≡◌, true, false, None, refl, rules, arith}
use Rattle.std.proofs.KnownBytes.{Keeps-refl}
use Rattle.pldm_line.proofs.Going.{failed_turn, goes_nowhere, goes_on, one_more, stops}
use Rattle.pldm_line.specs.Asked.{shown}
use Rattle.pldm_line.specs.Ends.{IsWaiting, ended_of}
use Rattle.pldm_line.specs.Turns.{is_end}
use Rattle.pldm_line.specs.declared.ask_fault.AskFault.TheVariants.{LineEnded, TooMany}
use Rattle.pldm_requester.specs.Slots.{held_of}
use Rattle.pldm_line.proofs.asking_line.follow.Goals as goal

pub loop-init : goal.loop-init
loop-init g c = record {
  goes =
      goes_nowhere (IsWaiting c.args.number)
      (shown g.C.Ticks.to_come g.R.Read.remaining g.W.Write.contents c.args.line.now c.args.reader.now c.args.writer.now);
  count = refl;
  flushed = λ was. was;
  reads = search rules;
  writes = search rules;
}

pub returns-then-is_end-clause-stopped : goal.returns-then-is_end-clause-stopped
returns-then-is_end-clause-stopped g c =
    let ended : is_end c.loop.line.quiet ≡ true = search rules in
    λ other.
    stops (IsWaiting c.args.number) LineEnded
    (shown g.C.Ticks.to_come g.R.Read.remaining g.W.Write.contents c.args.line.now c.args.reader.now c.args.writer.now)
    (shown g.C.Ticks.to_come g.R.Read.remaining g.W.Write.contents c.loop.line c.loop.reader c.loop.writer)
    (shown g.C.Ticks.to_come g.R.Read.remaining g.W.Write.contents c.loop.line c.loop.reader c.loop.writer)
    c.loop.invariant.goes (Keeps-refl (g.W.Write.contents c.loop.writer.inner)) ended

pub returns-in-Err-clause-stopped : goal.returns-in-Err-clause-stopped
returns-in-Err-clause-stopped g c =
    λ other.
    stops (IsWaiting c.args.number) c.in-Err.fault
    (shown g.C.Ticks.to_come g.R.Read.remaining g.W.Write.contents c.args.line.now c.args.reader.now c.args.writer.now)
    (shown g.C.Ticks.to_come g.R.Read.remaining g.W.Write.contents c.loop.line c.loop.reader c.loop.writer)
    (shown g.C.Ticks.to_come g.R.Read.remaining g.W.Write.contents c.take_turn.new.line c.take_turn.new.reader c.take_turn.new.writer)
    c.loop.invariant.goes (c.in-Err.ensures.kept other) (failed_turn c.in-Err.fault c.loop.invariant.goes.turns (shown g.C.Ticks.to_come g.R.Read.remaining g.W.Write.contents c.loop.line c.loop.reader c.loop.writer) (shown g.C.Ticks.to_come g.R.Read.remaining g.W.Write.contents c.take_turn.new.line c.take_turn.new.reader c.take_turn.new.writer) c.in-Err.ensures.reason)

pub loop-preserved : goal.loop-preserved
loop-preserved g c =
    let going : is_end c.loop.line.quiet ≡ false = search rules in
    let waiting : ended_of (held_of c.loop.line.requester) c.args.number ≡ None = search rules in
    record {
      goes =
          goes_on (IsWaiting c.args.number)
          (shown g.C.Ticks.to_come g.R.Read.remaining g.W.Write.contents c.args.line.now c.args.reader.now c.args.writer.now)
          (shown g.C.Ticks.to_come g.R.Read.remaining g.W.Write.contents c.loop.line c.loop.reader c.loop.writer)
          (shown g.C.Ticks.to_come g.R.Read.remaining g.W.Write.contents c.take_turn.new.line c.take_turn.new.reader c.take_turn.new.writer)
          c.loop.invariant.goes (going, waiting) c.in-Ok.ensures.turned;
      count = one_more c.in-Ok.ensures.turned.turn c.loop.invariant.goes.turns c.loop.counter c.loop.invariant.count;
      flushed = search rules;
      reads = search rules;
      writes = search rules;
    }

pub returns-clause-stopped : goal.returns-clause-stopped
returns-clause-stopped g c =
    λ other.
    stops (IsWaiting c.args.number) TooMany
    (shown g.C.Ticks.to_come g.R.Read.remaining g.W.Write.contents c.args.line.now c.args.reader.now c.args.writer.now)
    (shown g.C.Ticks.to_come g.R.Read.remaining g.W.Write.contents c.loop.line c.loop.reader c.loop.writer)
    (shown g.C.Ticks.to_come g.R.Read.remaining g.W.Write.contents c.loop.line c.loop.reader c.loop.writer)
    c.loop.invariant.goes (Keeps-refl (g.W.Write.contents c.loop.writer.inner)) (omega arith)
