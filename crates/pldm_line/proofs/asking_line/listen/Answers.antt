-- One turn further, while the time has not passed.
use Rattle.std.proofs.Common.{◌≡◌, ◌+◌, ◌≤◌, ◌<◌, true, false, inr, refl, ap, subst, ◌∙◌, rules, arith}
use Rattle.std.proofs.KnownBytes.{Keeps-refl}
use Rattle.pldm_line.proofs.Going.{failed_turn, goes_nowhere, goes_on, one_more, stops}
use Rattle.pldm_line.specs.Asked.{Goes, Stops, shown}
use Rattle.pldm_line.specs.Ends.{IsEarly}
use Rattle.pldm_line.specs.Turns.{is_end}
use Rattle.pldm_line.specs.declared.ask_fault.AskFault.TheVariants.{LineEnded, TooMany}
use Rattle.pldm_requester.specs.Slots.{held_of}
use Rattle.pldm_line.proofs.asking_line.listen.Goals as goal

pub loop-init : goal.loop-init
loop-init g c = record {
  goes =
      goes_nowhere (IsEarly (c.get.result + c.args.span))
      (shown g.C.Ticks.to_come g.R.Read.remaining g.W.Write.contents c.take_turn.new.line c.take_turn.new.reader c.take_turn.new.writer);
  first = ap (λ n. n + c.args.span) (c.get.ensures.value ∙ c.last_moment.ensures);
  count = refl;
  flushed = λ was. was;
  reads = search rules;
  writes = search rules;
}

pub returns-then-get-end-clause-listened : goal.returns-then-get-end-clause-listened
returns-then-get-end-clause-listened g c =
    let there : c.get.result + c.args.span ≤ (held_of c.loop.line.requester).last = search rules in
    record {
      first = c.in-Ok.ensures.turned.turn;
      begun = (shown g.C.Ticks.to_come g.R.Read.remaining g.W.Write.contents c.take_turn.new.line c.take_turn.new.reader c.take_turn.new.writer);
      turned = c.in-Ok.ensures.turned.turned;
      goes =
          subst (λ m. Goes (IsEarly m) (shown g.C.Ticks.to_come g.R.Read.remaining g.W.Write.contents c.take_turn.new.line c.take_turn.new.reader c.take_turn.new.writer) (shown g.C.Ticks.to_come g.R.Read.remaining g.W.Write.contents c.loop.line c.loop.reader c.loop.writer)) c.loop.invariant.first c.loop.invariant.goes;
      long = subst (λ m. m ≤ (held_of c.loop.line.requester).last) c.loop.invariant.first there;
    }

pub returns-then-is_end-clause-stopped : goal.returns-then-is_end-clause-stopped
returns-then-is_end-clause-stopped g c =
    let ended : is_end c.loop.line.quiet ≡ true = search rules in
    λ other. inr (record {
      first = c.in-Ok.ensures.turned.turn;
      begun = (shown g.C.Ticks.to_come g.R.Read.remaining g.W.Write.contents c.take_turn.new.line c.take_turn.new.reader c.take_turn.new.writer);
      turned = c.in-Ok.ensures.turned.turned;
      stops =
          subst (λ m. Stops (IsEarly m) LineEnded (shown g.C.Ticks.to_come g.R.Read.remaining g.W.Write.contents c.take_turn.new.line c.take_turn.new.reader c.take_turn.new.writer) (shown g.C.Ticks.to_come g.R.Read.remaining g.W.Write.contents c.loop.line c.loop.reader c.loop.writer)) c.loop.invariant.first
          (stops (IsEarly (c.get.result + c.args.span)) LineEnded
          (shown g.C.Ticks.to_come g.R.Read.remaining g.W.Write.contents c.take_turn.new.line c.take_turn.new.reader c.take_turn.new.writer)
          (shown g.C.Ticks.to_come g.R.Read.remaining g.W.Write.contents c.loop.line c.loop.reader c.loop.writer)
          (shown g.C.Ticks.to_come g.R.Read.remaining g.W.Write.contents c.loop.line c.loop.reader c.loop.writer)
          c.loop.invariant.goes (Keeps-refl (g.W.Write.contents c.loop.writer.inner)) ended);
    })

pub returns-in-Err-take_turn-clause-stopped : goal.returns-in-Err-take_turn-clause-stopped
returns-in-Err-take_turn-clause-stopped g c =
    λ other. inr (record {
      first = c.in-Ok.ensures.turned.turn;
      begun = (shown g.C.Ticks.to_come g.R.Read.remaining g.W.Write.contents c.take_turn.new.line c.take_turn.new.reader c.take_turn.new.writer);
      turned = c.in-Ok.ensures.turned.turned;
      stops =
          subst (λ m. Stops (IsEarly m) c.in-Err-take_turn.fault (shown g.C.Ticks.to_come g.R.Read.remaining g.W.Write.contents c.take_turn.new.line c.take_turn.new.reader c.take_turn.new.writer) (shown g.C.Ticks.to_come g.R.Read.remaining g.W.Write.contents c.take_turn-in-loop.new.line c.take_turn-in-loop.new.reader c.take_turn-in-loop.new.writer)) c.loop.invariant.first
          (stops (IsEarly (c.get.result + c.args.span)) c.in-Err-take_turn.fault
          (shown g.C.Ticks.to_come g.R.Read.remaining g.W.Write.contents c.take_turn.new.line c.take_turn.new.reader c.take_turn.new.writer)
          (shown g.C.Ticks.to_come g.R.Read.remaining g.W.Write.contents c.loop.line c.loop.reader c.loop.writer)
          (shown g.C.Ticks.to_come g.R.Read.remaining g.W.Write.contents c.take_turn-in-loop.new.line c.take_turn-in-loop.new.reader c.take_turn-in-loop.new.writer)
          c.loop.invariant.goes (c.in-Err-take_turn.ensures.kept other) (failed_turn c.in-Err-take_turn.fault c.loop.invariant.goes.turns (shown g.C.Ticks.to_come g.R.Read.remaining g.W.Write.contents c.loop.line c.loop.reader c.loop.writer) (shown g.C.Ticks.to_come g.R.Read.remaining g.W.Write.contents c.take_turn-in-loop.new.line c.take_turn-in-loop.new.reader c.take_turn-in-loop.new.writer) c.in-Err-take_turn.ensures.reason));
    })

pub loop-preserved : goal.loop-preserved
loop-preserved g c =
    let going : is_end c.loop.line.quiet ≡ false = search rules in
    let early : (held_of c.loop.line.requester).last < c.get.result + c.args.span = search rules in
    record {
      goes =
          goes_on (IsEarly (c.get.result + c.args.span))
          (shown g.C.Ticks.to_come g.R.Read.remaining g.W.Write.contents c.take_turn.new.line c.take_turn.new.reader c.take_turn.new.writer)
          (shown g.C.Ticks.to_come g.R.Read.remaining g.W.Write.contents c.loop.line c.loop.reader c.loop.writer)
          (shown g.C.Ticks.to_come g.R.Read.remaining g.W.Write.contents c.take_turn-in-loop.new.line c.take_turn-in-loop.new.reader c.take_turn-in-loop.new.writer)
          c.loop.invariant.goes (going, early) c.in-Ok-take_turn.ensures.turned;
      first = c.loop.invariant.first;
      count = one_more c.in-Ok-take_turn.ensures.turned.turn c.loop.invariant.goes.turns c.loop.counter c.loop.invariant.count;
      flushed = search rules;
      reads = search rules;
      writes = search rules;
    }

pub returns-clause-stopped : goal.returns-clause-stopped
returns-clause-stopped g c =
    λ other. inr (record {
      first = c.in-Ok.ensures.turned.turn;
      begun = (shown g.C.Ticks.to_come g.R.Read.remaining g.W.Write.contents c.take_turn.new.line c.take_turn.new.reader c.take_turn.new.writer);
      turned = c.in-Ok.ensures.turned.turned;
      stops =
          subst (λ m. Stops (IsEarly m) TooMany (shown g.C.Ticks.to_come g.R.Read.remaining g.W.Write.contents c.take_turn.new.line c.take_turn.new.reader c.take_turn.new.writer) (shown g.C.Ticks.to_come g.R.Read.remaining g.W.Write.contents c.loop.line c.loop.reader c.loop.writer)) c.loop.invariant.first
          (stops (IsEarly (c.get.result + c.args.span)) TooMany
          (shown g.C.Ticks.to_come g.R.Read.remaining g.W.Write.contents c.take_turn.new.line c.take_turn.new.reader c.take_turn.new.writer)
          (shown g.C.Ticks.to_come g.R.Read.remaining g.W.Write.contents c.loop.line c.loop.reader c.loop.writer)
          (shown g.C.Ticks.to_come g.R.Read.remaining g.W.Write.contents c.loop.line c.loop.reader c.loop.writer)
          c.loop.invariant.goes (Keeps-refl (g.W.Write.contents c.loop.writer.inner)) (omega arith));
    })
