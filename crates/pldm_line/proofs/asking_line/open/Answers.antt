-- One turn further, while no request may be opened.
use Rattle.std.proofs.Common.{◌≡◌, ℕ, true, false, Option, inl, inr, refl, ap, subst, rules, arith}
use Rattle.std.proofs.KnownBytes.{Keeps-refl}
use Rattle.pldm_line.proofs.Going.{failed_turn, goes_nowhere, goes_on, one_more, refused, stops}
use Rattle.pldm_line.specs.Asked.{OpensNow, asking_of, shown}
use Rattle.pldm_line.specs.Ends.{IsRefused}
use Rattle.pldm_line.specs.Turns.{is_end}
use Rattle.pldm_line.specs.declared.ask_fault.AskFault.TheVariants.{LineEnded, TooMany}
use Rattle.pldm_line.proofs.asking_line.open.Goals as goal

pub loop-init : goal.loop-init
loop-init g c = record {
  goes =
      goes_nowhere IsRefused
      (shown g.C.Ticks.to_come g.R.Read.remaining g.W.Write.contents c.args.line.now c.args.reader.now c.args.writer.now);
  count = refl;
  flushed = λ was. was;
  reads = search rules;
  writes = search rules;
}

pub returns-then-is_end-clause-stopped : goal.returns-then-is_end-clause-stopped
returns-then-is_end-clause-stopped g c =
    let ended : is_end c.loop.line.quiet ≡ true = search rules in
    λ other. inl (
    stops IsRefused LineEnded
    (shown g.C.Ticks.to_come g.R.Read.remaining g.W.Write.contents c.args.line.now c.args.reader.now c.args.writer.now)
    (shown g.C.Ticks.to_come g.R.Read.remaining g.W.Write.contents c.loop.line c.loop.reader c.loop.writer)
    (shown g.C.Ticks.to_come g.R.Read.remaining g.W.Write.contents c.loop.line c.loop.reader c.loop.writer)
    c.loop.invariant.goes (Keeps-refl (g.W.Write.contents c.loop.writer.inner)) ended)

pub returns-in-Err-clause-stopped : goal.returns-in-Err-clause-stopped
returns-in-Err-clause-stopped g c =
    λ other. inr (record {
      last = (shown g.C.Ticks.to_come g.R.Read.remaining g.W.Write.contents c.loop.line c.loop.reader c.loop.writer);
      goes = c.loop.invariant.goes;
      kept = (c.in-Err.ensures.kept other).1;
      no_memory = (c.in-Err.ensures.kept other).0;
      accepted = (c.in-Err.ensures.room other).0;
      grows = (c.in-Err.ensures.room other).1;
    })

pub returns-in-Some-clause-opened : goal.returns-in-Some-clause-opened
returns-in-Some-clause-opened g c = record {
  free = (shown g.C.Ticks.to_come g.R.Read.remaining g.W.Write.contents c.loop.line c.loop.reader c.loop.writer);
  waited = c.loop.invariant.goes;
  opened =
      subst (λ (o : Option ℕ). OpensNow c.args.command.now o (asking_of c.loop.line) (asking_of c.open_now.new.line)
      (g.W.Write.contents c.loop.writer.inner) (g.W.Write.contents c.open_now.new.writer.inner)) c.in-Some.is c.in-Ok.ensures.opened;
  left = refl;
  clock = ap g.C.Ticks.to_come c.in-Ok.ensures.ticks;
}

pub returns-in-Err-take_turn-clause-stopped : goal.returns-in-Err-take_turn-clause-stopped
returns-in-Err-take_turn-clause-stopped g c =
    let none = subst (λ (o : Option ℕ). OpensNow c.args.command.now o (asking_of c.loop.line) (asking_of c.open_now.new.line)
    (g.W.Write.contents c.loop.writer.inner) (g.W.Write.contents c.open_now.new.writer.inner)) c.in-None.is c.in-Ok.ensures.opened in
    let going : is_end c.loop.line.quiet ≡ false = search rules in
    let after = refused (shown g.C.Ticks.to_come g.R.Read.remaining g.W.Write.contents c.args.line.now c.args.reader.now c.args.writer.now)
    (shown g.C.Ticks.to_come g.R.Read.remaining g.W.Write.contents c.loop.line c.loop.reader c.loop.writer)
    (shown g.C.Ticks.to_come g.R.Read.remaining g.W.Write.contents c.open_now.new.line c.loop.reader c.open_now.new.writer)
    c.loop.invariant.goes going none.0 none.1 refl (ap g.C.Ticks.to_come c.in-Ok.ensures.ticks) none.2 in
    λ other. inl (
    stops IsRefused c.in-Err-take_turn.fault
    (shown g.C.Ticks.to_come g.R.Read.remaining g.W.Write.contents c.args.line.now c.args.reader.now c.args.writer.now)
    (shown g.C.Ticks.to_come g.R.Read.remaining g.W.Write.contents c.open_now.new.line c.loop.reader c.open_now.new.writer)
    (shown g.C.Ticks.to_come g.R.Read.remaining g.W.Write.contents c.take_turn.new.line c.take_turn.new.reader c.take_turn.new.writer)
    after.0 (c.in-Err-take_turn.ensures.kept other) (failed_turn c.in-Err-take_turn.fault after.0.turns (shown g.C.Ticks.to_come g.R.Read.remaining g.W.Write.contents c.open_now.new.line c.loop.reader c.open_now.new.writer) (shown g.C.Ticks.to_come g.R.Read.remaining g.W.Write.contents c.take_turn.new.line c.take_turn.new.reader c.take_turn.new.writer) c.in-Err-take_turn.ensures.reason))

pub loop-preserved : goal.loop-preserved
loop-preserved g c =
    let none = subst (λ (o : Option ℕ). OpensNow c.args.command.now o (asking_of c.loop.line) (asking_of c.open_now.new.line)
    (g.W.Write.contents c.loop.writer.inner) (g.W.Write.contents c.open_now.new.writer.inner)) c.in-None.is c.in-Ok.ensures.opened in
    let going : is_end c.loop.line.quiet ≡ false = search rules in
    let after = refused (shown g.C.Ticks.to_come g.R.Read.remaining g.W.Write.contents c.args.line.now c.args.reader.now c.args.writer.now)
    (shown g.C.Ticks.to_come g.R.Read.remaining g.W.Write.contents c.loop.line c.loop.reader c.loop.writer)
    (shown g.C.Ticks.to_come g.R.Read.remaining g.W.Write.contents c.open_now.new.line c.loop.reader c.open_now.new.writer)
    c.loop.invariant.goes going none.0 none.1 refl (ap g.C.Ticks.to_come c.in-Ok.ensures.ticks) none.2 in
    record {
      goes =
          goes_on IsRefused
          (shown g.C.Ticks.to_come g.R.Read.remaining g.W.Write.contents c.args.line.now c.args.reader.now c.args.writer.now)
          (shown g.C.Ticks.to_come g.R.Read.remaining g.W.Write.contents c.open_now.new.line c.loop.reader c.open_now.new.writer)
          (shown g.C.Ticks.to_come g.R.Read.remaining g.W.Write.contents c.take_turn.new.line c.take_turn.new.reader c.take_turn.new.writer)
          after.0 after.1 c.in-Ok-take_turn.ensures.turned;
      count = one_more c.in-Ok-take_turn.ensures.turned.turn c.loop.invariant.goes.turns c.loop.counter c.loop.invariant.count;
      flushed = search rules;
      reads = search rules;
      writes = search rules;
    }

pub returns-clause-stopped : goal.returns-clause-stopped
returns-clause-stopped g c =
    λ other. inl (
    stops IsRefused TooMany
    (shown g.C.Ticks.to_come g.R.Read.remaining g.W.Write.contents c.args.line.now c.args.reader.now c.args.writer.now)
    (shown g.C.Ticks.to_come g.R.Read.remaining g.W.Write.contents c.loop.line c.loop.reader c.loop.writer)
    (shown g.C.Ticks.to_come g.R.Read.remaining g.W.Write.contents c.loop.line c.loop.reader c.loop.writer)
    c.loop.invariant.goes (Keeps-refl (g.W.Write.contents c.loop.writer.inner)) (omega arith))
