-- One command more was asked.
use Rattle.std.proofs.Common.{◌≡◌, ◌≤◌, [], ◌∷◌, inl, inr, length, refl, rules, subst, arith}
use Rattle.std.specs.Prelude.{IfSome}
use Rattle.mctpctl.specs.declared.statuses.TheConstants.{FAILED}
use Rattle.mctpctl.proofs.WalkedOn.{stopped_walking}
use Rattle.mctpctl.specs.WalkedTexts.{StepsOn, walk_view}
use Rattle.mctpctl.proofs.walking.ask_all.Goals as goal

pub loop-init : goal.loop-init
loop-init g c = record {
  walked = record { before = []; walked = (refl, refl) };
  count = refl;
  range = search rules;
  going = search rules;
}

pub loop-preserved : goal.loop-preserved
loop-preserved g c =
    let mid = walk_view g.C.Ticks.to_come g.R.Read.remaining g.W.Write.contents g.O.Write.contents c.loop.walk c.loop.conversation in
    let b = walk_view g.C.Ticks.to_come g.R.Read.remaining g.W.Write.contents g.O.Write.contents c.ask_next.new.walk c.ask_next.new.conversation in
    record {
      walked = record {
        before = mid ∷ c.loop.invariant.walked.before;
        walked = (
          c.loop.status,
          c.in-Some.one,
          c.loop.invariant.range,
          c.loop.invariant.walked.walked,
          subst (λ o. StepsOn o mid b) c.in-Some.is c.in-Ok.ensures.stepped,
          c.max-status.ensures,
        );
      };
      range = omega (arith, c.loop.invariant.range, c.max-status.ensures, c.if-one-eq-FAILED.false, subst (λ o. IfSome o (λ one. one ≤ FAILED)) c.in-Some.is c.in-Ok.ensures.range);
      count = omega (arith, c.loop.invariant.count);
      going = search rules;
    }

-- no answer came
pub returns-then-one-eq-FAILED-clause-walked : goal.returns-then-one-eq-FAILED-clause-walked
returns-then-one-eq-FAILED-clause-walked g c =
    let mid = walk_view g.C.Ticks.to_come g.R.Read.remaining g.W.Write.contents g.O.Write.contents c.loop.walk c.loop.conversation in
    let b = walk_view g.C.Ticks.to_come g.R.Read.remaining g.W.Write.contents g.O.Write.contents c.ask_next.new.walk c.ask_next.new.conversation in
    record {
      before = mid ∷ c.loop.invariant.walked.before;
      walked = (
        c.loop.status,
        c.in-Some.one,
        c.loop.invariant.range,
        c.loop.invariant.walked.walked,
        subst (λ o. StepsOn o mid b) c.in-Some.is c.in-Ok.ensures.stepped,
        c.max-status.ensures,
      );
      ends = inr (omega (arith, c.loop.invariant.range, c.max-status.ensures, c.if-one-eq-FAILED.true));
    }

pub returns-in-Err-clause-stopped : goal.returns-in-Err-clause-stopped
returns-in-Err-clause-stopped g c =
    stopped_walking c.in-Err.fault c.loop.status
    (walk_view g.C.Ticks.to_come g.R.Read.remaining g.W.Write.contents g.O.Write.contents c.args.walk.now c.args.conversation.now)
    (walk_view g.C.Ticks.to_come g.R.Read.remaining g.W.Write.contents g.O.Write.contents c.loop.walk c.loop.conversation)
    (walk_view g.C.Ticks.to_come g.R.Read.remaining g.W.Write.contents g.O.Write.contents c.ask_next.new.walk c.ask_next.new.conversation)
    c.loop.invariant.walked c.in-Err.ensures.stopped

pub returns-clause-stopped : goal.returns-clause-stopped
returns-clause-stopped g c =
    let all : length c.loop.invariant.walked.before ≡ 18446744073709551615 = omega arith in
    inr (record {
      before = c.loop.invariant.walked.before;
      last = (walk_view g.C.Ticks.to_come g.R.Read.remaining g.W.Write.contents g.O.Write.contents c.loop.walk c.loop.conversation);
      status = c.loop.status;
      walked = c.loop.invariant.walked.walked;
      reason = inr (refl, all);
    })
