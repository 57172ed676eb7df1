-- A line further the place is counted on; in the line that was reached it is found.
use Rattle.std.proofs.Common.{◌≡◌, ◌+◌, ◌-◌, ◌∙◌, ap, length, sym, take, arith, rules}
use Rattle.line_words.specs.TextLines.{HasNoFeed}
use Rattle.mctpctl_explain.specs.TextPlaces.{place_after}
use Rattle.mctpctl_explain.proofs.WalkedLines.{here, here_before, line_further}
use Rattle.mctpctl_explain.proofs.place.Place.at.Goals as goal
use Rattle.mctpctl_explain.proofs.place.Place.at.Goals.{in-Some+then-left-before, in_default}

pub loop-before-preserved : goal.loop-before-preserved
loop-before-preserved c =
    let next : c.saturating_add-line.result ≡ c.loop-before.line + 1 = omega arith in
    record {
      same = λ within.
          c.loop-before.invariant.same within
          ∙ ap (λ t. place_after c.loop-before.line 1 (take c.loop-before.left t)) c.in-Some.ensures.parts
          ∙ line_further c.loop-before.line c.loop-before.left c.in-Some.before.now c.in-Some.after.now c.in-Some.ensures.ended (omega arith)
          ∙ ap (λ l. place_after l 1 (take (c.loop-before.left - length c.in-Some.before.now - 1) c.in-Some.after.now)) (sym next);
      within = λ within. omega (arith, c.loop-before.invariant.within within, c.in-Some.ensures.len);
      few = omega (arith, next, c.loop-before.invariant.few, c.in-Some.ensures.len);
      first = omega arith;
      lines = omega (arith, c.loop-before.invariant.lines, ap length c.in-Some.ensures.some);
    }

pub returns-clause-place : goal.returns-clause-place
returns-clause-place c = λ within.
    let same = c.loop-before.invariant.same within in
    let column : c.saturating_add.result ≡ c.loop-before.left + 1 = omega (arith, c.loop-before.invariant.within within) in
    elim c.match-split_line.branch [
      | in-Some+then-left-before w ↦
          let line = here_before c.loop-before.line c.loop-before.left w.in-Some.before.now w.in-Some.after.now w.in-Some.ensures.ended (omega arith) in
          rw column (sym (same ∙ ap (λ t. place_after c.loop-before.line 1 (take c.loop-before.left t)) w.in-Some.ensures.parts ∙ line))
      | in_default w ↦
          let whole : HasNoFeed c.loop-before.rest.now = search rules in
          rw column (sym (same ∙ here c.loop-before.line c.loop-before.left c.loop-before.rest.now whole (c.loop-before.invariant.within within)))
    ]
