-- A line further, the line that is looked for is one sooner.
use Rattle.std.proofs.Common.{◌-◌, ◌++◌, [], ◌∷◌, ◌∙◌, length, slice_get, sym, ap, append_assoc, arith}
use Rattle.mctpctl_explain.proofs.DividedLines.{next_line}
use Rattle.mctpctl_explain.proofs.divided.numbered_line.Goals as goal

pub loop-line-preserved : goal.loop-line-preserved
loop-line-preserved c =
    let done = c.loop-line.invariant.split.0 in
    let line = c.in-Some.line.now in
    let after = c.in-Some.after.now in
    record {
      split = (
        done ++ (line ++ 10 ∷ []),
        c.loop-line.invariant.split.1 ∙ ap (λ r. done ++ r) (c.in-Some.ensures.parts ∙ sym (append_assoc line (10 ∷ []) after))
            ∙ sym (append_assoc done (line ++ 10 ∷ []) after),
      );
      same = c.loop-line.invariant.same ∙ ap (λ l. slice_get l (c.loop-line.left - 1)) c.in-Some.ensures.some ∙ next_line line _ (c.loop-line.left - 1) (omega arith);
      count = omega (arith, c.loop-line.invariant.count, ap length c.in-Some.ensures.some);
    }
