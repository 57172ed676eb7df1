-- A line that does not divide is of the description; the lines after one that does are those that are left.
use Rattle.std.proofs.Common.{◌≡◌, ◌+◌, true, false, arith, rules}
use Rattle.line_words.specs.TextLines.{lines_of}
use Rattle.mctpctl_input.specs.TextLines.{is_divider}
use Rattle.mctpctl_explain.proofs.DividedLines.{capture_here, goes_on, own_lines}
use Rattle.mctpctl_explain.proofs.divided.Divided.new.Goals as goal

pub returns-then-is_divider-clause-lines : goal.returns-then-is_divider-clause-lines
returns-then-is_divider-clause-lines c =
    let here : is_divider c.in-Some.line.now ≡ true = search rules in
    rw
    (capture_here c.args.input.now c.loop-line.rest.now c.loop-line.lines_before c.loop-line.invariant.0 c.in-Some.line.now
    (lines_of c.in-Some.after.now) c.in-Some.ensures.some here)
    (own_lines c.in-Some.after.now)

pub loop-line-preserved : goal.loop-line-preserved
loop-line-preserved c =
    let stays : is_divider c.in-Some.line.now ≡ false = search rules in
    let next : c.saturating_add-lines_before.result ≡ c.loop-line.lines_before + 1 = omega arith in (
      rw next
          (goes_on c.args.input.now c.loop-line.rest.now c.in-Some.line.now c.in-Some.after.now c.loop-line.lines_before
          c.loop-line.invariant.0 c.in-Some.ensures.parts c.in-Some.ensures.some stays),
      omega (arith, c.loop-line.invariant.1, c.in-Some.ensures.len),
    )
