-- The line that is looked for is among those that are left. What is left becomes less.
use Rattle.std.proofs.Common.{◌≡◌, ℕ, ◌+◌, ◌-◌, List, ◌++◌, length, slice_get}
use Rattle.line_words.specs.TextLines.{lines_of}
use Rattle.mctpctl_explain.proofs.divided.numbered_line.Given as goal

abbrev pub invariant-loop-line : goal.invariant-loop-line
invariant-loop-line l = record {
  split : (done : List ℕ) × (l.lines ≡ done ++ l.rest);
  same : slice_get (lines_of l.lines) (l.number - 1) ≡ slice_get (lines_of l.rest) (l.left - 1);
  count : length (lines_of l.lines) + l.left ≡ length (lines_of l.rest) + l.number;
}

abbrev pub decreases-loop-line : goal.decreases-loop-line
decreases-loop-line l = length l.rest
