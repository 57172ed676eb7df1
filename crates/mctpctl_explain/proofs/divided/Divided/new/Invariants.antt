-- No line so far divides. What is left becomes less.
use Rattle.std.proofs.Common.{◌+◌, ◌≤◌, length}
use Rattle.mctpctl_explain.proofs.DividedLines.{LeftToDivide}
use Rattle.mctpctl_explain.proofs.divided.Divided.new.Given as goal

abbrev pub invariant-loop-line : goal.invariant-loop-line
invariant-loop-line l = LeftToDivide l.input l.rest l.lines_before × (l.lines_before + length l.rest ≤ length l.input)

abbrev pub decreases-loop-line : goal.decreases-loop-line
decreases-loop-line l = length l.rest
