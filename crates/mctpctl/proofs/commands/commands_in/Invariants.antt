-- The commands of the lines so far, and the rest is to be read.
use Rattle.std.proofs.Common.{◌≡◌, ◌≤◌, ◌+◌, length}
use Rattle.line_words.specs.TextLines.{lines_of}
use Rattle.mctpctl.specs.AskedCommands.{commands_from, commands_of}
use Rattle.mctpctl.proofs.commands.commands_in.Given as goal

abbrev pub invariant-loop-line : goal.invariant-loop-line
invariant-loop-line l = record {
  read : commands_of l.text ≡ commands_from l.number l.commands.items (lines_of l.rest);
  size : l.number + length l.rest ≤ length l.text + 1;
}

abbrev pub decreases-loop-line : goal.decreases-loop-line
decreases-loop-line l = length l.rest
