-- The place of what is left, counted on from the line that was reached, is that of the byte. What is left becomes less.
use Rattle.std.proofs.Common.{◌≡◌, ◌+◌, ◌≤◌, length, take}
use Rattle.line_words.specs.TextLines.{lines_of}
use Rattle.mctpctl_explain.specs.TextPlaces.{place_after}
use Rattle.mctpctl_explain.proofs.place.Place.at.Given as goal

abbrev pub invariant-loop-before : goal.invariant-loop-before
invariant-loop-before l = record {
  same : l.offset ≤ length l.text → place_after 1 1 (take l.offset l.text) ≡ place_after l.line 1 (take l.left l.rest);
  within : l.offset ≤ length l.text → l.left ≤ length l.rest;
  few : l.line + length l.rest ≤ length l.text + 1;
  first : 1 ≤ l.line;
  lines : l.line + length (lines_of l.rest) ≡ length (lines_of l.text) + 1;
}

abbrev pub decreases-loop-before : goal.decreases-loop-before
decreases-loop-before l = length l.rest
