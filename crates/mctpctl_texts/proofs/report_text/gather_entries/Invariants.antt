-- The text so far, and then that of the steps to come, is that of all steps.
use Rattle.std.proofs.Common.{◌≡◌, ℕ, ◌+◌, List, ◌++◌, length}
use Rattle.std.specs.Io.KnownBytes.{Appends}
use Rattle.mctpctl_texts.specs.Gathering.{in_all}
use Rattle.mctpctl_texts.specs.EntryTexts.{entries_text}
use Rattle.mctpctl_texts.proofs.ItemTexts.{entries_at}
use Rattle.mctpctl_texts.proofs.report_text.gather_entries.Given as goal

abbrev pub invariant-loop-line : goal.invariant-loop-line
invariant-loop-line g l = record {
  text : List ℕ;
  written : Appends (in_all g.O.TextWriter.contents l.initial.out l.initial.page) (in_all g.O.TextWriter.contents l.out l.page) text;
  works : g.O.TextWriter.failed l.out ≡ g.O.TextWriter.failed l.initial.out;
  whole : text ++ entries_at l.moments l.rest ≡ entries_text l.steps l.entries;
  moments_left : l._line + length l.moments ≡ length l.steps;
  entries_left : l._line + length l.rest ≡ length l.entries;
}
