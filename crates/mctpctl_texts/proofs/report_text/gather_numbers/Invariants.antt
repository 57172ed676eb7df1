-- The numbers so far have been gathered.
use Rattle.std.proofs.Common.{◌≡◌, take}
use Rattle.std.specs.Io.KnownBytes.{Appends}
use Rattle.mctpctl_texts.specs.EntryTexts.{numbers_text}
use Rattle.mctpctl_texts.specs.Gathering.{in_all}
use Rattle.mctpctl_texts.proofs.report_text.gather_numbers.Given as goal

abbrev pub invariant-loop-i : goal.invariant-loop-i
invariant-loop-i g l =
    Appends (in_all g.O.TextWriter.contents l.initial.out l.initial.page) (in_all g.O.TextWriter.contents l.out l.page) (numbers_text (take l.i l.numbers))
    × (g.O.TextWriter.failed l.out ≡ g.O.TextWriter.failed l.initial.out)
