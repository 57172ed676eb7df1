-- The text that was written is that of the numbers so far, and the writer works as before.
use Rattle.std.proofs.Common.{◌≡◌, take}
use Rattle.std.specs.Io.KnownBytes.{Appends}
use Rattle.mctpctl_texts.specs.EntryTexts.{numbers_text}
use Rattle.mctpctl_texts.proofs.parts.write_numbers.Given as goal

abbrev pub invariant-loop-i : goal.invariant-loop-i
invariant-loop-i g l =
    Appends (g.O.TextWriter.contents l.initial.out) (g.O.TextWriter.contents l.out) (numbers_text (take l.i l.numbers))
    × (g.O.TextWriter.failed l.out ≡ g.O.TextWriter.failed l.initial.out)
