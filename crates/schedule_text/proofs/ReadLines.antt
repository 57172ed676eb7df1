-- A schedule begins with its first line.
use Rattle.std.proofs.Common.{◌≡◌, ℕ, List, refl}
use Rattle.line_words.specs.TextLines.{lines_of}
use Rattle.schedule_text.specs.Schedules.{none_spelled, schedule_of, spelled_from}

pub at_first : (text : List ℕ) → schedule_of text ≡ spelled_from 1 none_spelled (lines_of text)
unfolding schedule_of
at_first text = refl
