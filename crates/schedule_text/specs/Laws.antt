-- What is read of a line is what its words spell.
use Rattle.std.specs.Prelude.{◌≡◌, ◌↔◌, ℕ, List, Ok}
use Rattle.schedule_text.specs.LineSpelling.{SpellsLine}
use Rattle.schedule_text.specs.LineWords.{line_of}
use Rattle.schedule_text.specs.SaidLines.{Line}

-- a line is read as something exactly where its words spell that
abbrev pub ReadAsSpelled : Type 0
ReadAsSpelled = (words : List (List ℕ)) (line : Line) → (line_of words ≡ Ok line) ↔ SpellsLine line words
