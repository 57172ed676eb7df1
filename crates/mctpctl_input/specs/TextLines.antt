-- The line that divides an input into a device description and a capture.
use Rattle.std.specs.Prelude.{ℕ, Bool, if◌then◌else◌, List, [], ◌∷◌, ◌++◌, codes, bytes_eq, Option, None, Some}
use Rattle.line_words.specs.Lines.{without_cr}

abbrev pub is_divider : List ℕ → Bool
is_divider line = bytes_eq (without_cr line) (codes "%%")

-- the lines after the first divider
abbrev pub capture_lines : List (List ℕ) → Option (List (List ℕ))
capture_lines [] = None
capture_lines (line ∷ more) = if is_divider line then Some more else capture_lines more

-- the bytes before the first divider line, the line feed before it among them; all bytes where no line divides
abbrev pub description_of : List (List ℕ) → List ℕ
description_of [] = []
description_of (line ∷ []) = if is_divider line then [] else line
description_of (line ∷ next ∷ more) = if is_divider line then [] else line ++ 10 ∷ description_of (next ∷ more)
