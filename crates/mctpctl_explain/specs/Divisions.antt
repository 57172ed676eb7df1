-- The two parts of an input.
use Rattle.std.specs.Prelude.{◌≡◌, ℕ, suc, if◌then◌else◌, List, [], ◌∷◌, Option, Some, None}
use Rattle.line_words.specs.TextLines.{lines_of}
use Rattle.mctpctl_input.specs.TextLines.{is_divider}

-- how many lines there are up to the first one that divides, it among them
abbrev pub lines_to_divider : List (List ℕ) → ℕ
lines_to_divider [] = 0
lines_to_divider (line ∷ more) = if is_divider line then 1 else suc (lines_to_divider more)

-- these are the lines of the text; a text that ends with its divider has none after it
abbrev pub AreLines : Option (List (List ℕ)) → List ℕ → Type 0
AreLines None text = ⊥
AreLines (Some []) text = text ≡ []
AreLines (Some (line ∷ more)) text = lines_of text ≡ line ∷ more
