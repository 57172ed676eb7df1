-- The lines of a text.
use Rattle.std.specs.Prelude.{◌≡◌, ℕ, ◌==◌, false, List, All}
use Rattle.std.specs.List.{slice_split}

-- the pieces between line feeds; what follows the last line feed is a line too, and may be empty
abbrev pub lines_of : List ℕ → List (List ℕ)
lines_of text = slice_split (λ b. b == 10) text

-- no byte of it is a line feed
abbrev pub HasNoFeed : List ℕ → Type 0
HasNoFeed text = All (λ b. (b == 10) ≡ false) text
