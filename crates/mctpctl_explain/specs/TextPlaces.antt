-- The lines and columns of a text.
use Rattle.std.specs.Prelude.{◌≡◌, ◌⊎◌, ◌≤◌, ℕ, ◌+◌, ◌==◌, if◌then◌else◌, List, [], ◌∷◌, ◌++◌, codes, length, take}
use Rattle.std.specs.Fmt.{decimal}
use Rattle.line_words.specs.TextLines.{lines_of}
use Rattle.mctpctl_explain.specs.declared.place.Place.{Place}
use Rattle.mctpctl_explain.specs.declared.places.Places.{Places}

-- the place behind these bytes, which begin at this line and column: a line feed ends a line
abbrev pub place_after : ℕ → ℕ → List ℕ → Place
place_after line column [] = record { line = line; column = column }
place_after line column (byte ∷ more) =
    if byte == 10 then place_after (line + 1) 1 more else place_after line (column + 1) more

-- the place of the byte with this number
abbrev pub place_at : List ℕ → ℕ → Place
place_at text offset = place_after 1 1 (take offset text)

-- the text has a line of this number, counted from 1
abbrev pub IsLineOf : List ℕ → ℕ → Type 0
IsLineOf text line = (1 ≤ line) × (line ≤ length (lines_of text))

-- the place in words
abbrev pub place_bytes : Place → List ℕ
place_bytes place = codes "line " ++ (decimal place.line ++ (codes ", column " ++ decimal place.column))

-- the description whose keys these are
abbrev pub text_in : Places → List ℕ
text_in places = places.description.now

-- nothing, or a place in a line of the text and a colon
abbrev pub IsFront : List ℕ → List ℕ → Type 0
IsFront text front =
    (front ≡ []) ⊎ ((place : Place) × IsLineOf text place.line × (front ≡ place_bytes place ++ codes ": "))
