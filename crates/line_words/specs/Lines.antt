-- The words of a line.
use Rattle.std.specs.Prelude.{ℕ, ◌-◌, ◌==◌, nat_lt, Bool, if◌then◌else◌, List, [], ◌∷◌, length, take, filter, slice_index}
use Rattle.std.specs.List.{slice_split}

-- the line with one carriage return at its very end dropped
abbrev pub without_cr : List ℕ → List ℕ
without_cr line = if slice_index line (length line - 1) == 13 then take (length line - 1) line else line

-- the non-empty pieces between spaces
abbrev pub words_of : List ℕ → List (List ℕ)
words_of line = filter (λ piece. nat_lt 0 (length piece)) (slice_split (λ b. b == 32) line)

-- whether the word begins a comment, with `#`
abbrev pub is_comment : List ℕ → Bool
is_comment word = slice_index word 0 == 35

-- a comment says nothing
abbrev pub said : List (List ℕ) → List (List ℕ)
said [] = []
said (first ∷ more) = if is_comment first then [] else first ∷ more

-- the words that a line says: none where it is blank or a comment
abbrev pub said_words : List ℕ → List (List ℕ)
said_words line = said (words_of (without_cr line))
