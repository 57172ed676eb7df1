-- Words as an explanation repeats them.
use Rattle.std.specs.Prelude.{◌≡◌, ◌⊎◌, ℕ, List, [], ◌++◌, codes, slice_get, Some}
use Rattle.std.specs.Borrow.{Bor}

-- something between quotes
abbrev pub IsQuoted : List ℕ → Type 0
IsQuoted text = (shown : List ℕ) × (text ≡ codes "'" ++ (shown ++ codes "'"))

-- one of the known words
abbrev pub IsKnown : List (Bor (List ℕ)) → Bor (List ℕ) → Type 0
IsKnown known word = (place : ℕ) × (slice_get known place ≡ Some word)

-- nothing, or a question that names one of the known words
abbrev pub IsSuggestion : List (Bor (List ℕ)) → List ℕ → Type 0
IsSuggestion known text =
    (text ≡ [])
    ⊎ ((word : Bor (List ℕ)) × IsKnown known word × (text ≡ codes "; did you mean '" ++ (word.now ++ codes "'?")))
