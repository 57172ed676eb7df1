-- A known word that is suggested.
use Rattle.std.proofs.Common.{◌≡◌, ℕ, List, ◌++◌, codes, inr}
use Rattle.std.specs.Borrow.{Bor}
use Rattle.mctpctl_explain.specs.RepeatedWords.{IsKnown, IsSuggestion}

pub suggests : (known : List (Bor (List ℕ))) (word : Bor (List ℕ)) (text : List ℕ) → IsKnown known word
    → text ≡ codes "; did you mean '" ++ (word.now ++ codes "'?") → IsSuggestion known text
suggests known word text is e = inr (word, is, e)
