-- The first records of a list, and one more.
use native.Mathlib.Numerals.{unary_clauses}
use Rattle.std.proofs.Common.{◌≡◌, ◌<◌, ◌+◌, ◌++◌, ℕ, List, [], ◌∷◌, length, ap, sym, ◌∙◌}
use Rattle.std.proofs.Math.Seq.{take-suc}
use Rattle.std.proofs.lemmas.Option.{unwrap_or-slice_get}
use Rattle.std.specs.Prelude.{slice_get, take, unwrap_or}

pub one_more : (xs : List (List ℕ)) (place : ℕ) (copied : List (List ℕ)) → place < length xs → copied ≡ take place xs
    → copied ++ unwrap_or (slice_get xs place) [] ∷ [] ≡ take (place + 1) xs
one_more xs place copied within so = simp unary_clauses
    (ap (λ t. t ++ unwrap_or (slice_get xs place) [] ∷ []) so
    ∙ ap (λ x. take place xs ++ x ∷ []) (unwrap_or-slice_get xs place [])
    ∙ sym (take-suc xs place [] within))
