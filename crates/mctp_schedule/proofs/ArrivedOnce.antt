-- Each instance ID stands once among those that arrived: without the oldest one, the others are left.
use Rattle.std.proofs.Common.{◌≡◌, ℕ, true, false, List, [], ◌∷◌, ◌++◌, Some, None, sym, ap, ◌∙◌, subst, eqb-true, eq-eqb, refl}
use Rattle.std.specs.Prelude.{◌==◌}
use Rattle.pldm_responder.specs.Recency.{of_number, without, IsApart}
use Rattle.pldm_responder.proofs.RecentFirst.{by_test, found_here, found_later, dropped, stays, none_later}

abbrev itself : ℕ → ℕ
itself n = n

last_is_there : (n : ℕ) (xs : List ℕ) → of_number (λ i. i) n (xs ++ n ∷ []) ≡ None → ⊥
last_is_there n [] none = let wrong : Some n ≡ None = sym (found_here itself n n [] (eq-eqb n n refl)) ∙ none in cc
last_is_there n (x ∷ xs) none = last_is_there n xs (none_later itself n x (xs ++ n ∷ []) none).1

pub without_oldest : (n : ℕ) (xs : List ℕ) → IsApart (λ i. i) (xs ++ n ∷ []) → without (λ i. i) n (xs ++ n ∷ []) ≡ xs
without_oldest n [] apart = dropped itself n n [] (eq-eqb n n refl)
without_oldest n (x ∷ xs) apart =
    by_test (x == n)
    (λ (same : (x == n) ≡ true). absurd (last_is_there n xs (subst (λ m. of_number itself m (xs ++ n ∷ []) ≡ None) (eqb-true x n same) apart.0)))
    (λ (other : (x == n) ≡ false). stays itself n x (xs ++ n ∷ []) other ∙ ap (λ ys. x ∷ ys) (without_oldest n xs apart.1))

-- what stands in front is apart too
none_before : (n : ℕ) (xs ys : List ℕ) → of_number (λ i. i) n (xs ++ ys) ≡ None → of_number (λ i. i) n xs ≡ None
none_before n [] ys none = refl
none_before n (x ∷ xs) ys none =
    let parts = none_later itself n x (xs ++ ys) none in
    found_later itself n x xs parts.0 ∙ none_before n xs ys parts.1

pub apart_before : (xs ys : List ℕ) → IsApart (λ i. i) (xs ++ ys) → IsApart (λ i. i) xs
apart_before [] ys apart = tt
apart_before (x ∷ xs) ys apart = (none_before x xs ys apart.0, apart_before xs ys apart.1)
