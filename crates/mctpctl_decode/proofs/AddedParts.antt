-- A text that is added part by part.
use Rattle.std.proofs.Common.{◌≡◌, ℕ, List, ◌++◌, Result, Ok, Err, OnOk, ap, ◌∙◌, append_assoc}

-- what is added last comes after what was added before
pub and_last : {E : Type 0} (result : Result Unit E) (old now new front back : List ℕ)
    → now ≡ old ++ front → OnOk result (new ≡ now ++ back) → OnOk result (new ≡ old ++ (front ++ back))
and_last (Ok done) old now new front back first last = last ∙ ap (λ l. l ++ back) first ∙ append_assoc old front back
and_last (Err fault) old now new front back first last = tt
