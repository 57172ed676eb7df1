-- A last element that is replaced where it stands.
use Rattle.std.proofs.Common.{◌≡◌, ℕ, List, [], ◌∷◌, ◌++◌, length, take, drop, sym, ap, ◌∙◌, append-nil, drop_of_length-le, length-append, arith}
use Rattle.std.specs.Prelude.{set}
use Rattle.std.specs.List.{refill}
use Rattle.std.proofs.Math.Seq.{set-append_seam}
use Rattle.std.proofs.lemmas.List.{take_all}

refilled : {X : Type 0} (old : List X) (first last : X) → refill (length (old ++ first ∷ [])) (old ++ first ∷ []) (old ++ last ∷ []) ≡ old ++ last ∷ []
refilled old first last =
    let long = length-append old (first ∷ []) in
    let same = length-append old (last ∷ []) in
    let rest : drop (length (old ++ last ∷ [])) (old ++ first ∷ []) ≡ [] = drop_of_length-le (old ++ first ∷ []) {i = length (old ++ last ∷ [])} (omega (arith, long, same)) in
    ap (λ r. take (length (old ++ first ∷ [])) ((old ++ last ∷ []) ++ r)) rest
    ∙ ap (take (length (old ++ first ∷ []))) (append-nil (old ++ last ∷ []))
    ∙ take_all (length (old ++ first ∷ [])) (old ++ last ∷ []) (omega (arith, long, same))

pub last_placed : {X : Type 0} (old items seen : List X) (first last : X) (i : ℕ) → items ≡ old ++ first ∷ [] → seen ≡ items → length old ≡ i → refill (length items) items (set seen i last) ≡ old ++ last ∷ []
last_placed old items seen first last i is sees at =
    ap (λ s. refill (length items) items (set s i last)) (sees ∙ is)
    ∙ ap (λ n. refill (length items) items (set (old ++ first ∷ []) n last)) (sym at)
    ∙ ap (refill (length items) items) (set-append_seam old first [] last)
    ∙ ap (λ xs. refill (length xs) xs (old ++ last ∷ [])) is
    ∙ refilled old first last
