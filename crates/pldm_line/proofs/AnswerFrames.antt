-- The frames of an answer, packet after packet.
use Rattle.std.proofs.Common.{◌≡◌, ℕ, ◌+◌, List, [], ◌∷◌, ◌++◌, map, sym, ap, zero-add, append-nil, ◌∙◌}
use Rattle.std.specs.List.{flat_map, range_with_len}
use Rattle.std.proofs.lemmas.Grind.{flat_map-append}
use Rattle.std.proofs.lemmas.List.FromFn.{map-range_with_len_more}

-- one thing more, and its text
pub more_seen : {A : Type 0} (text : A → List ℕ) (f : ℕ → A) (i : ℕ) (old new : List ℕ)
    → old ≡ flat_map text (map f (range_with_len 0 i)) → new ≡ old ++ text (f i)
    → new ≡ flat_map text (map f (range_with_len 0 (i + 1)))
more_seen text f i old new so_far added =
    let front = map f (range_with_len 0 i) in
    added
    ∙ ap (λ l. l ++ text (f i)) so_far
    ∙ ap (λ l. flat_map text front ++ l) (sym (append-nil (text (f i))))
    ∙ sym (flat_map-append text front (f i ∷ []))
    ∙ ap (flat_map text) (sym (map-range_with_len_more f 0 i i (zero-add i)))
