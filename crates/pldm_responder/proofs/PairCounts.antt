-- Pairs that pass a test are counted in one way only.
use Rattle.std.proofs.Common.{◌≡◌, ℕ, ◌||◌, List, [], ◌∷◌, refl, sym, ◌∙◌}
use Rattle.std.specs.Cmp.{IsEquivalence, nat_eq_equiv, on_equiv, and_equiv}
use Rattle.std.specs.List.{list_any}
use Rattle.std.specs.Set.{is_member}
use Rattle.std.proofs.lemmas.Map.Made.{length-from_same_keys}
use Rattle.pldm_responder.specs.Laws.{OneCount}
use Rattle.pldm_responder.specs.Counts.{is_pair}

pair_equiv : IsEquivalence is_pair
pair_equiv =
    and_equiv (on_equiv (λ (p : ℕ × ℕ). p.0) nat_eq_equiv) (on_equiv (λ (p : ℕ × ℕ). p.1) nat_eq_equiv)

turned : (pair : ℕ × ℕ) (pairs : List (ℕ × ℕ)) → is_member is_pair pairs pair ≡ list_any (λ p. is_pair p pair) pairs
turned pair [] = refl
turned pair (p ∷ pairs) = λ i. pair_equiv.symm pair p i || turned pair pairs i

pub one_count : OneCount
one_count test m n one other =
    one.all
    ∙ length-from_same_keys pair_equiv one.pairs other.pairs one.once other.once (λ pair. turned pair one.pairs ∙ sym (one.each pair.0 pair.1) ∙ other.each pair.0 pair.1 ∙ sym (turned pair other.pairs))
    ∙ sym other.all
