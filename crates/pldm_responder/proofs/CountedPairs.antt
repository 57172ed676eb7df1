-- Pairs of a source and an instance ID that pass a test are counted one more at a time, and are few where they can be
-- numbered without a gap.
use Rattle.std.proofs.Common.{◌≡◌, ℕ, ◌+◌, ◌<◌, ◌≤◌, Bool, true, false, ◌&&◌, ◌||◌, ◌==◌, eqb, List, [], ◌∷◌, length, map, refl, sym, ap, ◌∙◌, arith, eqb-true, eq-eqb}
use Rattle.std.specs.List.{list_any, AllByRecursion, IsDistinct}
use Rattle.std.proofs.lemmas.Bool.{ne_eqb}
use Rattle.std.proofs.lemmas.Map.Steps.{length-le_from_distinct_below}
use Rattle.std.proofs.lemmas.List.{length-map}
use Rattle.pldm_responder.specs.Counts.{is_pair, CountsPairs}

-- ---- one more
pair_turned : (a b c d : ℕ) → (a == b && c == d) ≡ false → (b == a && d == c) ≡ false
pair_turned a b c d h = grind arith

pub none_any : (pair : ℕ × ℕ) (pairs : List (ℕ × ℕ)) → false ≡ list_any (λ p. is_pair p pair) pairs → AllByRecursion (λ p. is_pair pair p ≡ false) pairs
none_any pair [] h = tt
none_any pair (p ∷ pairs) h =
    let parts = neither (is_pair p pair) (list_any (λ q. is_pair q pair) pairs) h in
    (pair_turned p.0 pair.0 p.1 pair.1 parts.0, none_any pair pairs parts.1)
  where
    neither : (a b : Bool) → false ≡ (a || b) → (a ≡ false) × (false ≡ b)
    neither true b h = cc
    neither false b h = (refl, h)

pub counts_one_more : (test more : ℕ → ℕ → Bool) (count source id : ℕ) → CountsPairs test count → test source id ≡ false
    → ((other i : ℕ) → more other i ≡ (is_pair (source, id) (other, i) || test other i)) → CountsPairs more (count + 1)
unfolding IsDistinct
counts_one_more test more count source id counts none with_it = record {
  pairs = (source, id) ∷ counts.pairs;
  each = λ other i. with_it other i ∙ ap (λ later. is_pair (source, id) (other, i) || later) (counts.each other i);
  once = (none_any (source, id) counts.pairs (sym none ∙ counts.each source id), counts.once);
  all = ap (λ n. n + 1) counts.all ∙ one_longer counts.pairs;
}
  where
    one_longer : (pairs : List (ℕ × ℕ)) → length pairs + 1 ≡ length ((0, 0) ∷ pairs)
    one_longer pairs = omega arith

pub counts_as_before : (test same : ℕ → ℕ → Bool) (count : ℕ) → CountsPairs test count → ((other i : ℕ) → same other i ≡ test other i)
    → CountsPairs same count
counts_as_before test same count counts alike = record {
  pairs = counts.pairs;
  each = λ other i. alike other i ∙ counts.each other i;
  once = counts.once;
  all = counts.all;
}

-- ---- they are few
module _ (test : ℕ → ℕ → Bool) (number : ℕ → ℕ → ℕ) (most : ℕ)
    (low : (source id : ℕ) → test source id ≡ true → number source id < most)
    (apart : (s i t j : ℕ) → test s i ≡ true → test t j ≡ true → number s i ≡ number t j → (s ≡ t) × (i ≡ j)) where
  abbrev passes : ℕ × ℕ → Type 0
  passes p = test p.0 p.1 ≡ true

  abbrev number_of : ℕ × ℕ → ℕ
  number_of p = number p.0 p.1

  all_pass : (pairs : List (ℕ × ℕ)) → ((p : ℕ × ℕ) → list_any (λ q. is_pair q p) pairs ≡ true → passes p) → AllByRecursion passes pairs
  all_pass [] h = tt
  all_pass (p ∷ pairs) h =
      let itself : is_pair p p ≡ true = rw (eq-eqb p.0 p.0 refl, eq-eqb p.1 p.1 refl) refl in
      (h p (ap (λ t. t || list_any (λ q. is_pair q p) pairs) itself), all_pass pairs (λ q later. h q (either_true (is_pair p q) (list_any (λ r. is_pair r q) pairs) later)))
    where
      either_true : (a b : Bool) → b ≡ true → (a || b) ≡ true
      either_true true b e = refl
      either_true false b e = e

  numbers_apart : (p : ℕ × ℕ) (pairs : List (ℕ × ℕ)) → passes p → AllByRecursion passes pairs → AllByRecursion (λ q. is_pair p q ≡ false) pairs
      → AllByRecursion (λ n. eqb (number_of p) n ≡ false) (map number_of pairs)
  numbers_apart p [] is are h = tt
  numbers_apart p (q ∷ pairs) is are h =
      (ne_eqb (number_of p) (number_of q) (λ same. let e = apart p.0 p.1 q.0 q.1 is are.0 same in clash e.0 e.1 h.0), numbers_apart p pairs is are.1 h.1)
    where
      clash : p.0 ≡ q.0 → p.1 ≡ q.1 → is_pair p q ≡ false → ⊥
      clash s i f = let alike : is_pair p q ≡ true = rw (eq-eqb p.0 q.0 s, eq-eqb p.1 q.1 i) refl in cc

  distinct : (pairs : List (ℕ × ℕ)) → AllByRecursion passes pairs → IsDistinct is_pair pairs → IsDistinct eqb (map number_of pairs)
  unfolding IsDistinct
  distinct [] are h = tt
  distinct (p ∷ pairs) are h = (numbers_apart p pairs are.0 are.1 h.0, distinct pairs are.1 h.1)

  below_by : (t : Bool) (q : ℕ) (p : ℕ × ℕ) (rest : Bool) → (q == number_of p) ≡ t → passes p → (rest ≡ true → q < most) → (t || rest) ≡ true → q < most
  below_by true q p rest h is later any = omega (arith, eqb-true q (number_of p) h, low p.0 p.1 is)
  below_by false q p rest h is later any = later any

  below : (pairs : List (ℕ × ℕ)) → AllByRecursion passes pairs → (q : ℕ) → list_any (eqb q) (map number_of pairs) ≡ true → q < most
  below [] are q any = cc
  below (p ∷ pairs) are q any =
      below_by (q == number_of p) q p (list_any (eqb q) (map number_of pairs)) refl are.0 (below pairs are.1 q) any

  pub few_pairs : (count : ℕ) → CountsPairs test count → count ≤ most
  few_pairs count counts =
      let are = all_pass counts.pairs (λ p any. counts.each p.0 p.1 ∙ any) in
      rw (counts.all, ← length-map counts.pairs number_of) (length-le_from_distinct_below (map number_of counts.pairs) most (distinct counts.pairs are counts.once) (below counts.pairs are))
