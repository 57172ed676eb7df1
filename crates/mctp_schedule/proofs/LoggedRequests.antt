-- The requests of a log, by their numbers.
use Rattle.std.proofs.Common.{◌≡◌, ◌⊎◌, ℕ, suc, ◌<◌, ◌≤◌, Bool, true, false, List, [], ◌∷◌, Option, Some, None, refl, sym, ap, ◌∙◌, inl, inr, arith, eq-eqb, eqb-true}
use Rattle.std.specs.Prelude.{◌==◌, nat_lt, if◌then◌else◌}
use Rattle.std.proofs.lemmas.Bool.{cases_Bool, cases_eq, cond-true, cond-false, ltb-false, ltb-true, ne_eqb}
use Rattle.mctp_schedule.specs.Logs.{Asked, Happening, Opened, Delivered, Sensed, WentDown, asked_at, count_of}

pub asked_below : (log : List Happening) (k : ℕ) (r : Asked) → asked_at log k ≡ Some r → k < count_of log
asked_below [] k r e = absurd (cc)
asked_below (Opened q ∷ past) k r e = go (k == count_of past) refl e (asked_below past k r)
  where
    go : (b : Bool) → (k == count_of past) ≡ b → (if b then Some q else asked_at past k) ≡ Some r → (asked_at past k ≡ Some r → k < count_of past) → k < suc (count_of past)
    go true t e before = let same = eqb-true k (count_of past) t in omega (arith, same)
    go false t e before = let below = before e in omega (arith, below)
asked_below (Delivered _ _ ∷ past) k r e = asked_below past k r e
asked_below (Sensed _ _ _ ∷ past) k r e = asked_below past k r e
asked_below (WentDown _ ∷ past) k r e = asked_below past k r e

pub none_past : (log : List Happening) (k : ℕ) → count_of log ≤ k → asked_at log k ≡ None
none_past [] k l = refl
none_past (Opened q ∷ past) k l = cond-false (k == count_of past) (Some q) (asked_at past k) (ne_eqb k (count_of past) (λ e. absurd (omega (arith, e)))) ∙ none_past past k (omega arith)
none_past (Delivered _ _ ∷ past) k l = none_past past k l
none_past (Sensed _ _ _ ∷ past) k l = none_past past k l
none_past (WentDown _ ∷ past) k l = none_past past k l

pub asked_here : (past : List Happening) (q : Asked) → asked_at (Opened q ∷ past) (count_of past) ≡ Some q
asked_here past q = cond-true (count_of past == count_of past) (Some q) (asked_at past (count_of past)) (eq-eqb (count_of past) (count_of past) refl)

pub asked_before : (past : List Happening) (q : Asked) (k : ℕ) → k < count_of past → asked_at (Opened q ∷ past) k ≡ asked_at past k
asked_before past q k l = cond-false (k == count_of past) (Some q) (asked_at past k) (ne_eqb k (count_of past) (λ e. absurd (omega (arith, e))))

pub asked_some : (log : List Happening) (k : ℕ) → k < count_of log → (r : Asked) × (asked_at log k ≡ Some r)
asked_some [] k l = absurd (omega arith)
asked_some (Opened q ∷ past) k l = go (cases_eq k (count_of past)) (λ low. asked_some past k low)
  where
    go : (k ≡ count_of past) ⊎ (k ≡ count_of past → ⊥) → (k < count_of past → (r : Asked) × (asked_at past k ≡ Some r)) → (r : Asked) × (asked_at (Opened q ∷ past) k ≡ Some r)
    go (inl same) rest = (q, ap (asked_at (Opened q ∷ past)) same ∙ asked_here past q)
    go (inr other) rest = let low : k < count_of past = omega (arith, other) in let r = rest low in (r.0, asked_before past q k low ∙ r.1)
asked_some (Delivered _ _ ∷ past) k l = asked_some past k l
asked_some (Sensed _ _ _ ∷ past) k l = asked_some past k l
asked_some (WentDown _ ∷ past) k l = asked_some past k l

pub none_above : (log : List Happening) (k : ℕ) → asked_at log k ≡ None → count_of log ≤ k
none_above log k none = go (cases_Bool (nat_lt k (count_of log)))
  where
    go : (nat_lt k (count_of log) ≡ true) ⊎ (nat_lt k (count_of log) ≡ false) → count_of log ≤ k
    go (inl t) = let r = asked_some log k (ltb-true k (count_of log) t) in let wrong : ◌≡◌ {A = Option Asked} None (Some r.0) = sym none ∙ r.1 in absurd (cc)
    go (inr f) = ltb-false k (count_of log) f
