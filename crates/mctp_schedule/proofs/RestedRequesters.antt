-- Requesters at one endpoint, each of which begins anew where the one before it was: what two of them opened was opened twice
-- the keeping time apart, the later one's later.
use Rattle.std.proofs.Common.{◌≡◌, ◌≢◌, ◌⊎◌, ℕ, ◌+◌, ◌*◌, ◌<◌, ◌≤◌, List, [], ◌∷◌, Some, sym, ap, ◌∙◌, subst, inl, inr, arith}
use Rattle.mctp_packet.specs.Ids.{IsEid}
use Rattle.mctp_schedule.specs.Logs.{Asked, Happening, Opened, Delivered, Sensed, WentDown, AreRested, asked_at, count_of, endpoint_of}
use Rattle.mctp_schedule.proofs.FirstPerformed.{request_below, request_older, request_opened}
use Rattle.mctp_schedule.proofs.LoggedRequests.{asked_here}

pub rested_less : (keep : ℕ) (h : Happening) (log : List Happening) → AreRested keep (h ∷ log) → AreRested keep log
rested_less keep (Opened r) log rested = rested.1
rested_less keep (Delivered moment k) log rested = rested
rested_less keep (Sensed moment id value) log rested = rested
rested_less keep (WentDown moment) log rested = rested

-- one requester, and another one after it
pub record IsAfter (keep : ℕ) (r q : Asked) : Type 0 where
  pub later : r.source < q.source
  pub rested : r.opening + 2 * keep ≤ q.opening

pub one_after_another : (keep : ℕ) (log : List Happening) → AreRested keep log → (k j : ℕ) (r q : Asked) → asked_at log k ≡ Some r → asked_at log j ≡ Some q → endpoint_of q.source ≡ endpoint_of r.source → q.source ≢ r.source → IsAfter keep r q ⊎ IsAfter keep q r
one_after_another keep [] a k j r q e f s ne = absurd (cc)
one_after_another keep (Delivered _ _ ∷ past) a k j r q e f s ne = one_after_another keep past a k j r q e f s ne
one_after_another keep (Sensed _ _ _ ∷ past) a k j r q e f s ne = one_after_another keep past a k j r q e f s ne
one_after_another keep (WentDown _ ∷ past) a k j r q e f s ne = one_after_another keep past a k j r q e f s ne
one_after_another keep (Opened p ∷ past) a k j r q e f s ne = go (λ x y. one_after_another keep past a.1 k j r q x y s ne) (request_opened p past k r e) (request_opened p past j q f)
  where
    come : (i : ℕ) (x : Asked) → asked_at past i ≡ Some x → endpoint_of x.source ≡ endpoint_of p.source → x.source ≢ p.source → IsAfter keep x p
    come i x is same apart = let c = a.0 i x is same apart in record { later = c.0; rested = c.1 }

    go : ((asked_at past k ≡ Some r) → (asked_at past j ≡ Some q) → IsAfter keep r q ⊎ IsAfter keep q r) → (((k ≡ count_of past) × (p ≡ r)) ⊎ ((k ≢ count_of past) × (asked_at past k ≡ Some r))) → (((j ≡ count_of past) × (p ≡ q)) ⊎ ((j ≢ count_of past) × (asked_at past j ≡ Some q))) → IsAfter keep r q ⊎ IsAfter keep q r
    go older (inl x) (inl y) = absurd (ne (ap (λ (o : Asked). o.source) (sym y.1 ∙ x.1)))
    go older (inl x) (inr y) = inr (subst (IsAfter keep q) x.1 (come j q y.1 (s ∙ ap (λ (o : Asked). endpoint_of o.source) (sym x.1)) (λ same. ne (same ∙ ap (λ (o : Asked). o.source) x.1))))
    go older (inr x) (inl y) = inl (subst (IsAfter keep r) y.1 (come k r x.1 (sym s ∙ ap (λ (o : Asked). endpoint_of o.source) (sym y.1)) (λ same. ne (sym (same ∙ ap (λ (o : Asked). o.source) y.1)))))
    go older (inr x) (inr y) = older x.1 y.1

-- where each has an endpoint ID as its number there is one requester at an endpoint
pub never_anew : (keep : ℕ) (log : List Happening) → ((k : ℕ) (r : Asked) → asked_at log k ≡ Some r → r.source < 256) → AreRested keep log
never_anew keep [] few = tt
never_anew keep (Delivered _ _ ∷ past) few = never_anew keep past few
never_anew keep (Sensed _ _ _ ∷ past) few = never_anew keep past few
never_anew keep (WentDown _ ∷ past) few = never_anew keep past few
never_anew keep (Opened p ∷ past) few = (
  λ k q is s ne. absurd (let a = few k q (request_older p past k (request_below past k q is) ∙ is) in let b = few (count_of past) p (asked_here past p) in let apart : q.source ≡ p.source = omega (arith, a, b, s) in ne apart),
  never_anew keep past (λ k r is. few k r (request_older p past k (request_below past k r is) ∙ is)),
)

-- the first one at an endpoint has the endpoint ID as its number
pub first_there : (e : ℕ) → IsEid e → endpoint_of e ≡ e
first_there e is = let low = is.0 in let high = is.1 in omega (arith, low, high)
