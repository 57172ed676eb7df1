-- Requests of other instance IDs that were opened once no request with an instance ID could come any more, and arrived,
-- stand in front of it among those that arrived.
use Rattle.std.proofs.Common.{◌≡◌, ◌≢◌, ℕ, zero, suc, ◌+◌, ◌%◌, ◌<◌, ◌≤◌, Bool, true, false, cond, List, [], ◌∷◌, length, Option, Some, None, refl, sym, ap, ◌∙◌, subst, ⊎_elim, arith, eqb-true, eq-eqb}
use Rattle.std.specs.Prelude.{◌&&◌, ◌==◌, is_some, filter, if◌then◌else◌}
use Rattle.std.proofs.lemmas.Bool.{cases_Bool, and_from, and_parts, cond_both, cond-true, cond-false, ne_eqb}
use Rattle.pldm_wire.specs.Headers.{id_at}
use Rattle.pldm_requester.specs.Courses.{Course}
use Rattle.pldm_requester.specs.Pacing.{newest}
use Rattle.pldm_responder.specs.Events.{is_busy}
use Rattle.pldm_responder.specs.Recency.{of_number, renewed, without}
use Rattle.pldm_responder.proofs.CopiesByTheRule.{in_front, in_front_renewed}
use Rattle.pldm_responder.proofs.RecentFirst.{another, dropped, found_later, renewed_finds, renewed_keeps, stays}
use Rattle.mctp_schedule.specs.FirstArrivals.{arrives, earlier, first, is_first}
use Rattle.mctp_schedule.specs.Logs.{Asked, Happening, Opened, Delivered, Sensed, WentDown, InOrder, asked_at, reached, endpoint_of}
use Rattle.mctp_schedule.specs.Timely.{InTime, ids_arrived, with_first}
use Rattle.mctp_schedule.proofs.FirstPerformed.{first_below, is_first_of, opened_before, request_below, request_older}

-- a number is in a list
abbrev pub In : ℕ → List ℕ → Type 0
In n ids = is_some (of_number (λ i. i) n ids) ≡ true

abbrev before : ℕ → List ℕ → List ℕ
before n ids = in_front (λ i. i) n ids

-- ---- one is put in front
front_if : (b : Bool) (n m : ℕ) (ids : List ℕ) → before n (if b then renewed (λ i. i) m ids else ids) ≡ (if b then (if m == n then [] else renewed (λ i. i) m (before n ids)) else before n ids)
front_if true n m ids = in_front_renewed (λ i. i) n m ids
front_if false n m ids = refl

stays_in : (x m : ℕ) (ids : List ℕ) → In x ids → In x (renewed (λ i. i) m ids)
stays_in x m ids is = ⊎_elim
    (λ (same : (m == x) ≡ true). subst (λ k. In k (renewed (λ i. i) m ids)) (eqb-true m x same) (ap is_some (renewed_finds (λ i. i) m ids)))
    (λ (other : (m == x) ≡ false). ap is_some (renewed_keeps (λ i. i) m ids x other) ∙ is)
    (cases_Bool (m == x))

-- none with number n: what stood before n still does
still_before : (b : Bool) (o : Option Asked) (source n x : ℕ) (ids : List ℕ) → ((p : Asked) → o ≡ Some p → endpoint_of p.source ≡ source → b ≡ true → id_at p.message ≡ n → ⊥) → In x (before n ids) → In x (before n (with_first b o source ids))
still_before b None source n x ids never is = is
still_before b (Some p) source n x ids never is =
    subst (In x) (sym (front_if (endpoint_of p.source == source && b) n (id_at p.message) ids))
    (cond_both (endpoint_of p.source == source && b) (if id_at p.message == n then [] else renewed (λ i. i) (id_at p.message) (before n ids)) (before n ids) (In x)
    (λ on.
    let parts = and_parts (endpoint_of p.source == source) b on in
    let other = ne_eqb (id_at p.message) n (never p refl (eqb-true (endpoint_of p.source) source parts.0) parts.1) in
    subst (In x) (sym (cond-false (id_at p.message == n) [] (renewed (λ i. i) (id_at p.message) (before n ids)) other)) (stays_in x (id_at p.message) (before n ids) is))
    (λ _. is))

-- the new one stands before n
new_before : (p : Asked) (n : ℕ) (ids : List ℕ) → id_at p.message ≢ n → In (id_at p.message) (before n (with_first true (Some p) (endpoint_of p.source) ids))
new_before p n ids ne =
    let on = and_from (endpoint_of p.source == endpoint_of p.source) true (eq-eqb (endpoint_of p.source) (endpoint_of p.source) refl) refl in
    subst (In (id_at p.message)) (sym (front_if (endpoint_of p.source == endpoint_of p.source && true) n (id_at p.message) ids))
    (subst (In (id_at p.message)) (sym (cond-true (endpoint_of p.source == endpoint_of p.source && true) (if id_at p.message == n then [] else renewed (λ i. i) (id_at p.message) (before n ids)) (before n ids) on))
    (subst (In (id_at p.message)) (sym (cond-false (id_at p.message == n) [] (renewed (λ i. i) (id_at p.message) (before n ids)) (ne_eqb (id_at p.message) n ne)))
    (ap is_some (renewed_finds (λ i. i) (id_at p.message) (before n ids)))))

module _ (S : Type 0) (window keep lifetime : ℕ) (source n bound : ℕ) where
  -- no request with this instance ID can come from this moment on
  abbrev pub AreGone : List Happening → Type 0
  AreGone log = (j : ℕ) (q : Asked) → asked_at log j ≡ Some q → endpoint_of q.source ≡ source → id_at q.message ≡ n → q.opening + lifetime ≤ bound

  -- one more delivery
  module _ (past : List Happening) (t m : ℕ) (order : InOrder (Delivered t m ∷ past)) (soon : (p : Asked) → asked_at past m ≡ Some p → t < p.opening + lifetime) (gone : AreGone past) (k : ℕ) (r : Asked) (e : asked_at past k ≡ Some r) (own : endpoint_of r.source ≡ source) (ne : id_at r.message ≢ n) (late : bound ≤ r.opening) where
    abbrev ids : List ℕ
    ids = ids_arrived S keep past source

    abbrev busy : Bool
    busy = is_busy keep (reached {S = S} past) t

    none_touches : (p : Asked) → asked_at past m ≡ Some p → endpoint_of p.source ≡ source → is_first S keep past t m ≡ true → id_at p.message ≡ n → ⊥
    none_touches p is s on i =
        let its = gone m p is s i in
        let in_time = soon p is in
        let mine = opened_before past order.1 k r e in
        let later = order.0 in
        absurd (omega arith)

    came_now : first S keep past k ≡ None → (m == k && arrives (asked_at past k) busy) ≡ true → In (id_at r.message) (before n (with_first (is_first S keep past t m) (asked_at past m) source ids))
    came_now none on =
        let parts = and_parts (m == k) (arrives (asked_at past k) busy) on in
        let it : is_first S keep past t k ≡ true = ap (λ f. is_first_of (asked_at past k) f busy) none ∙ parts.1 in
        subst (λ x. In (id_at r.message) (before n (with_first (is_first S keep past t x) (asked_at past x) source ids))) (sym (eqb-true m k parts.0))
        (subst (λ b. In (id_at r.message) (before n (with_first b (asked_at past k) source ids))) (sym it)
        (subst (λ o. In (id_at r.message) (before n (with_first true o source ids))) (sym e)
        (subst (λ s. In (id_at r.message) (before n (with_first true (Some r) s ids))) own (new_before r n ids ne))))

    on_from : (b : Bool) → is_some (earlier None b past) ≡ true → b ≡ true
    on_from true _ = refl
    on_from false f = absurd (cc)

    pub delivered_before : ((place : List Happening) → first S keep past k ≡ Some place → In (id_at r.message) (before n ids)) → is_some (first S keep (Delivered t m ∷ past) k) ≡ true → In (id_at r.message) (before n (with_first (is_first S keep past t m) (asked_at past m) source ids))
    delivered_before earlier_one came = go (first S keep past k) refl
      where
        go : (f : Option (List Happening)) → first S keep past k ≡ f → In (id_at r.message) (before n (with_first (is_first S keep past t m) (asked_at past m) source ids))
        go (Some place) is = still_before (is_first S keep past t m) (asked_at past m) source n (id_at r.message) ids none_touches (earlier_one place is)
        go None is = came_now is (on_from (m == k && arrives (asked_at past k) busy) (sym (ap (λ f. is_some (earlier f (m == k && arrives (asked_at past k) busy) past)) is) ∙ came))

  -- it came before one more request was opened
  opened_before_it : (p : Asked) (past : List Happening) (k : ℕ) (r : Asked) → asked_at (Opened p ∷ past) k ≡ Some r → (f : Option (List Happening)) → first S keep past k ≡ f → is_some (first S keep past k) ≡ true
      → (asked_at past k ≡ Some r → is_some (first S keep past k) ≡ true → In (id_at r.message) (before n (ids_arrived S keep past source)))
      → In (id_at r.message) (before n (ids_arrived S keep past source))
  opened_before_it p past k r e None is came shown = absurd (let wrong : false ≡ true = ap is_some (sym is) ∙ came in cc)
  opened_before_it p past k r e (Some place) is came shown = shown (sym (request_older p past k (first_below S keep past k place is)) ∙ e) came

  pub in_front_of : (log : List Happening) → InOrder log → InTime S window keep lifetime log → AreGone log → (k : ℕ) (r : Asked) → asked_at log k ≡ Some r → endpoint_of r.source ≡ source → id_at r.message ≢ n → bound ≤ r.opening
      → is_some (first S keep log k) ≡ true → In (id_at r.message) (before n (ids_arrived S keep log source))
  in_front_of [] o i gone k r e own ne late came = absurd (cc)
  in_front_of (Sensed _ _ _ ∷ past) o i gone k r e own ne late came = in_front_of past o.1 i gone k r e own ne late came
  in_front_of (WentDown _ ∷ past) o i gone k r e own ne late came = in_front_of past o.1 i gone k r e own ne late came
  in_front_of (Opened p ∷ past) o i gone k r e own ne late came =
      opened_before_it p past k r e (first S keep past k) refl came
      (λ e_past came_past. in_front_of past o.1 i (λ j q is. gone j q (request_older p past j (request_below past j q is) ∙ is)) k r e_past own ne late came_past)
  in_front_of (Delivered t m ∷ past) o i gone k r e own ne late came =
      delivered_before past t m o (λ p is. (i.0 p is).soon) gone k r e own ne late
      (λ place is. in_front_of past o.1 i.1 gone k r e own ne late (ap is_some is)) came

-- ---- as many different numbers as are counted stand in a list
shorter : (x : ℕ) (ids : List ℕ) → length (without (λ i. i) x ids) ≤ length ids
shorter x [] = omega arith
shorter x (y ∷ ids) =
    let later = shorter x ids in
    ⊎_elim
    (λ (same : (y == x) ≡ true). let e = ap length (dropped (λ i. i) x y ids same) in omega (arith, e, later))
    (λ (other : (y == x) ≡ false). let e = ap length (stays (λ i. i) x y ids other) in omega (arith, e, later))
    (cases_Bool (y == x))

one_less : (x : ℕ) (ids : List ℕ) → In x ids → suc (length (without (λ i. i) x ids)) ≤ length ids
one_less x [] is = absurd (cc)
one_less x (y ∷ ids) is =
    ⊎_elim
    (λ (same : (y == x) ≡ true). let e = ap length (dropped (λ i. i) x y ids same) in let l = shorter x ids in omega (arith, e, l))
    (λ (other : (y == x) ≡ false).
    let e = ap length (stays (λ i. i) x y ids other) in
    let later = one_less x ids (sym (ap is_some (found_later (λ i. i) x y ids other)) ∙ is) in
    omega (arith, e, later))
    (cases_Bool (y == x))

counted_one : (test : Course → Bool) (x : Course) (rest : List Course) (n : ℕ) (ids : List ℕ) (b : Bool) → test x ≡ b
    → length (filter test rest) ≤ length ids
    → (b ≡ true → length (filter test rest) ≤ length (without (λ i. i) n ids)) → (b ≡ true → In n ids)
    → length (cond b (x ∷ filter test rest) (filter test rest)) ≤ length ids
counted_one test x rest n ids true is all others there = let less = one_less n ids (there refl) in let l = others refl in omega (arith, less, l)
counted_one test x rest n ids false is all others there = all

pub no_more_counted : (test : Course → Bool) (f : ℕ → Course) (n most : ℕ) (ids : List ℕ) → most ≤ 31 → ((k : ℕ) → k < n → n ≤ k + most → test (f k) ≡ true → In (k % 32) ids) → length (filter test (newest f n most)) ≤ length ids
no_more_counted test f zero most ids few each = omega arith
no_more_counted test f (suc n) zero ids few each = omega arith
no_more_counted test f (suc n) (suc most) ids few each =
    counted_one test (f n) (newest f n most) (n % 32) ids (test (f n)) refl
    (no_more_counted test f n most ids (omega (arith, few)) (λ k l m t. each k (omega (arith, l)) (omega (arith, m)) t))
    (λ t. no_more_counted test f n most (without (λ i. i) (n % 32) ids) (omega (arith, few))
    (λ k l m u. ap is_some (another (λ i. i) (n % 32) (k % 32) ids (λ same. absurd (omega (arith, same, l, m, few)))) ∙ each k (omega (arith, l)) (omega (arith, m)) u))
    (λ t. each n (omega arith) (omega arith) t)
