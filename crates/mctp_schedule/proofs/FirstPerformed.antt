-- The device's half: over a log in order, with instance IDs apart and deliveries in time and in the window, a delivery
-- is fresh exactly where it is the first.
use Rattle.std.proofs.Common.{◌≡◌, ◌≢◌, ◌⊎◌, ℕ, ◌+◌, ◌*◌, ◌<◌, ◌≤◌, List, [], ◌∷◌, Some, None, Option, Bool, true, false, refl, sym, ap, ◌∙◌, subst, inl, inr, ⊎_elim, arith, eqb-true, eq-eqb}
use Rattle.std.specs.Prelude.{not, ◌&&◌, ◌==◌, is_some, if◌then◌else◌, map, take}
use Rattle.std.specs.List.{list_any}
use Rattle.std.proofs.lemmas.Bool.{and_left, and_right, and_from, and_parts, not_from_true, not_from_false, ltb-false, eqb-false, ne_eqb, cases_Bool, cases_eq, cases_lt, not-true, cond-true, cond-false}
use Rattle.pldm_wire.specs.Headers.{id_at}
use Rattle.pldm_platform.specs.Changes.{changed_or}
use Rattle.pldm_responder.specs.Events.{Message, Event, Came, Place, is_of, is_busy, is_copy, is_copy_of, is_fresh, origin, busy_until, id_of, recent}
use Rattle.pldm_responder.specs.Performing.{Rules, performed, answered, reply_at, next, reply}
use Rattle.mctp_schedule.specs.Logs.{Asked, Happening, Opened, Delivered, Sensed, WentDown, last_of, count_of, asked_at, message_at, with_reached, reached, InOrder, endpoint_of}
use Rattle.mctp_schedule.specs.Timely.{AreApart, InTime, ids_arrived, is_in_window, with_first}
use Rattle.mctp_schedule.specs.FirstArrivals.{arrives, earlier, first, is_first, order, firsts}
use Rattle.mctp_schedule.specs.OncePerformed.{bytes_of, once, reply_from, the_reply}
use Rattle.mctp_schedule.proofs.LatestFreshMessages.{is_of_self, copy_of, expired, performed_new, performed_stays, answered_copy, answered_new, latest, latest_stays, latest_other, latest_new}
use Rattle.pldm_responder.proofs.RecentFirst.{found_in_front}
use Rattle.mctp_schedule.proofs.IdsArrived.{IsFront, ids_apart, ids_delivered, found_in_window, number_in_window, out_stays}
use Rattle.pldm_wire.specs.declared.restart_policy.RestartPolicy.TheVariants.{All}

-- a request's number is the newest, or an older one
pub request_opened : (q : Asked) (past : List Happening) (k : ℕ) (r : Asked) → asked_at (Opened q ∷ past) k ≡ Some r → ((k ≡ count_of past) × (q ≡ r)) ⊎ ((k ≢ count_of past) × (asked_at past k ≡ Some r))
request_opened q past k r e = go (k == count_of past) refl e
  where
    go : (b : Bool) → (k == count_of past) ≡ b → (if b then Some q else asked_at past k) ≡ Some r → ((k ≡ count_of past) × (q ≡ r)) ⊎ ((k ≢ count_of past) × (asked_at past k ≡ Some r))
    go true t f = inl (eqb-true k (count_of past) t, cc)
    go false t f = inr (eqb-false k (count_of past) t, f)

pub request_below : (log : List Happening) (k : ℕ) (r : Asked) → asked_at log k ≡ Some r → k < count_of log
request_below [] k r e = absurd (cc)
request_below (Opened q ∷ past) k r e =
    ⊎_elim
    (λ (x : (k ≡ count_of past) × (q ≡ r)). omega (arith, x.0))
    (λ (x : (k ≢ count_of past) × (asked_at past k ≡ Some r)). let i = request_below past k r x.1 in omega (arith, i))
    (request_opened q past k r e)
request_below (Delivered _ _ ∷ past) k r e = request_below past k r e
request_below (Sensed _ _ _ ∷ past) k r e = request_below past k r e
request_below (WentDown _ ∷ past) k r e = request_below past k r e

pub opened_before : (log : List Happening) → InOrder log → (k : ℕ) (r : Asked) → asked_at log k ≡ Some r → r.opening ≤ last_of log
opened_before [] o k r e = absurd (cc)
opened_before (Opened q ∷ past) o k r e =
    ⊎_elim
    (λ (x : (k ≡ count_of past) × (q ≡ r)). let same : q.opening ≡ r.opening = ap (λ (y : Asked). y.opening) x.1 in omega (arith, same))
    (λ (x : (k ≢ count_of past) × (asked_at past k ≡ Some r)). let i = opened_before past o.1 k r x.1 in omega (arith, i, o.0))
    (request_opened q past k r e)
opened_before (Delivered t j ∷ past) o k r e = let i = opened_before past o.1 k r e in omega (arith, i, o.0)
opened_before (Sensed t _ _ ∷ past) o k r e = let i = opened_before past o.1 k r e in omega (arith, i, o.0)
opened_before (WentDown t ∷ past) o k r e = let i = opened_before past o.1 k r e in omega (arith, i, o.0)

-- a delivered request that arrived at this place, or nowhere, before, and arrives now
abbrev pub is_first_of : Option Asked → Option (List Happening) → Bool → Bool
is_first_of asked place busy = not (is_some place) && arrives asked busy

pub never_first : (place : Option (List Happening)) (busy : Bool) → is_first_of None place busy ≡ false
never_first place busy = and_right (not (is_some place)) _ refl

module _ (S : Type 0) where
  -- a request that has arrived was opened
  pub first_below : (keep : ℕ) (log : List Happening) (k : ℕ) (place : List Happening) → first S keep log k ≡ Some place → k < count_of log
  first_below keep [] k place e = absurd (cc)
  first_below keep (Opened q ∷ past) k place e = let i = first_below keep past k place e in omega (arith, i)
  first_below keep (Sensed _ _ _ ∷ past) k place e = first_below keep past k place e
  first_below keep (WentDown _ ∷ past) k place e = first_below keep past k place e
  first_below keep (Delivered t j ∷ past) k place e = go (λ p is. first_below keep past k p is) (first S keep past k) refl (asked_at past k) refl (j == k) e
    where
      go : ((p : List Happening) → first S keep past k ≡ Some p → k < count_of past) → (f : Option (List Happening)) → first S keep past k ≡ f → (o : Option Asked) → asked_at past k ≡ o → (b : Bool) → earlier f (b && arrives o (is_busy keep (reached {S = S} past) t)) past ≡ Some place → k < count_of past
      go ih (Some p) is o _ b _ = ih p is
      go ih None is (Some r) was b _ = request_below past k r was
      go ih None is None was true f = absurd (cc)
      go ih None is None was false f = absurd (cc)

-- two requests with one instance ID of one source are opened twice the lifetime apart
pub apart : (S : Type 0) (window keep lifetime : ℕ) (log : List Happening) → AreApart S window keep lifetime log → (k j : ℕ) (r q : Asked) → asked_at log k ≡ Some r → asked_at log j ≡ Some q → k ≢ j → endpoint_of q.source ≡ endpoint_of r.source → id_at q.message ≡ id_at r.message → (r.opening + 2 * lifetime ≤ q.opening) ⊎ (q.opening + 2 * lifetime ≤ r.opening)
apart S window keep lifetime [] a k j r q e f ne s i = absurd (cc)
apart S window keep lifetime (Delivered _ _ ∷ past) a k j r q e f ne s i = apart S window keep lifetime past a k j r q e f ne s i
apart S window keep lifetime (Sensed _ _ _ ∷ past) a k j r q e f ne s i = apart S window keep lifetime past a k j r q e f ne s i
apart S window keep lifetime (WentDown _ ∷ past) a k j r q e f ne s i = apart S window keep lifetime past a k j r q e f ne s i
apart S window keep lifetime (Opened p ∷ past) a k j r q e f ne s i = go (λ x y. apart S window keep lifetime past a.1 k j r q x y ne s i) (request_opened p past k r e) (request_opened p past j q f)
  where
    go : (asked_at past k ≡ Some r → asked_at past j ≡ Some q → (r.opening + 2 * lifetime ≤ q.opening) ⊎ (q.opening + 2 * lifetime ≤ r.opening)) → (((k ≡ count_of past) × (p ≡ r)) ⊎ ((k ≢ count_of past) × (asked_at past k ≡ Some r))) → (((j ≡ count_of past) × (p ≡ q)) ⊎ ((j ≢ count_of past) × (asked_at past j ≡ Some q))) → (r.opening + 2 * lifetime ≤ q.opening) ⊎ (q.opening + 2 * lifetime ≤ r.opening)
    go ih (inl x) (inl y) = absurd (ne (x.0 ∙ sym y.0))
    go ih (inl x) (inr y) = inr (subst (λ (o : Asked). q.opening + 2 * lifetime ≤ o.opening) x.1 (a.0 j q y.1 (s ∙ ap (λ (o : Asked). endpoint_of o.source) (sym x.1)) (i ∙ ap (λ (o : Asked). id_at o.message) (sym x.1))).0)
    go ih (inr x) (inl y) = inl (subst (λ (o : Asked). r.opening + 2 * lifetime ≤ o.opening) y.1 (a.0 k r x.1 (sym s ∙ ap (λ (o : Asked). endpoint_of o.source) (sym y.1)) (sym i ∙ ap (λ (o : Asked). id_at o.message) (sym y.1))).0)
    go ih (inr x) (inr y) = ih x.1 y.1

module _ (S : Type 0) where
  -- what the first arrival is after one more delivery
  pub first_other : (keep : ℕ) (past : List Happening) (t k j : ℕ) → k ≢ j → first S keep (Delivered t k ∷ past) j ≡ first S keep past j
  first_other keep past t k j ne = go (first S keep past j)
    where
      no : (k == j && arrives (asked_at past j) (is_busy keep (reached {S = S} past) t)) ≡ false
      no = and_left (k == j) _ (ne_eqb k j ne)

      go : (f : Option (List Happening)) → earlier f (k == j && arrives (asked_at past j) (is_busy keep (reached {S = S} past) t)) past ≡ f
      go (Some p) = refl
      go None = ap (λ b. earlier None b past) no

  pub first_stays : (keep : ℕ) (past : List Happening) (t k j : ℕ) (p : List Happening) → first S keep past j ≡ Some p → first S keep (Delivered t k ∷ past) j ≡ first S keep past j
  first_stays keep past t k j p e = ap (λ f. earlier f (k == j && arrives (asked_at past j) (is_busy keep (reached {S = S} past) t)) past) e ∙ sym e

  pub first_busy : (keep : ℕ) (past : List Happening) (t k j : ℕ) → is_busy keep (reached {S = S} past) t ≡ true → first S keep (Delivered t k ∷ past) j ≡ first S keep past j
  first_busy keep past t k j busy = go (first S keep past j)
    where
      none : (o : Option Asked) → arrives o (is_busy keep (reached {S = S} past) t) ≡ false
      none None = refl
      none (Some r) = not_from_true _ busy

      go : (f : Option (List Happening)) → earlier f (k == j && arrives (asked_at past j) (is_busy keep (reached {S = S} past) t)) past ≡ f
      go (Some p) = refl
      go None = ap (λ b. earlier None b past) (and_right (k == j) _ (none (asked_at past j)))

  pub first_none : (keep : ℕ) (past : List Happening) (t k j : ℕ) → asked_at past k ≡ None → first S keep (Delivered t k ∷ past) j ≡ first S keep past j
  first_none keep past t k j none = go (first S keep past j) (cases_eq k j)
    where
      no : (k ≡ j) ⊎ (k ≡ j → ⊥) → (k == j && arrives (asked_at past j) (is_busy keep (reached {S = S} past) t)) ≡ false
      no (inl same) = and_right (k == j) _ (ap (λ o. arrives o (is_busy keep (reached {S = S} past) t)) (ap (asked_at past) (sym same) ∙ none))
      no (inr ne) = and_left (k == j) _ (ne_eqb k j ne)

      go : (f : Option (List Happening)) → (k ≡ j) ⊎ (k ≡ j → ⊥) → earlier f (k == j && arrives (asked_at past j) (is_busy keep (reached {S = S} past) t)) past ≡ f
      go (Some p) c = refl
      go None c = ap (λ b. earlier None b past) (no c)

  pub first_here : (keep : ℕ) (past : List Happening) (t k : ℕ) (r : Asked) → asked_at past k ≡ Some r → is_busy keep (reached {S = S} past) t ≡ false → first S keep past k ≡ None → first S keep (Delivered t k ∷ past) k ≡ Some past
  first_here keep past t k r e idle none =
      ap (λ f. earlier f (k == k && arrives (asked_at past k) (is_busy keep (reached {S = S} past) t)) past) none
      ∙ ap (λ b. earlier None b past) (and_from (k == k) _ (eq-eqb k k refl) (ap (λ o. arrives o (is_busy keep (reached {S = S} past) t)) e ∙ not_from_false _ idle))

-- a request keeps its number
pub request_older : (q : Asked) (past : List Happening) (k : ℕ) → k < count_of past → asked_at (Opened q ∷ past) k ≡ asked_at past k
request_older q past k i = cond-false (k == count_of past) _ _ (ne_eqb k (count_of past) (λ e. absurd (omega (arith, e))))

-- ---- when an instance ID is free
module _ (S : Type 0) (window keep lifetime : ℕ) where
  -- what request q left has expired when r was opened, or is out of the window
  abbrev IsFreeOf : List Happening → Asked → Asked → Type 0
  IsFreeOf log r q = (q.opening + 2 * keep ≤ r.opening) ⊎ (is_in_window S window keep log r ≡ false)

  -- so it is of each earlier request with r's instance ID, or no delivery of r can come in time any more
  abbrev IsFree : List Happening → ℕ → Asked → Type 0
  IsFree log k r =
      (r.opening + lifetime ≤ last_of log)
      ⊎ ((j : ℕ) (q : Asked) → asked_at log j ≡ Some q → k ≢ j → endpoint_of q.source ≡ endpoint_of r.source → id_at q.message ≡ id_at r.message → q.opening + 2 * lifetime ≤ r.opening → IsFreeOf log r q)

  -- nothing is delivered
  free_later : (log past : List Happening) (k : ℕ) (r : Asked) → last_of past ≤ last_of log → ((j : ℕ) → asked_at log j ≡ asked_at past j) → ((source : ℕ) → ids_arrived S keep log source ≡ ids_arrived S keep past source) → IsFree past k r → IsFree log k r
  free_later log past k r later asked ids free =
      ⊎_elim
      (λ (x : r.opening + lifetime ≤ last_of past). inl (omega arith))
      (λ (f : (j : ℕ) (q : Asked) → asked_at past j ≡ Some q → k ≢ j → endpoint_of q.source ≡ endpoint_of r.source → id_at q.message ≡ id_at r.message → q.opening + 2 * lifetime ≤ r.opening → IsFreeOf past r q).
      inr (λ j q e ne s i far. subst (λ xs. (q.opening + 2 * keep ≤ r.opening) ⊎ (list_any (λ id. id == id_at r.message) (take window xs) ≡ false)) (sym (ids (endpoint_of r.source))) (f j q (sym (asked j) ∙ e) ne s i far)))
      free

  -- one more request is opened
  free_opened : (p : Asked) (past : List Happening) → InOrder (Opened p ∷ past) → AreApart S window keep lifetime (Opened p ∷ past) → (k : ℕ) (r : Asked) → asked_at (Opened p ∷ past) k ≡ Some r → (asked_at past k ≡ Some r → IsFree past k r) → IsFree (Opened p ∷ past) k r
  free_opened p past o a k r e before = ⊎_elim new old (request_opened p past k r e)
    where
      new : (k ≡ count_of past) × (p ≡ r) → IsFree (Opened p ∷ past) k r
      new x = inr (λ j q f ne s i far. ⊎_elim
          (λ (y : (j ≡ count_of past) × (p ≡ q)). absurd (ne (x.0 ∙ sym y.0)))
          (λ (y : (j ≢ count_of past) × (asked_at past j ≡ Some q)).
          subst (λ (z : Asked). IsFreeOf (Opened p ∷ past) z q) x.1 (a.0 j q y.1 (s ∙ ap (λ (z : Asked). endpoint_of z.source) (sym x.1)) (i ∙ ap (λ (z : Asked). id_at z.message) (sym x.1))).1)
          (request_opened p past j q f))

      old : (k ≢ count_of past) × (asked_at past k ≡ Some r) → IsFree (Opened p ∷ past) k r
      old x =
          let mine = opened_before past o.1 k r x.1 in
          let later = o.0 in
          ⊎_elim
          (λ (z : r.opening + lifetime ≤ last_of past). inl (omega arith))
          (λ (f : (j : ℕ) (q : Asked) → asked_at past j ≡ Some q → k ≢ j → endpoint_of q.source ≡ endpoint_of r.source → id_at q.message ≡ id_at r.message → q.opening + 2 * lifetime ≤ r.opening → IsFreeOf past r q).
          ⊎_elim
          (λ (some : 0 < lifetime).
          inr (λ j q g ne s i far. ⊎_elim
          (λ (y : (j ≡ count_of past) × (p ≡ q)). let same = ap (λ (z : Asked). z.opening) y.1 in absurd (omega (arith, same)))
          (λ (y : (j ≢ count_of past) × (asked_at past j ≡ Some q)). f j q y.1 ne s i far)
          (request_opened p past j q g)))
          (λ (none : lifetime ≤ 0). inl (omega arith))
          (cases_lt 0 lifetime))
          (before x.1)

  -- another request, or this one, is delivered
  module _ (past : List Happening) (t m : ℕ) (o : InOrder (Delivered t m ∷ past)) (a : AreApart S window keep lifetime past) (soon : (q : Asked) → asked_at past m ≡ Some q → t < q.opening + lifetime) (k : ℕ) (r : Asked) (e : asked_at past k ≡ Some r) (none : first S keep (Delivered t m ∷ past) k ≡ None) (before : first S keep past k ≡ None → IsFree past k r) where
    abbrev log : List Happening
    log = Delivered t m ∷ past

    was : first S keep past k ≡ None
    was = go (first S keep past k) refl
      where
        go : (f : Option (List Happening)) → first S keep past k ≡ f → f ≡ None
        go None is = refl
        go (Some p) is = absurd (let wrong : Some p ≡ None = sym is ∙ sym (first_stays S keep past t m k p is) ∙ none in cc)

    abbrev Touches : Asked → Type 0
    Touches q = (asked_at past m ≡ Some q) × (is_first S keep past t m ≡ true) × (endpoint_of q.source ≡ endpoint_of r.source) × (id_at q.message ≡ id_at r.message)

    -- its instance ID is not put in front
    untouched : ((q : Asked) → Touches q → ⊥) → IsFree log k r
    untouched never =
        let later = o.0 in
        ⊎_elim
        (λ (x : r.opening + lifetime ≤ last_of past). inl (omega arith))
        (λ (f : (j : ℕ) (q : Asked) → asked_at past j ≡ Some q → k ≢ j → endpoint_of q.source ≡ endpoint_of r.source → id_at q.message ≡ id_at r.message → q.opening + 2 * lifetime ≤ r.opening → IsFreeOf past r q).
        inr (λ j q g ne s i far. ⊎_elim
        (λ (late : q.opening + 2 * keep ≤ r.opening). inl late)
        (λ (out : is_in_window S window keep past r ≡ false).
        inr (out_stays window (is_first S keep past t m) (asked_at past m) r (ids_arrived S keep past (endpoint_of r.source)) (ids_apart S keep past (endpoint_of r.source)) (λ p is on source id. never p (is, on, source, id)) out))
        (f j q g ne s i far)))
        (before was)

    -- it is the one that is delivered, and the device is busy
    itself : m ≡ k → (q : Asked) → Touches q → ⊥
    itself same q touches =
        let first_now = and_parts (not (is_some (first S keep past m))) (arrives (asked_at past m) (is_busy keep (reached {S = S} past) t)) touches.1 in
        let busy : arrives (asked_at past k) (is_busy keep (reached {S = S} past) t) ≡ true = ap (λ n. arrives (asked_at past n) (is_busy keep (reached {S = S} past) t)) (sym same) ∙ first_now.1 in
        let idle = not-true (is_busy keep (reached {S = S} past) t) (ap (λ x. arrives x (is_busy keep (reached {S = S} past) t)) (sym e) ∙ busy) in
        let here : first S keep (Delivered t k ∷ past) k ≡ Some past = first_here S keep past t k r e idle was in
        let wrong : Some past ≡ None = sym here ∙ ap (λ n. first S keep (Delivered t n ∷ past) k) (sym same) ∙ none in
        cc

    -- another one with its source and instance ID was opened since: then it is late
    another : m ≢ k → (q : Asked) → Touches q → r.opening + lifetime ≤ t
    another ne q touches =
        let in_time = soon q touches.0 in
        let mine = opened_before past o.1 k r e in
        let its = opened_before past o.1 m q touches.0 in
        let later = o.0 in
        ⊎_elim
        (λ (x : r.opening + 2 * lifetime ≤ q.opening). omega arith)
        (λ (x : q.opening + 2 * lifetime ≤ r.opening). absurd (omega arith))
        (apart S window keep lifetime past a k m r q e touches.0 (λ same. ne (sym same)) touches.2 touches.3)

    pub free_delivered : IsFree log k r
    free_delivered = ⊎_elim
        (λ (same : m ≡ k). untouched (itself same))
        (λ (ne : m ≡ k → ⊥). go (cases_lt t (r.opening + lifetime)) ne)
        (cases_eq m k)
      where
        go : (t < r.opening + lifetime) ⊎ (r.opening + lifetime ≤ t) → m ≢ k → IsFree log k r
        go (inr late) ne = inl late
        go (inl early) ne = untouched (λ q touches. let late = another ne q touches in absurd (omega (arith, late, early)))

  pub free_at : (log : List Happening) → InOrder log → AreApart S window keep lifetime log → InTime S window keep lifetime log → (k : ℕ) (r : Asked) → asked_at log k ≡ Some r → first S keep log k ≡ None → IsFree log k r
  free_at [] o a i k r e none = absurd (cc)
  free_at (Sensed t id value ∷ past) o a i k r e none = free_later (Sensed t id value ∷ past) past k r o.0 (λ j. refl) (λ source. refl) (free_at past o.1 a i k r e none)
  free_at (WentDown t ∷ past) o a i k r e none = free_later (WentDown t ∷ past) past k r o.0 (λ j. refl) (λ source. refl) (free_at past o.1 a i k r e none)
  free_at (Opened p ∷ past) o a i k r e none = free_opened p past o a k r e (λ is. free_at past o.1 a.1 i k r is none)
  free_at (Delivered t m ∷ past) o a i k r e none = free_delivered past t m o a (λ q is. (i.0 q is).soon) k r e none (λ was. free_at past o.1 a i.1 k r e was)

in_some : {A : Type 0} (x y : A) → Some x ≡ Some y → x ≡ y
in_some x y e = cc

module _ {S : Type 0} (device : Rules S) (window keep lifetime : ℕ) (less : lifetime ≤ keep) (start : S) where
  -- the entry of a request that has arrived is its own
  abbrev Kept : List Happening → List (Event S) → ℕ → Asked → Type 0
  Kept log h k r = (p : Place S) × (latest window keep h (endpoint_of r.source) (id_at r.message) ≡ Some p) × (p.message.bytes ≡ r.message) × (r.opening ≤ p.message.moment) × (reply_at device All window keep start p ≡ reply_from device keep start r.message (first S keep log k))

  -- or no copy of it can come any more, or the responder is busy as long as one can
  abbrev Progress : List Happening → List (Event S) → ℕ → Asked → Type 0
  Progress log h k r = Kept log h k r ⊎ ((r.opening + lifetime ≤ last_of log) ⊎ (r.opening + lifetime ≤ busy_until keep h))

  abbrev Owner : List Happening → ℕ → ℕ → Place S → Type 0
  Owner log source id p = (k : ℕ) × (r : Asked) × (place : List Happening) × (asked_at log k ≡ Some r) × (endpoint_of r.source ≡ source) × (id_at r.message ≡ id) × (first S keep log k ≡ Some place) × (p.message.moment < r.opening + lifetime)

  pub record Inv (log : List Happening) (h : List (Event S)) : Type 0 where
    pub same : performed device All window keep start h ≡ once device keep start log
    pub known : (k : ℕ) (r : Asked) (place : List Happening) → asked_at log k ≡ Some r → first S keep log k ≡ Some place → Progress log h k r
    pub owned : (source id : ℕ) (p : Place S) → latest window keep h source id ≡ Some p → Owner log source id p
    pub ids : (source : ℕ) → IsFront (map id_of (recent All window keep h source)) (ids_arrived S keep log source)

  -- nothing new is performed
  keeps_old : (past : List Happening) (t k : ℕ) (m : Message) → Inv past (reached {S = S} past) → last_of past ≤ t → is_fresh All window keep (reached {S = S} past) m ≡ false → ((j : ℕ) → first S keep (Delivered t k ∷ past) j ≡ first S keep past j) → is_first S keep past t k ≡ false → ((s : ℕ) → IsFront (map id_of (recent All window keep (Came m ∷ reached {S = S} past) s)) (ids_arrived S keep (Delivered t k ∷ past) s)) → Inv (Delivered t k ∷ past) (Came m ∷ reached {S = S} past)
  keeps_old past t k m inv later old firsts notfirst ids = record {
    ids = ids;
    same = performed_stays device window keep start (reached {S = S} past) m old ∙ inv.same ∙ sym (cond-false (is_first S keep past t k) _ _ notfirst);
    known = λ j q place e f. moves j q (inv.known j q place e (sym (firsts j) ∙ f));
    owned = λ s i p o.
        let w = inv.owned s i p (sym (latest_stays window keep (reached {S = S} past) m old s i) ∙ o) in
        (w.0, w.1, w.2, w.3, w.4, w.5, firsts w.0 ∙ w.6, w.7);
  }
    where
      moves : (j : ℕ) (q : Asked) → Progress past (reached {S = S} past) j q → Progress (Delivered t k ∷ past) (Came m ∷ reached {S = S} past) j q
      moves j q (inl x) = inl (x.0, latest_stays window keep (reached {S = S} past) m old (endpoint_of q.source) (id_at q.message) ∙ x.1, x.2, x.3, x.4 ∙ ap (reply_from device keep start q.message) (sym (firsts j)))
      moves j q (inr (inl x)) = inr (inl (omega arith))
      moves j q (inr (inr x)) = inr (inr x)

  -- a first arrival is performed, and its entry is its own from then on
  keeps_new : (past : List Happening) (t k : ℕ) (r : Asked) → Inv past (reached {S = S} past) → InOrder past → AreApart S window keep lifetime past → last_of past ≤ t → t < r.opening + lifetime → asked_at past k ≡ Some r → is_busy keep (reached {S = S} past) t ≡ false → first S keep past k ≡ None → is_fresh All window keep (reached {S = S} past) (message_at t r) ≡ true → is_first S keep past t k ≡ true → ((s : ℕ) → IsFront (map id_of (recent All window keep (Came (message_at t r) ∷ reached {S = S} past) s)) (ids_arrived S keep (Delivered t k ∷ past) s)) → Inv (Delivered t k ∷ past) (Came (message_at t r) ∷ reached {S = S} past)
  keeps_new past t k r inv order apart_ later soon e idle none new isfirst ids = record {
    ids = ids;
    same = performed_new device window keep start (reached {S = S} past) m new ∙ ap (λ s. next device s r.message) inv.same ∙ ap (λ o. next device (once device keep start past) (bytes_of o)) (sym e) ∙ sym (cond-true (is_first S keep past t k) _ _ isfirst);
    known = λ j q place e' f. known_case j q place e' f (cases_eq k j);
    owned = λ s i p o. owned_case s i p o (cases_Bool (is_of m s i));
  }
    where
      m : Message
      m = message_at t r

      here : first S keep (Delivered t k ∷ past) k ≡ Some past
      here = first_here S keep past t k r e idle none

      opened : (j : ℕ) (q : Asked) → asked_at past j ≡ Some q → q.opening ≤ t
      opened j q x = let i = opened_before past order j q x in omega arith

      moves : (j : ℕ) (q : Asked) → k ≢ j → asked_at past j ≡ Some q → Progress past (reached {S = S} past) j q → (is_of m (endpoint_of q.source) (id_at q.message) ≡ true) ⊎ (is_of m (endpoint_of q.source) (id_at q.message) ≡ false) → Progress (Delivered t k ∷ past) (Came m ∷ reached {S = S} past) j q
      moves j q ne e' (inr (inl x)) b = inr (inl (omega arith))
      moves j q ne e' (inr (inr x)) b = inr (inr x)
      moves j q ne e' (inl x) (inr other) = inl (x.0, latest_other window keep (reached {S = S} past) m (endpoint_of q.source) (id_at q.message) other ∙ x.1, x.2, x.3, x.4 ∙ ap (reply_from device keep start q.message) (sym (first_other S keep past t k j ne)))
      moves j q ne e' (inl x) (inl pair) =
          let parts = and_parts (endpoint_of r.source == endpoint_of q.source) (id_at r.message == id_at q.message) pair in
          let far = apart S window keep lifetime past apart_ j k q r e' e (λ y. ne (sym y)) (eqb-true _ _ parts.0) (eqb-true _ _ parts.1) in
          let before = opened j q e' in
          ⊎_elim
          (λ (y : q.opening + 2 * lifetime ≤ r.opening). let i = opened k r e in inr (inl (omega arith)))
          (λ (y : r.opening + 2 * lifetime ≤ q.opening). absurd (omega arith))
          far

      own : (j : ℕ) (q : Asked) → k ≡ j → r ≡ q → Progress (Delivered t k ∷ past) (Came m ∷ reached {S = S} past) j q
      own j q is same =
          inl (subst (λ (x : ℕ × Asked). Kept (Delivered t k ∷ past) (Came m ∷ reached {S = S} past) x.0 x.1) (λ i. (is i, same i)) (
            record { before = reached {S = S} past; message = m },
            latest_new window keep (reached {S = S} past) m (endpoint_of r.source) (id_at r.message) new (is_of_self m),
            refl,
            opened k r e,
            ap (λ s. reply device s r.message) inv.same ∙ ap (reply_from device keep start r.message) (sym here),
          ))

      known_case : (j : ℕ) (q : Asked) (place : List Happening) → asked_at past j ≡ Some q → first S keep (Delivered t k ∷ past) j ≡ Some place → (k ≡ j) ⊎ (k ≡ j → ⊥) → Progress (Delivered t k ∷ past) (Came m ∷ reached {S = S} past) j q
      known_case j q place e' f (inl is) = own j q is (let x : Some r ≡ Some q = sym e ∙ ap (asked_at past) is ∙ e' in cc)
      known_case j q place e' f (inr ne) = moves j q ne e' (inv.known j q place e' (sym (first_other S keep past t k j ne) ∙ f)) (cases_Bool (is_of m (endpoint_of q.source) (id_at q.message)))

      owned_case : (s i : ℕ) (p : Place S) → latest window keep (Came m ∷ reached {S = S} past) s i ≡ Some p → (is_of m s i ≡ true) ⊎ (is_of m s i ≡ false) → Owner (Delivered t k ∷ past) s i p
      owned_case s i p o (inl pair) =
          let parts = and_parts (endpoint_of r.source == s) (id_at r.message == i) pair in
          let at : record { before = reached {S = S} past; message = m } ≡ p = in_some {A = Place S} (record { before = reached {S = S} past; message = m }) p (sym (latest_new window keep (reached past) m s i new pair) ∙ o) in
          let when : t ≡ p.message.moment = ap (λ (x : Place S). x.message.moment) at in
          (k, r, past, e, eqb-true _ _ parts.0, eqb-true _ _ parts.1, here, omega (arith, when))
      owned_case s i p o (inr other) =
          let w = inv.owned s i p (sym (latest_other window keep (reached {S = S} past) m s i other) ∙ o) in
          (w.0, w.1, w.2, w.3, w.4, w.5, first_stays S keep past t k w.0 w.2 w.6 ∙ w.6, w.7)

  -- a delivery of a request that has arrived is a copy of its own first arrival
  pub copies : (past : List Happening) (t k : ℕ) (r : Asked) (place : List Happening) → Inv past (reached {S = S} past) → last_of past ≤ t → t < r.opening + lifetime → is_in_window S window keep past r ≡ true → asked_at past k ≡ Some r → is_busy keep (reached {S = S} past) t ≡ false → first S keep past k ≡ Some place → (p : Place S) × (origin All window keep (reached {S = S} past) (endpoint_of r.source) (id_at r.message) ≡ Some p) × (is_copy_of keep (message_at t r) (Some p) ≡ true) × (reply_at device All window keep start p ≡ reply_from device keep start r.message (first S keep past k))
  copies past t k r place inv later soon within e idle came = go (inv.known k r place e came)
    where
      go : Progress past (reached {S = S} past) k r → (p : Place S) × (origin All window keep (reached {S = S} past) (endpoint_of r.source) (id_at r.message) ≡ Some p) × (is_copy_of keep (message_at t r) (Some p) ≡ true) × (reply_at device All window keep start p ≡ reply_from device keep start r.message (first S keep past k))
      go (inl x) = (
        x.0,
        found_in_window id_of window (id_at r.message) (recent All window keep (reached {S = S} past) (endpoint_of r.source)) (ids_arrived S keep past (endpoint_of r.source)) x.0 (inv.ids (endpoint_of r.source)) x.1 within,
        copy_of keep (message_at t r) x.0 (sym x.2) (let b = x.3 in let l = less in omega (arith, b, l, soon)),
        x.4,
      )
      go (inr (inl x)) = absurd (omega arith)
      go (inr (inr x)) = let served = ltb-false t (busy_until keep (reached {S = S} past)) idle in absurd (omega arith)

  -- a first delivery is no copy of anything
  pub is_new : (past : List Happening) (t k : ℕ) (r : Asked) → Inv past (reached {S = S} past) → InOrder past → AreApart S window keep lifetime past → InTime S window keep lifetime past → last_of past ≤ t → t < r.opening + lifetime → asked_at past k ≡ Some r → first S keep past k ≡ None → is_copy All window keep (reached {S = S} past) (message_at t r) ≡ false
  is_new past t k r inv order apart_ in_time later soon e none = go (origin All window keep (reached {S = S} past) (endpoint_of r.source) (id_at r.message)) refl
    where
      go : (o : Option (Place S)) → origin All window keep (reached {S = S} past) (endpoint_of r.source) (id_at r.message) ≡ o → is_copy_of keep (message_at t r) o ≡ false
      go None is = refl
      go (Some p) is =
          let w = inv.owned (endpoint_of r.source) (id_at r.message) p (found_in_front id_of (id_at r.message) window (recent All window keep (reached {S = S} past) (endpoint_of r.source)) p is) in
          let ne : k ≢ w.0 = λ same. let x : Some w.2 ≡ None = sym w.6 ∙ ap (first S keep past) (sym same) ∙ none in cc in
          let before = opened_before past order w.0 w.1 w.3 in
          let mine = opened_before past order k r e in
          let was = w.7 in
          ⊎_elim
          (λ (y : r.opening + 2 * lifetime ≤ w.1.opening). absurd (omega arith))
          (λ (y : w.1.opening + 2 * lifetime ≤ r.opening). ⊎_elim
          (λ (x : r.opening + lifetime ≤ last_of past). absurd (omega arith))
          (λ (f : (j : ℕ) (q : Asked) → asked_at past j ≡ Some q → k ≢ j → endpoint_of q.source ≡ endpoint_of r.source → id_at q.message ≡ id_at r.message → q.opening + 2 * lifetime ≤ r.opening → IsFreeOf S window keep lifetime past r q).
          ⊎_elim
          (λ (late : w.1.opening + 2 * keep ≤ r.opening). expired keep (message_at t r) p (let l = less in omega (arith, was, late, mine, l, later)))
          (λ (out : is_in_window S window keep past r ≡ false).
          let there = number_in_window id_of window (id_at r.message) (recent All window keep (reached {S = S} past) (endpoint_of r.source)) (ids_arrived S keep past (endpoint_of r.source)) p (inv.ids (endpoint_of r.source)) is in
          absurd (let wrong : true ≡ false = sym there ∙ out in cc))
          (f w.0 w.1 w.3 ne w.4 w.5 y))
          (free_at S window keep lifetime past order apart_ in_time k r e none))
          (apart S window keep lifetime past apart_ k w.0 r w.1 e w.3 ne w.4 w.5)

  -- nothing is known of a number that was not opened
  keeps_none : (past : List Happening) (t k : ℕ) → Inv past (reached {S = S} past) → last_of past ≤ t → asked_at past k ≡ None → Inv (Delivered t k ∷ past) (reached {S = S} past)
  keeps_none past t k inv later e = record {
    ids = λ s. subst (λ o. IsFront (map id_of (recent All window keep (reached {S = S} past) s)) (with_first (is_first S keep past t k) o s (ids_arrived S keep past s))) (sym e) (inv.ids s);
    same = inv.same ∙ sym (cond-false (is_first S keep past t k) _ _ (ap (λ o. is_first_of o (first S keep past k) (is_busy keep (reached {S = S} past) t)) e ∙ never_first (first S keep past k) (is_busy keep (reached {S = S} past) t)));
    known = λ j q place e' f. moves j q (inv.known j q place e' (sym (firsts j) ∙ f));
    owned = λ s i p o. let w = inv.owned s i p o in (w.0, w.1, w.2, w.3, w.4, w.5, firsts w.0 ∙ w.6, w.7);
  }
    where
      firsts : (j : ℕ) → first S keep (Delivered t k ∷ past) j ≡ first S keep past j
      firsts j = first_none S keep past t k j e

      moves : (j : ℕ) (q : Asked) → Progress past (reached {S = S} past) j q → Progress (Delivered t k ∷ past) (reached {S = S} past) j q
      moves j q (inl x) = inl (x.0, x.1, x.2, x.3, x.4 ∙ ap (reply_from device keep start q.message) (sym (firsts j)))
      moves j q (inr (inl x)) = inr (inl (omega arith))
      moves j q (inr (inr x)) = inr (inr x)

  keeps_delivered : (past : List Happening) (t k : ℕ) (r : Asked) → Inv past (reached {S = S} past) → InOrder past → AreApart S window keep lifetime past → InTime S window keep lifetime past → last_of past ≤ t → t < r.opening + lifetime → (is_some (first S keep past k) ≡ true → is_in_window S window keep past r ≡ true) → asked_at past k ≡ Some r → (b : Bool) → is_busy keep (reached {S = S} past) t ≡ b → (f : Option (List Happening)) → first S keep past k ≡ f → Inv (Delivered t k ∷ past) (Came (message_at t r) ∷ reached {S = S} past)
  keeps_delivered past t k r inv order apart_ in_time later soon within e true busy f came =
      let old = and_left _ (not (is_copy All window keep (reached {S = S} past) (message_at t r))) (not_from_true _ busy) in
      let later_one = no (first S keep past k) in
      keeps_old past t k (message_at t r) inv later old
      (λ j. first_busy S keep past t k j busy)
      later_one
      (λ s. ids_delivered S window keep past t k r s (inv.ids s) e (old ∙ sym later_one))
    where
      no : (g : Option (List Happening)) → is_first_of (asked_at past k) g (is_busy keep (reached {S = S} past) t) ≡ false
      no None = ap (λ o. is_first_of o None (is_busy keep (reached {S = S} past) t)) e ∙ not_from_true _ busy
      no (Some p) = ap (λ o. is_first_of o (Some p) (is_busy keep (reached {S = S} past) t)) e
  keeps_delivered past t k r inv order apart_ in_time later soon within e false idle (Some place) came =
      let c = copies past t k r place inv later soon (within (ap is_some came)) e idle came in
      let old = and_right (not (is_busy keep (reached {S = S} past) t)) _ (not_from_true _ (ap (is_copy_of keep (message_at t r)) c.1 ∙ c.2)) in
      let later_one = ap (λ o. is_first_of o (first S keep past k) (is_busy keep (reached {S = S} past) t)) e ∙ ap (λ g. is_first_of (Some r) g (is_busy keep (reached {S = S} past) t)) came in
      keeps_old past t k (message_at t r) inv later old
      (λ j. other j (cases_eq k j))
      later_one
      (λ s. ids_delivered S window keep past t k r s (inv.ids s) e (old ∙ sym later_one))
    where
      other : (j : ℕ) → (k ≡ j) ⊎ (k ≡ j → ⊥) → first S keep (Delivered t k ∷ past) j ≡ first S keep past j
      other j (inl same) = first_stays S keep past t k j place (ap (first S keep past) (sym same) ∙ came)
      other j (inr ne) = first_other S keep past t k j ne
  keeps_delivered past t k r inv order apart_ in_time later soon within e false idle None none =
      let new = and_from (not (is_busy keep (reached {S = S} past) t)) _ (not_from_false _ idle) (not_from_false _ (is_new past t k r inv order apart_ in_time later soon e none)) in
      let it = ap (λ o. is_first_of o (first S keep past k) (is_busy keep (reached {S = S} past) t)) e ∙ ap (λ g. is_first_of (Some r) g (is_busy keep (reached {S = S} past) t)) none ∙ not_from_false _ idle in
      keeps_new past t k r inv order apart_ later soon e idle none new it
      (λ s. ids_delivered S window keep past t k r s (inv.ids s) e (new ∙ sym it))

  pub holds : (log : List Happening) → InOrder log → AreApart S window keep lifetime log → InTime S window keep lifetime log → Inv log (reached {S = S} log)
  holds [] o a i = record { same = refl; known = λ k r place e f. absurd (cc); owned = λ s id p e. absurd (cc); ids = λ s. tt }
  holds (Sensed t id value ∷ past) o a i =
      let inv = holds past o.1 a i in
      let later = o.0 in
      record {
        same = ap (λ s. changed_or s (device.sensed s id value)) inv.same;
        known = λ k r place e f. ⊎_elim
            (λ (x : Kept past (reached {S = S} past) k r). inl x)
            (λ (y : (r.opening + lifetime ≤ last_of past) ⊎ (r.opening + lifetime ≤ busy_until keep (reached {S = S} past))). inr (⊎_elim (λ (x : r.opening + lifetime ≤ last_of past). inl (omega arith)) (λ (x : r.opening + lifetime ≤ busy_until keep (reached {S = S} past)). inr x) y))
            (inv.known k r place e f);
        owned = inv.owned;
        ids = inv.ids;
      }
  holds (WentDown t ∷ past) o a i =
      let inv = holds past o.1 a i in
      let later = o.0 in
      record {
        same = inv.same;
        known = λ k r place e f. let before = opened_before past o.1 k r e in let l = less in inr (inr (omega (arith, before, l, later)));
        owned = λ s id p e. absurd (cc);
        ids = λ s. tt;
      }
  holds (Opened q ∷ past) o a i =
      let inv = holds past o.1 a.1 i in
      let later = o.0 in
      record {
        same = inv.same;
        known = λ k r place e f. ⊎_elim
            (λ (x : (k ≡ count_of past) × (q ≡ r)). let below = first_below S keep past k place f in absurd (omega (arith, x.0)))
            (λ (x : (k ≢ count_of past) × (asked_at past k ≡ Some r)). ⊎_elim
            (λ (x : Kept past (reached {S = S} past) k r). inl x)
            (λ (y : (r.opening + lifetime ≤ last_of past) ⊎ (r.opening + lifetime ≤ busy_until keep (reached {S = S} past))). inr (⊎_elim (λ (x : r.opening + lifetime ≤ last_of past). inl (omega arith)) (λ (x : r.opening + lifetime ≤ busy_until keep (reached {S = S} past)). inr x) y))
            (inv.known k r place x.1 f))
            (request_opened q past k r e);
        owned = λ s id p e. let w = inv.owned s id p e in (w.0, w.1, w.2, request_older q past w.0 (request_below past w.0 w.1 w.3) ∙ w.3, w.4, w.5, w.6, w.7);
        ids = inv.ids;
      }
  holds (Delivered t k ∷ past) o a i = delivered (holds past o.1 a i.1) (asked_at past k) refl
    where
      delivered : Inv past (reached {S = S} past) → (x : Option Asked) → asked_at past k ≡ x → Inv (Delivered t k ∷ past) (with_reached t (asked_at past k) (reached {S = S} past))
      delivered inv None e = subst (λ (x : Option Asked). Inv (Delivered t k ∷ past) (with_reached t x (reached {S = S} past))) (sym e) (keeps_none past t k inv o.0 e)
      delivered inv (Some r) e = subst (λ (x : Option Asked). Inv (Delivered t k ∷ past) (with_reached t x (reached {S = S} past))) (sym e) (keeps_delivered past t k r inv o.1 a i.1 o.0 (i.0 r e).soon (i.0 r e).in_window e (is_busy keep (reached {S = S} past) t) refl (first S keep past k) refl)

  -- each delivery while the responder serves: fresh exactly where it is the first, and answered with the one reply
  pub entry : (past : List Happening) (t k : ℕ) (r : Asked) → InOrder (Delivered t k ∷ past) → AreApart S window keep lifetime past → InTime S window keep lifetime (Delivered t k ∷ past) → asked_at past k ≡ Some r → is_busy keep (reached {S = S} past) t ≡ false → (is_fresh All window keep (reached {S = S} past) (message_at t r) ≡ is_first S keep past t k) × (answered device All window keep start (reached past) (message_at t r) ≡ the_reply device keep start (Delivered t k ∷ past) k)
  entry past t k r o a i e idle = go (first S keep past k) refl
    where
      inv : Inv past (reached {S = S} past)
      inv = holds past o.1 a i.1

      opened : bytes_of (asked_at past k) ≡ r.message
      opened = ap bytes_of e

      go : (f : Option (List Happening)) → first S keep past k ≡ f → (is_fresh All window keep (reached {S = S} past) (message_at t r) ≡ is_first S keep past t k) × (answered device All window keep start (reached past) (message_at t r) ≡ the_reply device keep start (Delivered t k ∷ past) k)
      go None none =
          let new = is_new past t k r inv o.1 a i.1 o.0 (i.0 r e).soon e none in
          let here = first_here S keep past t k r e idle none in (
            and_from (not (is_busy keep (reached {S = S} past) t)) _ (not_from_false _ idle) (not_from_false _ new)
                ∙ sym (ap (λ o. is_first_of o (first S keep past k) (is_busy keep (reached {S = S} past) t)) e ∙ ap (λ g. is_first_of (Some r) g (is_busy keep (reached {S = S} past) t)) none ∙ not_from_false _ idle),
            answered_new device window keep start (reached {S = S} past) (message_at t r) new
                ∙ ap (λ s. reply device s r.message) inv.same
                ∙ ap (reply_from device keep start r.message) (sym here)
                ∙ ap (λ b. reply_from device keep start b (first S keep (Delivered t k ∷ past) k)) (sym opened),
          )
      go (Some place) came =
          let c = copies past t k r place inv o.0 (i.0 r e).soon ((i.0 r e).in_window (ap is_some came)) e idle came in (
            and_right (not (is_busy keep (reached {S = S} past) t)) _ (not_from_true _ (ap (is_copy_of keep (message_at t r)) c.1 ∙ c.2))
                ∙ sym (ap (λ o. is_first_of o (first S keep past k) (is_busy keep (reached {S = S} past) t)) e ∙ ap (λ g. is_first_of (Some r) g (is_busy keep (reached {S = S} past) t)) came),
            answered_copy device window keep start (reached {S = S} past) (message_at t r) c.0 c.1 c.2
                ∙ c.3
                ∙ ap (reply_from device keep start r.message) (sym (first_stays S keep past t k k place came))
                ∙ ap (λ b. reply_from device keep start b (first S keep (Delivered t k ∷ past) k)) (sym opened),
          )
