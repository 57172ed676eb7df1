-- The numbers of the fresh deliveries are the requests that arrived, in the order of their first arrivals, each once.
use Rattle.std.proofs.Common.{◌≡◌, ◌⊎◌, ℕ, zero, suc, ◌<◌, ◌≤◌, List, [], ◌∷◌, ◌++◌, length, Some, None, Option, Ok, Bool, true, false, refl, sym, ap, ◌∙◌, subst, inl, inr, ⊎_elim, arith, eq-eqb}
use Rattle.std.specs.Prelude.{not, ◌||◌, ◌==◌, nat_lt, slice_get, is_some, if◌then◌else◌}
use Rattle.std.specs.List.{list_any}
use Rattle.std.proofs.lemmas.Bool.{and_left, not_from_true, ne_eqb, cases_Bool, cases_eq, ltb-true, ltb-false}
use Rattle.std.proofs.lemmas.List.Folds.{list_any-append}
use Rattle.pldm_wire.specs.declared.answer.Answer.TheVariants as answers
use Rattle.pldm_responder.specs.Events.{is_busy, is_copy}
use Rattle.pldm_responder.specs.Performing.{Rules, rules_of}
use Rattle.mctp_schedule.specs.Logs.{Asked, Happening, Opened, Delivered, Sensed, WentDown, asked_at, message_at, reached, InOrder}
use Rattle.mctp_schedule.specs.Timely.{AreApart, InTime}
use Rattle.mctp_schedule.specs.FirstArrivals.{first, is_first, fresh_of, order, firsts, IsSooner, IsOrderOfFirsts}
use Rattle.mctp_schedule.proofs.SameOverAnyState.{same_busy, same_fresh, same_is_first, same_apart, same_in_time}
use Rattle.mctp_schedule.proofs.FirstPerformed.{is_first_of, never_first, first_other, first_stays, first_busy, first_none, first_here, entry}
use Rattle.pldm_wire.specs.declared.restart_policy.RestartPolicy.TheVariants.{All}

-- a device that does nothing
pub idle_device : Rules ℕ
idle_device = rules_of (λ s command. answers.Refused 1) (λ s command. s) (λ s id value. Ok s)

module _ (S : Type 0) where
  -- what a first delivery does
  first_new : (keep : ℕ) (past : List Happening) (t k : ℕ) → is_first S keep past t k ≡ true → first S keep (Delivered t k ∷ past) k ≡ Some past
  first_new keep past t k on = go (asked_at past k) refl (first S keep past k) refl (is_busy keep (reached {S = S} past) t) refl on
    where
      go : (o : Option Asked) → asked_at past k ≡ o → (f : Option (List Happening)) → first S keep past k ≡ f → (b : Bool) → is_busy keep (reached {S = S} past) t ≡ b → is_first_of o f b ≡ true → first S keep (Delivered t k ∷ past) k ≡ Some past
      go None is f at b busy x = absurd (let never = never_first f b in cc)
      go (Some r) is (Some p) at b busy x = absurd (cc)
      go (Some r) is None at true busy x = absurd (cc)
      go (Some r) is None at false busy x = first_here S keep past t k r is busy at

  -- and what another one does
  first_old : (keep : ℕ) (past : List Happening) (t k j : ℕ) → is_first S keep past t k ≡ false → first S keep (Delivered t k ∷ past) j ≡ first S keep past j
  first_old keep past t k j off = go (asked_at past k) refl (first S keep past k) refl (is_busy keep (reached {S = S} past) t) refl off
    where
      go : (o : Option Asked) → asked_at past k ≡ o → (f : Option (List Happening)) → first S keep past k ≡ f → (b : Bool) → is_busy keep (reached {S = S} past) t ≡ b → is_first_of o f b ≡ false → first S keep (Delivered t k ∷ past) j ≡ first S keep past j
      go None is f at b busy x = first_none S keep past t k j is
      go (Some r) is (Some p) at b busy x = ⊎_elim
          (λ (e : k ≡ j). first_stays S keep past t k j p (ap (first S keep past) (sym e) ∙ at))
          (λ (ne : k ≡ j → ⊥). first_other S keep past t k j ne)
          (cases_eq k j)
      go (Some r) is None at true busy x = first_busy S keep past t k j busy
      go (Some r) is None at false busy x = absurd (cc)

get_append : (xs : List ℕ) (y i a : ℕ) → slice_get (xs ++ y ∷ []) i ≡ Some a → (slice_get xs i ≡ Some a) ⊎ ((i ≡ length xs) × (a ≡ y))
get_append [] y zero a e = inr (refl, cc)
get_append [] y (suc i) a e = absurd (cc)
get_append (x ∷ xs) y zero a e = inl e
get_append (x ∷ xs) y (suc i) a e = ⊎_elim (λ (z : slice_get xs i ≡ Some a). inl z) (λ (z : (i ≡ length xs) × (a ≡ y)). inr (ap suc z.0, z.1)) (get_append xs y i a e)

get_within : (xs : List ℕ) (i a : ℕ) → slice_get xs i ≡ Some a → i < length xs
get_within [] i a e = absurd (cc)
get_within (x ∷ xs) zero a e = omega arith
get_within (x ∷ xs) (suc i) a e = let z = get_within xs i a e in omega arith

module _ (S : Type 0) (keep : ℕ) where
  -- a number in the list arrived, before the end of the log
  listed : (log : List Happening) (i a : ℕ) → slice_get (firsts S keep log) i ≡ Some a → (p : List Happening) × (first S keep log a ≡ Some p) × (length p < length log)
  listed [] i a e = absurd (cc)
  listed (Opened _ ∷ past) i a e = let x = listed past i a e in let l = x.2 in (x.0, x.1, omega arith)
  listed (Sensed _ _ _ ∷ past) i a e = let x = listed past i a e in let l = x.2 in (x.0, x.1, omega arith)
  listed (WentDown _ ∷ past) i a e = let x = listed past i a e in let l = x.2 in (x.0, x.1, omega arith)
  listed (Delivered t k ∷ past) i a e = go (λ y. listed past i a y) (is_first S keep past t k) refl e
    where
      Listed : Type 0
      Listed = (p : List Happening) × (first S keep (Delivered t k ∷ past) a ≡ Some p) × (length p < suc (length past))

      old : (p : List Happening) × (first S keep past a ≡ Some p) × (length p < length past) → Listed
      old x = let l = x.2 in (x.0, first_stays S keep past t k a x.0 x.1 ∙ x.1, omega arith)

      go : (slice_get (firsts S keep past) i ≡ Some a → (p : List Happening) × (first S keep past a ≡ Some p) × (length p < length past)) → (b : Bool) → is_first S keep past t k ≡ b → slice_get (if b then firsts S keep past ++ k ∷ [] else firsts S keep past) i ≡ Some a → Listed
      go ih false off y = old (ih y)
      go ih true on y = ⊎_elim
          (λ (z : slice_get (firsts S keep past) i ≡ Some a). old (ih z))
          (λ (z : (i ≡ length (firsts S keep past)) × (a ≡ k)). (past, ap (first S keep (Delivered t k ∷ past)) z.1 ∙ first_new S keep past t k on, omega arith))
          (get_append (firsts S keep past) k i a y)

  -- what was sooner stays so
  stays_sooner : (past : List Happening) (t k a b : ℕ) → IsSooner (first S keep past a) (first S keep past b) → IsSooner (first S keep (Delivered t k ∷ past) a) (first S keep (Delivered t k ∷ past) b)
  stays_sooner past t k a b x = go (first S keep past a) refl (first S keep past b) refl x
    where
      go : (f : Option (List Happening)) → first S keep past a ≡ f → (g : Option (List Happening)) → first S keep past b ≡ g → IsSooner f g → IsSooner (first S keep (Delivered t k ∷ past) a) (first S keep (Delivered t k ∷ past) b)
      go None at g is y = absurd (y)
      go (Some p) at None is y = absurd (y)
      go (Some p) at (Some q) is y = subst (λ (z : Option (List Happening) × Option (List Happening)). IsSooner z.0 z.1) (λ i. (sym (first_stays S keep past t k a p at ∙ at) i, sym (first_stays S keep past t k b q is ∙ is) i)) y

  rises : (log : List Happening) (i n a b : ℕ) → i < n → slice_get (firsts S keep log) i ≡ Some a → slice_get (firsts S keep log) n ≡ Some b → IsSooner (first S keep log a) (first S keep log b)
  rises [] i n a b l x y = absurd (cc)
  rises (Opened _ ∷ past) i n a b l x y = rises past i n a b l x y
  rises (Sensed _ _ _ ∷ past) i n a b l x y = rises past i n a b l x y
  rises (WentDown _ ∷ past) i n a b l x y = rises past i n a b l x y
  rises (Delivered t k ∷ past) i n a b l x y = go (λ u v. stays_sooner past t k a b (rises past i n a b l u v)) (is_first S keep past t k) refl x y
    where
      Here : Type 0
      Here = IsSooner (first S keep (Delivered t k ∷ past) a) (first S keep (Delivered t k ∷ past) b)

      last : is_first S keep past t k ≡ true → slice_get (firsts S keep past) i ≡ Some a → b ≡ k → Here
      last on u e =
          let z = listed past i a u in
          subst (λ (w : Option (List Happening) × Option (List Happening)). IsSooner w.0 w.1)
          (λ s. (sym (first_stays S keep past t k a z.0 z.1 ∙ z.1) s, sym (ap (first S keep (Delivered t k ∷ past)) e ∙ first_new S keep past t k on) s))
          (z.2)

      go : (slice_get (firsts S keep past) i ≡ Some a → slice_get (firsts S keep past) n ≡ Some b → Here) → (c : Bool) → is_first S keep past t k ≡ c → slice_get (if c then firsts S keep past ++ k ∷ [] else firsts S keep past) i ≡ Some a → slice_get (if c then firsts S keep past ++ k ∷ [] else firsts S keep past) n ≡ Some b → Here
      go ih false off u v = ih u v
      go ih true on u v = two (get_append (firsts S keep past) k i a u) (get_append (firsts S keep past) k n b v)
        where
          two : (slice_get (firsts S keep past) i ≡ Some a) ⊎ ((i ≡ length (firsts S keep past)) × (a ≡ k)) → (slice_get (firsts S keep past) n ≡ Some b) ⊎ ((n ≡ length (firsts S keep past)) × (b ≡ k)) → Here
          two (inl p) (inl q) = ih p q
          two (inl p) (inr q) = last on p q.1
          two (inr p) (inl q) = absurd (let w = get_within (firsts S keep past) n b q in let e = p.0 in omega arith)
          two (inr p) (inr q) = absurd (let e = p.0 in let f = q.0 in omega arith)

  has : (log : List Happening) (k : ℕ) → list_any (λ n. n == k) (firsts S keep log) ≡ is_some (first S keep log k)
  has [] k = refl
  has (Opened _ ∷ past) k = has past k
  has (Sensed _ _ _ ∷ past) k = has past k
  has (WentDown _ ∷ past) k = has past k
  has (Delivered t j ∷ past) k = go (has past k) (is_first S keep past t j) refl
    where
      or_none : (x y : Bool) → y ≡ false → (x || (y || false)) ≡ x
      or_none true y e = refl
      or_none false y e = ap (λ z. z || false) e

      or_some : (x y : Bool) → y ≡ true → (x || (y || false)) ≡ true
      or_some true y e = refl
      or_some false y e = ap (λ z. z || false) e

      go : list_any (λ n. n == k) (firsts S keep past) ≡ is_some (first S keep past k) → (b : Bool) → is_first S keep past t j ≡ b → list_any (λ n. n == k) (if b then firsts S keep past ++ j ∷ [] else firsts S keep past) ≡ is_some (first S keep (Delivered t j ∷ past) k)
      go ih false off = ih ∙ ap is_some (sym (first_old S keep past t j k off))
      go ih true on = list_any-append (λ n. n == k) (firsts S keep past) (j ∷ []) ∙ ⊎_elim
          (λ (e : j ≡ k). or_some (list_any (λ n. n == k) (firsts S keep past)) (j == k) (eq-eqb j k e) ∙ ap is_some (sym (ap (first S keep (Delivered t j ∷ past)) (sym e) ∙ first_new S keep past t j on)))
          (λ (ne : j ≡ k → ⊥). or_none (list_any (λ n. n == k) (firsts S keep past)) (j == k) (ne_eqb j k ne) ∙ ih ∙ ap is_some (sym (first_other S keep past t j k ne)))
          (cases_eq j k)

  -- over any log
  pub firsts_are : (log : List Happening) → IsOrderOfFirsts S keep log (firsts S keep log)
  firsts_are log = record { has = has log; rises = rises log; once = once }
    where
      never : (f : Option (List Happening)) → IsSooner f f → ⊥
      never None x = x
      never (Some p) x = omega (arith, x)

      once : (i n k : ℕ) → slice_get (firsts S keep log) i ≡ Some k → slice_get (firsts S keep log) n ≡ Some k → i ≡ n
      once i n k x y = ⊎_elim
          (λ (e : i ≡ n). e)
          (λ (ne : i ≡ n → ⊥). absurd (⊎_elim
          (λ (l : i < n). never (first S keep log k) (rises log i n k k l x y))
          (λ (l : n < i). never (first S keep log k) (rises log n i k k l y x))
          (side ne)))
          (cases_eq i n)
        where
          side : (i ≡ n → ⊥) → (i < n) ⊎ (n < i)
          side ne = ⊎_elim (λ (t : nat_lt i n ≡ true). inl (ltb-true i n t)) (λ (t : nat_lt i n ≡ false). inr (let l = ltb-false i n t in omega arith)) (cases_Bool (nat_lt i n))

module _ (S : Type 0) (window keep lifetime : ℕ) (less : lifetime ≤ keep) where
  pub fresh_first : (past : List Happening) (t k : ℕ) → InOrder (Delivered t k ∷ past) → AreApart S window keep lifetime past → InTime S window keep lifetime (Delivered t k ∷ past) → fresh_of window keep (reached {S = S} past) t (asked_at past k) ≡ is_first S keep past t k
  fresh_first past t k o a i = go (asked_at past k) refl (is_busy keep (reached {S = S} past) t) refl
    where
      late : (r : Asked) (f : Option (List Happening)) → is_first_of (Some r) f true ≡ false
      late r None = refl
      late r (Some p) = refl

      go : (q : Option Asked) → asked_at past k ≡ q → (b : Bool) → is_busy keep (reached {S = S} past) t ≡ b → fresh_of window keep (reached {S = S} past) t q ≡ is_first S keep past t k
      go None is b busy = sym (ap (λ q. is_first_of q (first S keep past k) (is_busy keep (reached {S = S} past) t)) is ∙ never_first (first S keep past k) (is_busy keep (reached {S = S} past) t))
      go (Some r) is false idle =
          same_fresh S ℕ window keep past (message_at t r)
          ∙ (entry idle_device window keep lifetime less 0 past t k r o (same_apart S ℕ window keep lifetime past a) (same_in_time S ℕ window keep lifetime (Delivered t k ∷ past) i) is (same_busy ℕ S keep past t ∙ idle)).0
          ∙ same_is_first ℕ S keep past t k
      go (Some r) is true busy =
          and_left (not (is_busy keep (reached {S = S} past) t)) (not (is_copy All window keep (reached {S = S} past) (message_at t r))) (not_from_true _ busy)
          ∙ sym (ap (λ q. is_first_of q (first S keep past k) (is_busy keep (reached {S = S} past) t)) is ∙ ap (is_first_of (Some r) (first S keep past k)) busy ∙ late r (first S keep past k))

  pub order_firsts : (log : List Happening) → InOrder log → AreApart S window keep lifetime log → InTime S window keep lifetime log → order S window keep log ≡ firsts S keep log
  order_firsts [] o a i = refl
  order_firsts (Opened _ ∷ past) o a i = order_firsts past o.1 a.1 i
  order_firsts (Sensed _ _ _ ∷ past) o a i = order_firsts past o.1 a i
  order_firsts (WentDown _ ∷ past) o a i = order_firsts past o.1 a i
  order_firsts (Delivered t k ∷ past) o a i = λ s. if fresh_first past t k o a i s then order_firsts past o.1 a i.1 s ++ k ∷ [] else order_firsts past o.1 a i.1 s

  pub order_is : (log : List Happening) → InOrder log → AreApart S window keep lifetime log → InTime S window keep lifetime log → IsOrderOfFirsts S keep log (order S window keep log)
  order_is log o a i = subst (IsOrderOfFirsts S keep log) (sym (order_firsts log o a i)) (firsts_are S keep log)
