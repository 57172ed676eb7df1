-- What the device gave to a request: its one reply, once it has arrived.
use Rattle.std.proofs.Common.{◌≡◌, ◌⊎◌, ℕ, ◌≤◌, List, [], ◌∷◌, Some, None, Option, Bool, true, false, refl, sym, ap, ◌∙◌, subst, inl, inr, eqb-true}
use Rattle.std.specs.Prelude.{◌&&◌, ◌||◌, ◌==◌, option_map, if◌then◌else◌}
use Rattle.std.proofs.lemmas.Bool.{and_parts, and_right, not-true, cases_Bool, cond-true, cond-false}
use Rattle.pldm_responder.specs.Events.{is_busy}
use Rattle.pldm_responder.specs.Performing.{Rules}
use Rattle.mctp_schedule.specs.Logs.{Asked, Happening, Opened, Delivered, Sensed, WentDown, count_of, asked_at, reached, InOrder}
use Rattle.mctp_schedule.specs.Timely.{AreApart, InTime}
use Rattle.mctp_schedule.specs.FirstArrivals.{arrives, earlier, first, is_answered_busy}
use Rattle.mctp_schedule.specs.OncePerformed.{bytes_of, reply_from, the_reply, answered_to, given, given_once, was_busy}
use Rattle.mctp_schedule.proofs.FirstPerformed.{request_older, first_below, first_here, first_stays, entry}

-- the one reply, where the request first arrived at some place
abbrev pub reply_at_first : {S : Type 0} → Rules S → ℕ → S → List Happening → ℕ → Option (List Happening) → Option (List ℕ)
reply_at_first device keep start log k place = option_map (λ _. the_reply device keep start log k) place

module _ {S : Type 0} (device : Rules S) (window keep lifetime : ℕ) (less : lifetime ≤ keep) (start : S) where
  abbrev pub Reply : List Happening → ℕ → List ℕ
  Reply log k = the_reply device keep start log k

  -- one more delivery
  step : (past : List Happening) (moment i k : ℕ) → InOrder (Delivered moment i ∷ past) → AreApart S window keep lifetime past → InTime S window keep lifetime (Delivered moment i ∷ past) → given device window keep start past k ≡ reply_at_first device keep start past k (first S keep past k) → given device window keep start (Delivered moment i ∷ past) k ≡ reply_at_first device keep start (Delivered moment i ∷ past) k (first S keep (Delivered moment i ∷ past) k)
  step past moment i k o a it ih = go (cases_Bool test)
    where
      busy : Bool
      busy = is_busy keep (reached {S = S} past) moment

      test : Bool
      test = i == k && arrives (asked_at past k) busy

      log : List Happening
      log = Delivered moment i ∷ past

      old : test ≡ false → first S keep log k ≡ first S keep past k
      old off = inner (first S keep past k)
        where
          inner : (f : Option (List Happening)) → earlier f test past ≡ f
          inner (Some p) = refl
          inner None = ap (λ b. earlier None b past) off

      grown : (f : Option (List Happening)) → first S keep past k ≡ f → test ≡ false → reply_at_first device keep start past k f ≡ reply_at_first device keep start log k f
      grown None e off = refl
      grown (Some p) e off = ap (λ f. Some (reply_from device keep start (bytes_of (asked_at past k)) f)) (sym (old off))

      here : (o : Option Asked) → asked_at past k ≡ o → arrives o busy ≡ true → i ≡ k → Some (answered_to device window keep start moment past o) ≡ reply_at_first device keep start log k (first S keep log k)
      here None e on same = absurd (cc)
      here (Some r) e on same =
          let idle : busy ≡ false = not-true busy on in
          let it' = subst (λ n. InTime S window keep lifetime (Delivered moment n ∷ past)) same it in
          let x = entry device window keep lifetime less start past moment k r o a it' e idle in
          ap Some x.1
          ∙ ap (λ n. Some (the_reply device keep start (Delivered moment n ∷ past) k)) (sym same)
          ∙ came (first S keep past k) refl
        where
          came : (f : Option (List Happening)) → first S keep past k ≡ f → Some (Reply log k) ≡ reply_at_first device keep start log k (first S keep log k)
          came (Some p) e = ap (reply_at_first device keep start log k) (sym (first_stays S keep past moment i k p e ∙ e))
          came None none = ap (reply_at_first device keep start log k) (sym (subst (λ (n : ℕ). first S keep (Delivered moment n ∷ past) k ≡ Some past) (sym same) (first_here S keep past moment k r e (not-true busy on) none)))

      go : (test ≡ true) ⊎ (test ≡ false) → given device window keep start log k ≡ reply_at_first device keep start log k (first S keep log k)
      go (inr off) = cond-false test _ _ off ∙ ih ∙ grown (first S keep past k) refl off ∙ ap (reply_at_first device keep start log k) (sym (old off))
      go (inl on) = let p = and_parts (i == k) (arrives (asked_at past k) busy) on in cond-true test _ _ on ∙ here (asked_at past k) refl p.1 (eqb-true i k p.0)

  pub given_is : (log : List Happening) → InOrder log → AreApart S window keep lifetime log → InTime S window keep lifetime log → (k : ℕ) → given device window keep start log k ≡ reply_at_first device keep start log k (first S keep log k)
  given_is [] o a i k = refl
  given_is (Delivered moment n ∷ past) o a i k = step past moment n k o a i (given_is past o.1 a i.1 k)
  given_is (Sensed m x v ∷ past) o a i k = given_is past o.1 a i k ∙ same (first S keep past k)
    where
      same : (f : Option (List Happening)) → reply_at_first device keep start past k f ≡ reply_at_first device keep start (Sensed m x v ∷ past) k f
      same None = refl
      same (Some p) = refl
  given_is (WentDown m ∷ past) o a i k = given_is past o.1 a i k ∙ same (first S keep past k)
    where
      same : (f : Option (List Happening)) → reply_at_first device keep start past k f ≡ reply_at_first device keep start (WentDown m ∷ past) k f
      same None = refl
      same (Some p) = refl
  given_is (Opened q ∷ past) o a i k = given_is past o.1 a.1 i k ∙ same (first S keep past k) refl
    where
      same : (f : Option (List Happening)) → first S keep past k ≡ f → reply_at_first device keep start past k f ≡ reply_at_first device keep start (Opened q ∷ past) k f
      same None e = refl
      same (Some p) e = ap (λ (x : Option Asked). Some (reply_from device keep start (bytes_of x) (first S keep past k))) (sym (request_older q past k (first_below S keep past k p e)))

module _ {S : Type 0} (device : Rules S) (keep : ℕ) (start : S) where
  -- the one reply stays
  pub once_stays : (h : Happening) (log : List Happening) (k : ℕ) (m : List ℕ) → given_once device keep start log k ≡ Some m → given_once device keep start (h ∷ log) k ≡ Some m
  once_stays (Sensed a b c) log k m e = go (first S keep log k) e
    where
      go : (f : Option (List Happening)) → reply_at_first device keep start log k f ≡ Some m → reply_at_first device keep start (Sensed a b c ∷ log) k f ≡ Some m
      go None e = absurd (cc)
      go (Some p) e = e
  once_stays (WentDown n) log k m e = go (first S keep log k) e
    where
      go : (f : Option (List Happening)) → reply_at_first device keep start log k f ≡ Some m → reply_at_first device keep start (WentDown n ∷ log) k f ≡ Some m
      go None e = absurd (cc)
      go (Some p) e = e
  once_stays (Opened q) log k m e = go (first S keep log k) refl e
    where
      go : (f : Option (List Happening)) → first S keep log k ≡ f → reply_at_first device keep start log k f ≡ Some m → reply_at_first device keep start (Opened q ∷ log) k f ≡ Some m
      go None at e = absurd (cc)
      go (Some p) at e = ap (λ (x : Option Asked). Some (reply_from device keep start (bytes_of x) (first S keep log k))) (request_older q log k (first_below S keep log k p at)) ∙ e
  once_stays (Delivered moment i) log k m e = go (first S keep log k) refl e
    where
      go : (f : Option (List Happening)) → first S keep log k ≡ f → reply_at_first device keep start log k f ≡ Some m → reply_at_first device keep start (Delivered moment i ∷ log) k (first S keep (Delivered moment i ∷ log) k) ≡ Some m
      go None at e = absurd (cc)
      go (Some p) at e =
          let same = first_stays S keep log moment i k p at in
          ap (reply_at_first device keep start (Delivered moment i ∷ log) k) (same ∙ at)
          ∙ ap (λ f. Some (reply_from device keep start (bytes_of (asked_at log k)) f)) same
          ∙ e

  -- no busy answer was given to a number that is not opened
  pub busy_opened : (log : List Happening) (k : ℕ) → asked_at log k ≡ None → was_busy S keep log k ≡ false
  busy_opened [] k off = refl
  busy_opened (Sensed _ _ _ ∷ past) k off = busy_opened past k off
  busy_opened (WentDown _ ∷ past) k off = busy_opened past k off
  busy_opened (Opened q ∷ past) k off = busy_opened past k (go (k == count_of past) off)
    where
      go : (b : Bool) → (if b then Some q else asked_at past k) ≡ None → asked_at past k ≡ None
      go true e = absurd (cc)
      go false e = e
  busy_opened (Delivered moment i ∷ past) k off =
      ap (λ b. b || was_busy S keep past k)
      (and_right (i == k) _ (ap (λ o. is_answered_busy o (is_busy keep (reached {S = S} past) moment)) off))
      ∙ busy_opened past k off
