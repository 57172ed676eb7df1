-- What is reported of a request stays over a step that brings it nothing: its one reply, the packets that came, and its
-- progress.
use Rattle.std.proofs.Common.{◌≡◌, ◌⊎◌, ℕ, List, [], ◌∷◌, map, Option, Some, None, Bool, true, false, refl, sym, ap, ◌∙◌, subst, inl, inr, arith}
use Rattle.std.specs.Prelude.{◌&&◌, ◌==◌, nat_lt, if◌then◌else◌}
use Rattle.std.proofs.lemmas.Bool.{and_right, or_from, le-ltb, cond-false}
use Rattle.mctp_packet.specs.Pieces.{piece_count}
use Rattle.pldm_responder.specs.Events.{is_busy}
use Rattle.pldm_requester.specs.Calls.{Request}
use Rattle.pldm_requester.specs.Courses.{Progress, Waiting, Answered, GaveUp, is_open, is_waiting as waits}
use Rattle.mctp_schedule.specs.Logs.{Asked, Happening, Opened, Delivered, Sensed, WentDown, asked_at, count_of, reached}
use Rattle.mctp_schedule.specs.FirstArrivals.{arrives, earlier, first}
use Rattle.mctp_schedule.specs.OncePerformed.{bytes_of, given_once, reply_from, the_reply, was_busy}
use Rattle.mctp_schedule.specs.RequesterHalf.{ProgressIs}
use Rattle.mctp_schedule.specs.TakenReplies.{brought, came, completes_for, is_waiting, part_count, replies, reply_of, taken, takes, with_delivery}
use Rattle.mctp_schedule.specs.Worlds.{BothEnds, World, requests_of, world}
use Rattle.mctp_schedule.specs.Actions.{Action}
use Rattle.mctp_schedule.specs.Actions as actions
use Rattle.mctp_schedule.specs.Actions.{Step}
use Rattle.mctp_schedule.proofs.FirstPerformed.{first_stays}
use Rattle.mctp_schedule.proofs.OneReplyGiven.{busy_opened, once_stays, reply_at_first}
use Rattle.mctp_schedule.proofs.KnownRequests.{asked_stays_done, stays_done}
use Rattle.mctp_schedule.proofs.RowsOfReplies.{Below}

-- ---- deliveries
pub below_more : (n : ℕ) (js : List (Option ℕ)) → Below 0 js → Below n js
below_more n [] x = tt
below_more n (None ∷ js) x = below_more n js x
below_more n (Some j ∷ js) x = absurd (let y = x.0 in omega arith)

-- ---- first arrivals
module _ (S : Type 0) where
  pub first_more : (keep : ℕ) (h : Happening) (log : List Happening) (k : ℕ) (place : List Happening) → first S keep log k ≡ Some place → first S keep (h ∷ log) k ≡ Some place
  first_more keep (Opened r) log k place is = is
  first_more keep (Delivered moment j) log k place is = first_stays S keep log moment j k place is ∙ is
  first_more keep (Sensed _ _ _) log k place is = is
  first_more keep (WentDown _) log k place is = is

  -- what was never opened never arrived
  pub first_unopened : (keep : ℕ) (log : List Happening) (k : ℕ) → asked_at log k ≡ None → first S keep log k ≡ None
  first_unopened keep [] k off = refl
  first_unopened keep (Sensed _ _ _ ∷ past) k off = first_unopened keep past k off
  first_unopened keep (WentDown _ ∷ past) k off = first_unopened keep past k off
  first_unopened keep (Opened q ∷ past) k off = first_unopened keep past k (go (k == count_of past) off)
    where
      go : (b : Bool) → (if b then Some q else asked_at past k) ≡ None → asked_at past k ≡ None
      go true e = absurd (cc)
      go false e = e
  first_unopened keep (Delivered moment j ∷ past) k off =
      let test = j == k && arrives (asked_at past k) (is_busy keep (reached {S = S} past) moment) in
      let never : test ≡ false = and_right (j == k) _ (ap (λ o. arrives o (is_busy keep (reached {S = S} past) moment)) off) in
      (λ i. earlier (first_unopened keep past k off i) (never i) past)

-- ---- one request stays as it was, or is given up
pub record Kept (x y : Request) : Type 0 where
  pub fed : y.fed ≡ x.fed
  pub progress :
      (y.course.progress ≡ x.course.progress) ⊎ ((x.course.progress ≡ Waiting) × (y.course.progress ≡ GaveUp))

pub same_kept : (x y : Request) → y ≡ x → Kept x y
same_kept x y same = record { fed = ap (λ (r : Request). r.fed) same; progress = inl (ap (λ (r : Request). r.course.progress) same) }

kept_opens : (x y : Request) → Kept x y → is_open y.course ≡ true → is_open x.course ≡ true
kept_opens x y kept opens = go kept.progress
  where
    go : ((y.course.progress ≡ x.course.progress) ⊎ ((x.course.progress ≡ Waiting) × (y.course.progress ≡ GaveUp))) → is_open x.course ≡ true
    go (inl same) = ap waits (sym same) ∙ opens
    go (inr both) = absurd (let wrong = ap waits (both.1) in cc)

module _ {S : Type 0} (setting : BothEnds S) where
  abbrev Log : List Step → List Happening
  Log steps = (world setting steps).log

  abbrev pub Stands : List Step → Asked → Request
  Stands steps r = (requests_of setting (world setting steps) r.source).each r.own

  -- ---- the one reply
  reply_is : (log : List Happening) (k : ℕ) (m : List ℕ) → given_once setting.device setting.keep setting.start log k ≡ Some m → the_reply setting.device setting.keep setting.start log k ≡ m
  reply_is log k m e = go (first S setting.keep log k) e
    where
      go : (f : Option (List Happening)) → reply_at_first setting.device setting.keep setting.start log k f ≡ Some m → the_reply setting.device setting.keep setting.start log k ≡ m
      go None e = absurd (cc)
      go (Some place) e = cc

  pub arrived_stays : (step : Step) (past : List Step) (k : ℕ) (place : List Happening) → first S setting.keep (Log past) k ≡ Some place → first S setting.keep (Log (step ∷ past)) k ≡ Some place
  arrived_stays step past k place is =
      stays_done setting (λ log. first S setting.keep log k ≡ Some place) (λ h log e. first_more S setting.keep h log k place e) (world setting past) step.moment step.action is

  pub reply_stays : (step : Step) (past : List Step) (k : ℕ) (place : List Happening) → first S setting.keep (Log past) k ≡ Some place → reply_of setting (world setting (step ∷ past)) k ≡ reply_of setting (world setting past) k
  reply_stays step past k place is =
      let m = reply_of setting (world setting past) k in
      let before : given_once setting.device setting.keep setting.start (Log past) k ≡ Some m = ap (reply_at_first setting.device setting.keep setting.start (Log past) k) is in
      reply_is (Log (step ∷ past)) k m
      (stays_done setting (λ log. given_once setting.device setting.keep setting.start log k ≡ Some m) (λ h log e. once_stays setting.device setting.keep setting.start h log k m e) (world setting past) step.moment step.action before)

  pub no_parts : (world : World) (k : ℕ) → first S setting.keep world.log k ≡ None → reply_of setting world k ≡ []
  no_parts world k none = ap (reply_from setting.device setting.keep setting.start (bytes_of (asked_at world.log k))) none

  -- it stays, or it had not arrived
  stays_or_none : (step : Step) (past : List Step) (k : ℕ) → (reply_of setting (world setting (step ∷ past)) k ≡ reply_of setting (world setting past) k) ⊎ (part_count setting (world setting past) k ≡ 0)
  stays_or_none step past k = go (first S setting.keep (Log past) k) refl
    where
      go : (f : Option (List Happening)) → first S setting.keep (Log past) k ≡ f → (reply_of setting (world setting (step ∷ past)) k ≡ reply_of setting (world setting past) k) ⊎ (part_count setting (world setting past) k ≡ 0)
      go None e = inr (ap piece_count (no_parts (world setting past) k e))
      go (Some place) e = inl (reply_stays step past k place e)

  -- ---- the packets that came
  same_brought : (r : Asked) (m n : List ℕ) (js : List (Option ℕ)) → Below 0 js → map (brought setting r m) js ≡ map (brought setting r n) js
  same_brought r m n [] b = refl
  same_brought r m n (None ∷ js) b = ap (λ ps. brought setting r m None ∷ ps) (same_brought r m n js b)
  same_brought r m n (Some j ∷ js) b = absurd (let x = b.0 in omega arith)

  -- the same deliveries brought the same, and stay packets of the reply
  pub still_brought : (step : Step) (past : List Step) (k : ℕ) (r : Asked) → Below (part_count setting (world setting past) k) (replies setting past k)
      → map (brought setting r (reply_of setting (world setting (step ∷ past)) k)) (replies setting past k) ≡ came setting past k r
  still_brought step past k r b = go (stays_or_none step past k)
    where
      go : ((reply_of setting (world setting (step ∷ past)) k ≡ reply_of setting (world setting past) k) ⊎ (part_count setting (world setting past) k ≡ 0)) → map (brought setting r (reply_of setting (world setting (step ∷ past)) k)) (replies setting past k) ≡ came setting past k r
      go (inl same) = ap (λ m. map (brought setting r m) (replies setting past k)) same
      go (inr none) = same_brought r (reply_of setting (world setting (step ∷ past)) k) (reply_of setting (world setting past) k) (replies setting past k) (subst (λ n. Below n (replies setting past k)) none b)

  pub still_below : (step : Step) (past : List Step) (k : ℕ) → Below (part_count setting (world setting past) k) (replies setting past k) → Below (part_count setting (world setting (step ∷ past)) k) (replies setting past k)
  still_below step past k b = go (stays_or_none step past k)
    where
      go : ((reply_of setting (world setting (step ∷ past)) k ≡ reply_of setting (world setting past) k) ⊎ (part_count setting (world setting past) k ≡ 0)) → Below (part_count setting (world setting (step ∷ past)) k) (replies setting past k)
      go (inl same) = subst (λ m. Below (piece_count m) (replies setting past k)) (sym same) b
      go (inr none) = below_more (part_count setting (world setting (step ∷ past)) k) (replies setting past k) (subst (λ n. Below n (replies setting past k)) none b)

  -- ---- what holds of request k, which is r
  pub record Holds (steps : List Step) (k : ℕ) (r : Asked) : Type 0 where
    pub fed : is_waiting setting (world setting steps) r ≡ true → (Stands steps r).fed ≡ came setting steps k r
    pub below : Below (part_count setting (world setting steps) k) (replies setting steps k)
    pub progress : ProgressIs setting steps k (Stands steps r).course.progress
    pub arrived : taken setting steps k ≡ true → (place : List Happening) × (first S setting.keep (Log steps) k ≡ Some place)

  pub claim_moves : (step : Step) (past : List Step) (k : ℕ) (x : Progress) → taken setting (step ∷ past) k ≡ taken setting past k → (taken setting past k ≡ true → (place : List Happening) × (first S setting.keep (Log past) k ≡ Some place)) → ProgressIs setting past k x → ProgressIs setting (step ∷ past) k x
  claim_moves step past k Waiting same arrived c = same ∙ c
  claim_moves step past k GaveUp same arrived c = same ∙ c
  claim_moves step past k (Answered message) same arrived c =
      let came_in = arrived c.0 in
      (same ∙ c.0, c.1 ∙ sym (reply_stays step past k came_in.0 came_in.1))

  claim_kept : (step : Step) (past : List Step) (k : ℕ) (x y : Request) → Kept x y → taken setting (step ∷ past) k ≡ taken setting past k → (taken setting past k ≡ true → (place : List Happening) × (first S setting.keep (Log past) k ≡ Some place)) → ProgressIs setting past k x.course.progress → ProgressIs setting (step ∷ past) k y.course.progress
  claim_kept step past k x y kept same arrived c = go kept.progress
    where
      go : ((y.course.progress ≡ x.course.progress) ⊎ ((x.course.progress ≡ Waiting) × (y.course.progress ≡ GaveUp))) → ProgressIs setting (step ∷ past) k y.course.progress
      go (inl e) = subst (ProgressIs setting (step ∷ past) k) (sym e) (claim_moves step past k x.course.progress same arrived c)
      go (inr both) =
          let off : taken setting past k ≡ false = subst (ProgressIs setting past k) both.0 c in
          subst (ProgressIs setting (step ∷ past) k) (sym both.1) (same ∙ off)

  -- it holds after a step that brought it nothing
  pub holds_kept : (step : Step) (past : List Step) (k : ℕ) (r : Asked) → Holds past k r → Kept (Stands past r) (Stands (step ∷ past) r) → replies setting (step ∷ past) k ≡ replies setting past k → taken setting (step ∷ past) k ≡ taken setting past k → Holds (step ∷ past) k r
  holds_kept step past k r h kept rs ts = record {
    fed = λ opens. kept.fed ∙ h.fed (kept_opens (Stands past r) (Stands (step ∷ past) r) kept opens) ∙ sym (still_brought step past k r h.below) ∙ ap (map (brought setting r (reply_of setting (world setting (step ∷ past)) k))) (sym rs);
    below = subst (Below (part_count setting (world setting (step ∷ past)) k)) (sym rs) (still_below step past k h.below);
    progress = claim_kept step past k (Stands past r) (Stands (step ∷ past) r) kept ts h.arrived h.progress;
    arrived = λ t. let x = h.arrived (sym ts ∙ t) in (x.0, arrived_stays step past k x.0 x.1);
  }

  -- ---- nothing came to what was never opened
  not_yet : (step : Step) (past : List Step) (k : ℕ) → asked_at (Log (step ∷ past)) k ≡ None → asked_at (Log past) k ≡ None
  not_yet step past k off = go (asked_at (Log past) k) refl
    where
      go : (o : Option Asked) → asked_at (Log past) k ≡ o → o ≡ None
      go None e = refl
      go (Some r) e = let now = asked_stays_done setting (world setting past) step.moment step.action k r e in let wrong : Some r ≡ None = sym now ∙ off in absurd (cc)

  nothing_comes : (w : World) (k : ℕ) (action : Action) (js : List (Option ℕ)) → asked_at w.log k ≡ None → with_delivery setting w k action js ≡ js
  nothing_comes w k (actions.Reply j i) js off =
      let none : part_count setting w k ≡ 0 = ap piece_count (no_parts w k (first_unopened S setting.keep w.log k off)) in
      cond-false (i == k && nat_lt j (part_count setting w k)) _ _ (and_right (i == k) _ (le-ltb j (part_count setting w k) (omega arith)))
  nothing_comes w k (actions.Busy i) js off =
      cond-false (i == k && was_busy S setting.keep w.log k) _ _ (and_right (i == k) _ (busy_opened setting.device setting.keep setting.start w.log k off))
  nothing_comes w k (actions.Open e ask) js off = refl
  nothing_comes w k (actions.Tick e) js off = refl
  nothing_comes w k (actions.Request i) js off = refl
  nothing_comes w k (actions.Sense id value) js off = refl
  nothing_comes w k actions.Restart js off = refl

  nothing_taken : (past : List Step) (k : ℕ) (action : Action) → asked_at (Log past) k ≡ None → takes setting past k action ≡ false
  nothing_taken past k (actions.Reply j i) off = and_right (i == k) _ (ap (completes_for setting past k j) off)
  nothing_taken past k (actions.Busy i) off = refl
  nothing_taken past k (actions.Open e ask) off = refl
  nothing_taken past k (actions.Tick e) off = refl
  nothing_taken past k (actions.Request i) off = refl
  nothing_taken past k (actions.Sense id value) off = refl
  nothing_taken past k actions.Restart off = refl

  pub quiet : (steps : List Step) (k : ℕ) → asked_at (Log steps) k ≡ None → (replies setting steps k ≡ []) × (taken setting steps k ≡ false)
  quiet [] k off = (refl, refl)
  quiet (step ∷ past) k off =
      let was = not_yet step past k off in
      let before = quiet past k was in (
        nothing_comes (world setting past) k step.action (replies setting past k) was ∙ before.0,
        or_from (takes setting past k step.action) (taken setting past k) (nothing_taken past k step.action was) before.1,
      )
