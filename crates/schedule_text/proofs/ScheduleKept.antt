-- What every schedule keeps, through one more requester or step.
use Rattle.std.proofs.Common.{◌≡◌, ℕ, ◌≤◌, Bool, true, false, List, [], ◌∷◌, ◌++◌, refl, sym, ap, ◌∙◌}
use Rattle.std.specs.Prelude.{◌==◌, ◌||◌}
use Rattle.std.proofs.lemmas.Bool.{ne_eqb, eqb-false, false≢true}
use Rattle.schedule_text.specs.Schedules.{Spelled, IsSchedule, NeverGoBack, AreDistinct, AreKnown, has_requester, is_known, last_from}
use Rattle.schedule_text.specs.declared.step.RequesterLine.{RequesterLine}
use Rattle.schedule_text.specs.declared.step.Action.{Action}
use Rattle.schedule_text.specs.declared.step.Action.TheVariants.{Open, Tick, Request, Reply, Sense, Restart, Busy}
use Rattle.schedule_text.specs.declared.step.Step.{Step}

step_in_order : (moment : ℕ) (steps : List Step) (step : Step) → NeverGoBack moment steps → last_from moment steps ≤ step.moment → NeverGoBack moment (steps ++ step ∷ [])
step_in_order moment [] step ordered later = (later, tt)
step_in_order moment (first ∷ steps) step ordered later = (ordered.0, step_in_order first.moment steps step ordered.1 later)

step_known : (requesters : List RequesterLine) (steps : List Step) (step : Step) → AreKnown requesters steps → is_known requesters step.action ≡ true → AreKnown requesters (steps ++ step ∷ [])
step_known requesters [] step known here = (here, tt)
step_known requesters (first ∷ steps) step known here = (known.0, step_known requesters steps step known.1 here)

-- a requester that has a line keeps it
stays_in : (lines : List RequesterLine) (new : RequesterLine) (eid : ℕ) → has_requester lines eid ≡ true → has_requester (lines ++ new ∷ []) eid ≡ true
stays_in [] new eid e = cc
stays_in (line ∷ lines) new eid e = go (λ before. stays_in lines new eid before) (line.eid == eid) refl
  where
    go : (has_requester lines eid ≡ true → has_requester (lines ++ new ∷ []) eid ≡ true) → (b : Bool) → (line.eid == eid) ≡ b → (b || has_requester (lines ++ new ∷ []) eid) ≡ true
    go ih true t = refl
    go ih false t = ih (ap (λ b. b || has_requester lines eid) (sym t) ∙ e)

stays_known : (lines : List RequesterLine) (new : RequesterLine) (action : Action) → is_known lines action ≡ true → is_known (lines ++ new ∷ []) action ≡ true
stays_known lines new (Open eid command) e = stays_in lines new eid e
stays_known lines new (Tick eid) e = stays_in lines new eid e
stays_known lines new (Request number) e = refl
stays_known lines new (Reply packet number) e = refl
stays_known lines new (Sense id value) e = refl
stays_known lines new Restart e = refl
stays_known lines new (Busy number) e = refl

all_stay_known : (lines : List RequesterLine) (new : RequesterLine) (steps : List Step) → AreKnown lines steps → AreKnown (lines ++ new ∷ []) steps
all_stay_known lines new [] known = tt
all_stay_known lines new (step ∷ steps) known = (stays_known lines new step.action known.0, all_stay_known lines new steps known.1)

-- a new requester is none of the others
not_in : (lines : List RequesterLine) (new : RequesterLine) (eid : ℕ) → has_requester lines eid ≡ false → (new.eid == eid) ≡ false → has_requester (lines ++ new ∷ []) eid ≡ false
not_in [] new eid e other = ap (λ b. b || false) other
not_in (line ∷ lines) new eid e other = go (λ before. not_in lines new eid before other) (line.eid == eid) refl
  where
    go : (has_requester lines eid ≡ false → has_requester (lines ++ new ∷ []) eid ≡ false) → (b : Bool) → (line.eid == eid) ≡ b → (b || has_requester (lines ++ new ∷ []) eid) ≡ false
    go ih true t = absurd (false≢true (sym e ∙ ap (λ b. b || has_requester lines eid) t))
    go ih false t = ih (ap (λ b. b || has_requester lines eid) (sym t) ∙ e)

requester_distinct : (lines : List RequesterLine) (new : RequesterLine) → AreDistinct lines → has_requester lines new.eid ≡ false → AreDistinct (lines ++ new ∷ [])
requester_distinct [] new distinct none = (refl, tt)
requester_distinct (line ∷ lines) new distinct none = go (λ before. requester_distinct lines new distinct.1 before) (line.eid == new.eid) refl
  where
    go : (has_requester lines new.eid ≡ false → AreDistinct (lines ++ new ∷ [])) → (b : Bool) → (line.eid == new.eid) ≡ b → AreDistinct ((line ∷ lines) ++ new ∷ [])
    go ih true t = absurd (false≢true (sym none ∙ ap (λ b. b || has_requester lines new.eid) t))
    go ih false t =
        let other : (new.eid == line.eid) ≡ false = ne_eqb new.eid line.eid (λ same. eqb-false line.eid new.eid t (sym same)) in (
          not_in lines new line.eid distinct.0 other,
          ih (ap (λ b. b || has_requester lines new.eid) (sym t) ∙ none),
        )

pub with_step_kept : (before : Spelled) (step : Step) → IsSchedule before → last_from 0 before.steps ≤ step.moment → is_known before.requesters step.action ≡ true → IsSchedule (record { requesters = before.requesters; steps = before.steps ++ step ∷ [] })
with_step_kept before step kept later here = record {
  in_order = step_in_order 0 before.steps step kept.in_order later;
  distinct = kept.distinct;
  known = step_known before.requesters before.steps step kept.known here;
}

pub with_requester_kept : (before : Spelled) (line : RequesterLine) → IsSchedule before → has_requester before.requesters line.eid ≡ false → IsSchedule (record { requesters = before.requesters ++ line ∷ []; steps = before.steps })
with_requester_kept before line kept none = record {
  in_order = kept.in_order;
  distinct = requester_distinct before.requesters line kept.distinct none;
  known = all_stay_known before.requesters line before.steps kept.known;
}
