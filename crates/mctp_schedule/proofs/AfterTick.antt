-- A tick: which requests it gives up, by their numbers over all requests.
use Rattle.std.proofs.Common.{◌≡◌, ◌⊎◌, ℕ, ◌<◌, ◌≤◌, Bool, true, false, List, ◌∷◌, length, Option, Some, None, refl, sym, ap, subst, ◌∙◌, inl, inr, arith}
use Rattle.std.specs.Prelude.{◌==◌, option_map, slice_get, slice_index, if◌then◌else◌}
use Rattle.std.specs.List.{list_any}
use Rattle.std.proofs.lemmas.Bool.{cases_eq, cond-true, cond-false}
use Rattle.pldm_requester.specs.Calls as requester
use Rattle.pldm_requester.specs.Calls.{again_expected, given_up_expected, requests}
use Rattle.pldm_requester.specs.Courses as courses
use Rattle.pldm_requester.specs.Courses.{Course, given_up, is_given_up, is_sent_again, sent_again, ticked}
use Rattle.pldm_requester.specs.Laws.{SameIsLeft, TickLooksBack}
use Rattle.pldm_requester.specs.Slots.{held_of}
use Rattle.pldm_requester.specs.Steps.{IsHeld, again_at, given_up_at, ticked_held}
use Rattle.pldm_requester.specs.declared.results.Due.{Due as DueNumbers}
use Rattle.pldm_requester.specs.declared.timing.Timing.{Timing}
use Rattle.mctp_schedule.specs.Askers.{Side}
use Rattle.mctp_schedule.specs.Entries.{as_it_stands, numbered, numbers_of}
use Rattle.mctp_schedule.specs.HeldRuns.{HeldRun}
use Rattle.mctp_schedule.specs.Journals.{progress_after}
use Rattle.mctp_schedule.specs.Logs.{Asked, asked_at, endpoint_of}
use Rattle.mctp_schedule.specs.Running.{IsOpened, IsRunning}
use Rattle.schedule_text.specs.Schedules.{has_requester}
use Rattle.mctp_schedule.specs.Worlds.{BothEnds, World, requests_of, time_now, timing_of, with_call, world}
use Rattle.mctp_schedule.specs.declared.entry.Entry.TheVariants as entry
use Rattle.mctp_schedule.specs.declared.journal.Journal.{Journal}
use Rattle.mctp_schedule.specs.Actions as actions
use Rattle.mctp_schedule.specs.Actions.{Step}
use Rattle.mctp_schedule.proofs.AfterCall.{with_side, Writes, called_runs, new_side}
use Rattle.mctp_schedule.proofs.NumberedRequests.{among_none, among_one, get_index, index_get}
use Rattle.mctp_schedule.proofs.KeptByAStep.{call_here, call_other}

ticked_progress : (timing : Timing) (moment : ℕ) (course : Course) → (ticked timing moment course).progress ≡ (if is_given_up timing moment course then courses.GaveUp else course.progress)
ticked_progress timing moment course = go (is_given_up timing moment course) (is_sent_again timing moment course)
  where
    go : (b c : Bool) → (if b then given_up course else (if c then sent_again moment course else course)).progress ≡ (if b then courses.GaveUp else course.progress)
    go true c = refl
    go false true = refl
    go false false = refl

pub one_asked : (o : Option Asked) (q r : Asked) → o ≡ Some q → o ≡ Some r → q ≡ r
one_asked o q r e f = let both : ◌≡◌ {A = Option Asked} (Some q) (Some r) = sym e ∙ f in cc

module _ {S : Type 0} (setting : BothEnds S) (w : World) (moment e : ℕ) where
  abbrev v : World
  v = record { calls = with_call w.calls e (requester.Tick moment); log = w.log }

  timing : Timing
  timing = timing_of setting e

  -- what is known of the numbers at the endpoint e
  pub record Numbered : Type 0 where
    pub counted : length (numbers_of w.log e) ≡ (requests_of setting w e).count
    pub back : (own k : ℕ) → slice_get (numbers_of w.log e) own ≡ Some k → (r : Asked) × (asked_at w.log k ≡ Some r) × (r.source ≡ e) × (r.own ≡ own)

  pub unique : Numbered → (k : ℕ) (r : Asked) → asked_at w.log k ≡ Some r → (n : ℕ) → n < (requests_of setting w e).count → slice_index (numbers_of w.log e) n ≡ k → (r.source ≡ e) × (n ≡ r.own)
  unique z k r is n below at =
      let count = z.counted in
      let here = get_index (numbers_of w.log e) n (omega (arith, below, count)) ∙ ap Some at in
      let q = z.back n k here in
      let same = one_asked (asked_at w.log k) q.0 r q.1 is in
      (sym (ap (λ (a : Asked). a.source) same) ∙ q.2, sym q.3 ∙ ap (λ (a : Asked). a.own) same)

  stood : (k : ℕ) (r : Asked) (b : Bool) → list_any (λ n. n == k) (numbered (numbers_of w.log e) (given_up_expected (endpoint_of e) setting.eid (timing_of setting e) setting.pace (w.calls e) moment)) ≡ b
      → (as_it_stands setting v r).progress ≡ (if b then courses.GaveUp else (as_it_stands setting w r).progress)
      → progress_after (numbered (numbers_of w.log e) (given_up_expected (endpoint_of e) setting.eid (timing_of setting e) setting.pace (w.calls e) moment)) k (as_it_stands setting w r) ≡ as_it_stands setting v r
  stood k r true listed progress = cond-true _ _ _ listed ∙ ap (λ s. record { asked = r; progress = s }) (sym progress)
  stood k r false listed progress = cond-false _ _ _ listed ∙ ap (λ s. record { asked = r; progress = s }) (sym progress)

  pub ticked_stands : Numbered → (k : ℕ) (r : Asked) → asked_at w.log k ≡ Some r → IsOpened setting w k r
      → progress_after (numbered (numbers_of w.log e) (given_up_expected (endpoint_of e) setting.eid (timing_of setting e) setting.pace (w.calls e) moment)) k (as_it_stands setting w r) ≡ as_it_stands setting v r
  ticked_stands z k r is o = go (cases_eq r.source e)
    where
      test : ℕ → Bool
      test n = is_given_up (timing_of setting e) moment ((requests_of setting w e).each n).course

      go : (r.source ≡ e) ⊎ (r.source ≡ e → ⊥) → progress_after (numbered (numbers_of w.log e) (given_up_expected (endpoint_of e) setting.eid (timing_of setting e) setting.pace (w.calls e) moment)) k (as_it_stands setting w r) ≡ as_it_stands setting v r
      go (inr other) =
          stood k r false
          (among_none (slice_index (numbers_of w.log e)) (λ n. is_given_up (timing_of setting e) moment ((requests_of setting w e).each n).course) k 0 (requests_of setting w e).count (λ i low high at. other (unique z k r is i (omega arith) at).0))
          (ap (λ cs. ((requests (endpoint_of r.source) setting.eid (timing_of setting r.source) setting.pace cs).each r.own).course.progress) (call_other w.calls e (requester.Tick moment) r.source other))
      go (inl same) =
          let within = subst (λ d. r.own < (requests_of setting w d).count) same o.within in
          let number = subst (λ d. slice_get (numbers_of w.log d) r.own ≡ Some k) same o.number in
          let here : with_call w.calls e (requester.Tick moment) r.source ≡ requester.Tick moment ∷ w.calls r.source =
          ap (with_call w.calls e (requester.Tick moment)) same ∙ call_here w.calls e (requester.Tick moment) ∙ ap (λ d. requester.Tick moment ∷ w.calls d) (sym same) in
          stood k r (is_given_up (timing_of setting e) moment ((requests_of setting w e).each r.own).course)
          (among_one (slice_index (numbers_of w.log e)) (λ n. is_given_up (timing_of setting e) moment ((requests_of setting w e).each n).course) k r.own 0 (requests_of setting w e).count (omega arith) (omega (arith, within)) (index_get (numbers_of w.log e) r.own k number)
          (λ i low high at. (unique z k r is i (omega arith) at).1))
          (ap (λ cs. ((requests (endpoint_of r.source) setting.eid (timing_of setting r.source) setting.pace cs).each r.own).course.progress) here
          ∙ ticked_progress (timing_of setting r.source) moment ((requests_of setting w r.source).each r.own).course
          ∙ ap (λ d. if is_given_up (timing_of setting d) moment ((requests_of setting w d).each r.own).course then courses.GaveUp else (as_it_stands setting w r).progress) same)

-- what a tick found due, over all requests
pub due_is : (due : DueNumbers) (again given_up : List ℕ) → due.again.items ≡ again → due.given_up.items ≡ given_up → due ≡ record { again = record { items = again }; given_up = record { items = given_up } }
due_is due again given_up a b =
    ap (λ (xs : List ℕ). record { again = record { items = xs }; given_up = due.given_up }) a ∙ ap (λ (xs : List ℕ). record { again = record { items = again }; given_up = record { items = xs } }) b

module _ {P S : Type 0} (setting : BothEnds S) (past : List Step) (run : HeldRun P S) (journal : Journal) (running : IsRunning setting past run) (moment : ℕ) (later : time_now past ≤ moment) (e : ℕ) (has : has_requester setting.requesters e ≡ true) (new : Side) (due : DueNumbers) where
  pub record Ticks : Type 0 where
    pub held : IsHeld (held_of new.station) (ticked_held (held_of (running.sides e has).0.station) moment)
    pub same_numbers : new.numbers ≡ (running.sides e has).0.numbers
    pub again : due.again.items ≡ numbered (running.sides e has).0.numbers (again_at (held_of (running.sides e has).0.station) moment)
    pub given_up : due.given_up.items ≡ numbered (running.sides e has).0.numbers (given_up_at (held_of (running.sides e has).0.station) moment)
    pub requests : (k : ℕ) → slice_get journal.requests.items k ≡ option_map (progress_after due.given_up.items k) (slice_get run.journal.requests.items k)
    pub counted : length journal.requests.items ≡ length run.journal.requests.items
    pub writes : Writes run.journal journal (entry.Due due)
    pub timely : journal.timely ≡ run.journal.timely

  pub tick_runs : TickLooksBack → SameIsLeft → Ticks → IsRunning setting (record { moment = moment; action = actions.Tick e } ∷ past) (with_side run e new journal)
  tick_runs looks same t =
      let w = world setting past in
      let side = (running.sides e has).0 in
      let s = (running.sides e has).2 in
      let timing = timing_of setting e in
      let looked = looks (endpoint_of e) setting.eid timing setting.pace (held_of side.station) (w.calls e) moment s.left in
      let left = same (endpoint_of e) setting.eid timing setting.pace (held_of new.station) (ticked_held (held_of side.station) moment) (requester.Tick moment ∷ w.calls e) t.held looked.2 in
      let again = t.again ∙ ap (λ xs. numbered xs (again_at (held_of side.station) moment)) s.numbers ∙ ap (numbered (numbers_of w.log e)) looked.0 in
      let given_up = t.given_up ∙ ap (λ xs. numbered xs (given_up_at (held_of side.station) moment)) s.numbers ∙ ap (numbered (numbers_of w.log e)) looked.1 in
      called_runs setting past run journal running moment later (actions.Tick e) e has (requester.Tick moment) new (entry.Due due)
      (record {
        after = refl;
        is_side = new_side setting past run journal running moment later (actions.Tick e) e has (requester.Tick moment) new left t.same_numbers refl (let l = t.held.last in omega (arith, l));
        requests = λ k. t.requests k ∙ ap (option_map (progress_after due.given_up.items k)) (running.requests k) ∙ stand k given_up (asked_at w.log k) refl;
        counted = t.counted;
        writes = t.writes;
        is_entry = ap entry.Due (due_is due _ _ again given_up);
        timely = t.timely ∙ running.timely;
      })
    where
      stand : (k : ℕ) → due.given_up.items ≡ numbered (numbers_of (world setting past).log e) (given_up_expected (endpoint_of e) setting.eid (timing_of setting e) setting.pace ((world setting past).calls e) moment) → (o : Option Asked) → asked_at (world setting past).log k ≡ o
          → option_map (progress_after due.given_up.items k) (option_map (as_it_stands setting (world setting past)) o) ≡ option_map (as_it_stands setting (record { calls = with_call (world setting past).calls e (requester.Tick moment); log = (world setting past).log })) o
      stand k given_up None is = refl
      stand k given_up (Some r) is =
          let s = (running.sides e has).2 in
          ap Some (ap (λ xs. progress_after xs k (as_it_stands setting (world setting past) r)) given_up ∙ ticked_stands setting (world setting past) moment e (record { counted = s.counted; back = s.numbered }) k r is (running.opened k r is))
