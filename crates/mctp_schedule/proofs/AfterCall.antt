-- A call of a requester that leaves the log: what a run holds then.
use Rattle.std.proofs.Common.{◌≡◌, ◌⊎◌, ℕ, zero, suc, ◌<◌, ◌≤◌, true, List, [], ◌∷◌, ◌++◌, length, Option, Some, None, refl, sym, ap, subst, ◌∙◌, inl, inr, arith}
use Rattle.std.specs.Prelude.{option_map, slice_get, slice_index_or, slice_set}
use Rattle.std.proofs.lemmas.Bool.{cases_eq}
use Rattle.pldm_requester.specs.Calls as requester
use Rattle.pldm_requester.specs.Calls.{requests}
use Rattle.pldm_requester.specs.Laws.{IsLeftBy}
use Rattle.pldm_requester.specs.Slots.{held_of}
use Rattle.mctp_schedule.specs.Askers.{Side}
use Rattle.mctp_schedule.specs.Entries.{as_it_stands, entries, entry_of}
use Rattle.mctp_schedule.specs.FirstArrivals.{order}
use Rattle.mctp_schedule.specs.HeldRuns.{HeldRun}
use Rattle.mctp_schedule.specs.Journals.{Carried}
use Rattle.mctp_schedule.specs.Logs.{asked_at, count_of, endpoint_of}
use Rattle.mctp_schedule.specs.OncePerformed.{AreRequests, RepliesFit}
use Rattle.mctp_schedule.specs.Places.{side_at}
use Rattle.mctp_schedule.specs.Requests.{Request}
use Rattle.mctp_schedule.specs.Running.{IsCarried, IsDevice, IsOpened, IsRunning, IsSide}
use Rattle.mctp_schedule.specs.Timely.{ids_arrived}
use Rattle.schedule_text.specs.Schedules.{has_requester}
use Rattle.mctp_schedule.specs.Worlds.{BothEnds, World, is_timely, requests_of, time_now, timing_of, with_call, world}
use Rattle.mctp_schedule.specs.declared.entry.Entry.{Entry}
use Rattle.mctp_schedule.specs.declared.journal.Journal.{Journal}
use Rattle.mctp_schedule.specs.Actions.{Action}
use Rattle.mctp_schedule.specs.Actions.{Step}
use Rattle.mctp_schedule.proofs.LogsAndCalls.{call_grows}
use Rattle.mctp_schedule.proofs.ListPlaces.{get_or, or_get, or_set_at, or_set_other}
use Rattle.mctp_schedule.proofs.AfterReadingOrRestart.{Enters, with_responder}
use Rattle.mctp_schedule.proofs.KeptByAStep.{call_here, call_other, still_carried, still_device, still_opened, still_side}

-- a place that holds something is one of the list
pub or_within : {X : Type 0} (xs : List (Option X)) (i : ℕ) (x : X) → slice_index_or xs i None ≡ Some x → i < length xs
or_within [] i x e = absurd (cc)
or_within (y ∷ xs) zero x e = omega arith
or_within (y ∷ xs) (suc i) x e = let l = or_within xs i x e in omega (arith, l)

-- what is held when the requester at an endpoint and what is written down have changed
abbrev pub with_side : {P S : Type 0} → HeldRun P S → ℕ → Side → Journal → HeldRun P S
with_side run e new journal = record {
  keep = run.keep;
  window = run.window;
  responder = run.responder;
  places = slice_set run.places e (Some new);
  journal = journal;
  arrivals = run.arrivals;
}

-- what is written down besides the requests stays, but for one more entry
pub record Writes (old new : Journal) (x : Entry) : Type 0 where
  pub entries : new.entries ≡ old.entries ++ x ∷ []
  pub traffic : new.traffic.items ≡ old.traffic.items
  pub order : new.order.items ≡ old.order.items

module _ {P S : Type 0} (setting : BothEnds S) (past : List Step) (run : HeldRun P S) (journal : Journal) (running : IsRunning setting past run) (moment : ℕ) (later : time_now past ≤ moment) (a : Action) where
  abbrev w : World
  w = world setting past

  abbrev steps : List Step
  steps = record { moment = moment; action = a } ∷ past

  -- ---- nothing is delivered
  pub nothing_runs : world setting steps ≡ w → Enters run.journal journal (entry_of setting w moment a) → is_timely setting steps ≡ is_timely setting past → IsRunning setting steps (with_responder run run.responder journal)
  nothing_runs same enters timely =
      let back : w ≡ world setting steps = sym same in
      record {
        times = running.times;
        pace = running.pace;
        window = running.window;
        device = subst (λ v. IsDevice setting v moment run.responder) back (still_device setting w w (time_now past) moment run.responder refl later running.device);
        sides = λ e has.
            let s = running.sides e has in
            (s.0, s.1, subst (λ v. IsSide setting v moment e s.0) back (still_side setting w w (time_now past) moment e s.0 refl refl (λ k r is. is) later s.2));
        opened = λ k r is. subst (λ v. IsOpened setting v k r) back (running.opened k r (ap (λ v. asked_at v.log k) back ∙ is));
        requests = λ k. ap (λ rs. slice_get rs k) enters.requests ∙ running.requests k ∙ ap (λ v. option_map (as_it_stands setting v) (asked_at v.log k)) back;
        counted = ap (λ (rs : List Request). length rs) enters.requests ∙ running.counted ∙ ap (λ (v : World). count_of v.log) back;
        traffic = λ k r is.
            let t = running.traffic k r (ap (λ v. asked_at v.log k) back ∙ is) in (
              t.0,
              ap (λ ts. slice_get ts k) enters.traffic ∙ t.1,
              subst (λ v. IsCarried setting v journal.entries k r t.0) back
                  (subst (λ es. IsCarried setting w es k r t.0) (sym enters.entries) (still_carried setting w w run.journal.entries (entry_of setting w moment a) k r t.0 refl refl refl t.2)),
            );
        carried = ap (λ (ts : List Carried). length ts) enters.traffic ∙ running.carried ∙ ap (λ (v : World). count_of v.log) back;
        entries = enters.entries ∙ ap (λ es. es ++ entry_of setting w moment a ∷ []) running.entries;
        order = enters.order ∙ running.order ∙ ap (λ (v : World). order S setting.window setting.keep v.log) back;
        arrived = λ source. running.arrived source ∙ ap (λ (v : World). ids_arrived S setting.keep v.log source) back;
        timely = enters.timely ∙ running.timely ∙ sym timely;
        sent = subst (λ (v : World). AreRequests v.log) back running.sent;
        fit = subst (λ (v : World). RepliesFit setting.device setting.window setting.keep setting.start v.log) back running.fit;
      }

  -- ---- the requester at the endpoint e was called once more
  module _ (e : ℕ) (has : has_requester setting.requesters e ≡ true) (call : requester.Call) (new : Side) where
    abbrev v : World
    v = record { calls = with_call w.calls e call; log = w.log }

    side : Side
    side = (running.sides e has).0

    grows : (d : ℕ) → (requests_of setting w d).count ≤ (requests_of setting v d).count
    grows d = go (cases_eq d e)
      where
        go : (d ≡ e) ⊎ (d ≡ e → ⊥) → (requests_of setting w d).count ≤ (requests_of setting v d).count
        go (inl same) =
            let here = ap (λ cs. (requests (endpoint_of d) setting.eid (timing_of setting d) setting.pace cs).count) (ap (with_call w.calls e call) same ∙ call_here w.calls e call ∙ ap (λ k. call ∷ w.calls k) (sym same)) in
            let more = (call_grows (endpoint_of d) setting.eid (timing_of setting d) setting.pace (requests_of setting w d) call).count in
            omega (arith, here, more)
        go (inr other) = let same = ap (λ cs. (requests (endpoint_of d) setting.eid (timing_of setting d) setting.pace cs).count) (call_other w.calls e call d other) in omega (arith, same)

    pub new_side : IsLeftBy (endpoint_of e) setting.eid (timing_of setting e) setting.pace (held_of new.station) (call ∷ w.calls e) → new.numbers ≡ (running.sides e has).0.numbers → (requests (endpoint_of e) setting.eid (timing_of setting e) setting.pace (call ∷ w.calls e)).count ≡ (requests_of setting w e).count
        → (held_of new.station).last ≤ moment → IsSide setting v moment e new
    new_side left numbers count last =
        let s = (running.sides e has).2 in
        record {
          endpoint = s.endpoint;
          other = s.other;
          left = subst (IsLeftBy (endpoint_of e) setting.eid (timing_of setting e) setting.pace (held_of new.station)) (sym (call_here w.calls e call)) left;
          numbers = numbers ∙ s.numbers;
          counted = s.counted ∙ sym (ap (λ cs. (requests (endpoint_of e) setting.eid (timing_of setting e) setting.pace cs).count) (call_here w.calls e call) ∙ count);
          numbered = s.numbered;
          called = last;
        }

    pub record Called (x : Entry) : Type 0 where
      pub after : world setting (record { moment = moment; action = a } ∷ past) ≡ record { calls = with_call (world setting past).calls e call; log = (world setting past).log }
      pub is_side : IsSide setting (record { calls = with_call (world setting past).calls e call; log = (world setting past).log }) moment e new
      pub requests : (k : ℕ) → slice_get journal.requests.items k
          ≡ option_map (as_it_stands setting (record { calls = with_call (world setting past).calls e call; log = (world setting past).log })) (asked_at (world setting past).log k)
      pub counted : length journal.requests.items ≡ length run.journal.requests.items
      pub writes : Writes run.journal journal x
      pub is_entry : x ≡ entry_of setting (world setting past) moment a
      pub timely : journal.timely ≡ is_timely setting (record { moment = moment; action = a } ∷ past)

    pub called_runs : (x : Entry) → Called x → IsRunning setting steps (with_side run e new journal)
    called_runs x c = go (sym c.after)
      where
        below : e < length run.places
        below = or_within run.places e (running.sides e has).0 (running.sides e has).1

        side_in : (d : ℕ) → has_requester setting.requesters d ≡ true → (s : Side) × (side_at (slice_set run.places e (Some new)) d ≡ Some s) × IsSide setting v moment d s
        side_in d known = at (cases_eq d e)
          where
            at : (d ≡ e) ⊎ (d ≡ e → ⊥) → (s : Side) × (side_at (slice_set run.places e (Some new)) d ≡ Some s) × IsSide setting v moment d s
            at (inl same) = (
              new,
              ap (side_at (slice_set run.places e (Some new))) same ∙ or_set_at run.places e (Some new) None below,
              subst (λ k. IsSide setting v moment k new) (sym same) c.is_side,
            )
            at (inr other) =
                let s = running.sides d known in (
                  s.0,
                  or_set_other run.places e d (Some new) None other ∙ s.1,
                  still_side setting w v (time_now past) moment d s.0 (call_other w.calls e call d other) refl (λ k r is. is) later s.2,
                )

        go : v ≡ world setting steps → IsRunning setting steps (with_side run e new journal)
        go back = record {
          times = running.times;
          pace = running.pace;
          window = running.window;
          device = subst (λ u. IsDevice setting u moment run.responder) back (still_device setting w v (time_now past) moment run.responder refl later running.device);
          sides = λ d known. let s = side_in d known in (s.0, s.1, subst (λ u. IsSide setting u moment d s.0) back s.2);
          opened = λ k r is. subst (λ u. IsOpened setting u k r) back (still_opened setting w v k r (grows r.source) (λ here. here) (running.opened k r (ap (λ (u : World). asked_at u.log k) back ∙ is)));
          requests = λ k. c.requests k ∙ ap (λ u. option_map (as_it_stands setting u) (asked_at u.log k)) back;
          counted = c.counted ∙ running.counted ∙ ap (λ (u : World). count_of u.log) back;
          traffic = λ k r is.
              let t = running.traffic k r (ap (λ (u : World). asked_at u.log k) back ∙ is) in (
                t.0,
                ap (λ ts. slice_get ts k) c.writes.traffic ∙ t.1,
                subst (λ u. IsCarried setting u journal.entries k r t.0) back
                    (subst (λ es. IsCarried setting v es k r t.0) (sym c.writes.entries) (still_carried setting w v run.journal.entries x k r t.0 refl refl refl t.2)),
              );
          carried = ap (λ (ts : List Carried). length ts) c.writes.traffic ∙ running.carried ∙ ap (λ (u : World). count_of u.log) back;
          entries = c.writes.entries ∙ ap (λ es. es ++ x ∷ []) running.entries ∙ ap (λ y. entries setting past ++ y ∷ []) c.is_entry;
          order = c.writes.order ∙ running.order ∙ ap (λ (u : World). order S setting.window setting.keep u.log) back;
          arrived = λ source. running.arrived source ∙ ap (λ (u : World). ids_arrived S setting.keep u.log source) back;
          timely = c.timely;
          sent = subst (λ (u : World). AreRequests u.log) back running.sent;
          fit = subst (λ (u : World). RepliesFit setting.device setting.window setting.keep setting.start u.log) back running.fit;
        }

-- what stands in a place, however it is read
pub place_holds : (places : List (Option Side)) (e i : ℕ) (found : Option Side) (side asker : Side) → i ≡ e → found ≡ slice_index_or places i found → side_at places e ≡ Some side → found ≡ Some asker → asker ≡ side
place_holds places e i found side asker same at here is =
    let below = or_within places e side here in
    let there : slice_get places e ≡ Some (Some side) = get_or places e None below ∙ ap Some here in
    let read : found ≡ Some side = at ∙ ap (λ k. slice_index_or places k found) same ∙ or_get places e found (Some side) there in
    let both : ◌≡◌ {A = Option Side} (Some asker) (Some side) = sym is ∙ read in
    cc
