-- A requester is asked to open a request: what a run holds then.
use Rattle.std.proofs.Common.{◌≡◌, ◌⊎◌, ℕ, suc, ◌<◌, ◌≤◌, Bool, true, false, List, [], ◌∷◌, ◌++◌, length, Option, Some, None, Ok, Err, refl, sym, ap, subst, ◌∙◌, inl, inr, arith, eq-eqb}
use Rattle.std.specs.Prelude.{◌&&◌, ◌||◌, ◌==◌, ◌%◌, nat_lt, not, option_map, slice_get, slice_set, is_some}
use Rattle.std.proofs.lemmas.Bool.{and_right, cases_Bool, cases_eq, cond-true, cond-false, ltb-false, ltb-true, ne_eqb}
use Rattle.pldm_wire.specs.Laws.{WrittenCommandReadBack}
use Rattle.pldm_wire.specs.MessageSizes.{CommandFitsOnePacket}
use Rattle.pldm_wire.specs.declared.command.Command.{Command}
use Rattle.pldm_responder.specs.Events.{is_busy}
use Rattle.pldm_responder.specs.Performing.{Rules}
use Rattle.pldm_requester.specs.Asks.{ask_of}
use Rattle.pldm_requester.specs.Calls as requester
use Rattle.pldm_requester.specs.Calls.{Requests, accepts, new_request, open_answer, open_expected, opened, put, requests}
use Rattle.pldm_requester.specs.Laws.{IsLeftBy, OpenLooksBack, SameIsLeft}
use Rattle.pldm_requester.specs.Numbering.{message_of, opened_as}
use Rattle.pldm_requester.specs.Slots.{held_of}
use Rattle.pldm_requester.specs.Steps as held_steps
use Rattle.pldm_requester.specs.Steps.{IsHeld, opened_held, opening_answer}
use Rattle.pldm_requester.specs.declared.results.Opened.{Opened as OpenedAs}
use Rattle.pldm_requester.specs.declared.results.OpenFault.{OpenFault}
use Rattle.pldm_requester.specs.declared.timing.Timing.{Timing}
use Rattle.mctp_schedule.specs.Askers.{IsSent, Side, packet_bytes}
use Rattle.mctp_schedule.specs.Entries.{as_it_stands, entries, entry_of, numbers_of, open_entry}
use Rattle.mctp_schedule.specs.FirstArrivals.{arrives, is_answered_busy, order, first, has_arrived}
use Rattle.mctp_schedule.specs.HeldRuns.{HeldRun}
use Rattle.mctp_schedule.specs.Journals.{Carried}
use Rattle.mctp_schedule.specs.Logs.{Asked, Happening, Opened, Delivered, Sensed, WentDown, asked_at, count_of, reached, endpoint_of}
use Rattle.mctp_schedule.specs.OncePerformed.{AreRequests, RepliesFit, given, was_busy}
use Rattle.mctp_schedule.specs.Places.{side_at}
use Rattle.mctp_schedule.specs.Requests.{Request, begun}
use Rattle.mctp_schedule.specs.Running.{IsCarried, IsDevice, IsOpened, IsRunning, IsSide, busy_packets}
use Rattle.schedule_text.specs.Schedules.{has_requester}
use Rattle.mctp_schedule.specs.Worlds.{BothEnds, World, answer_packets, asked_by, requests_of, time_now, timing_of, with_call, world}
use Rattle.mctp_schedule.specs.declared.askers.SentRequest.{SentRequest}
use Rattle.mctp_schedule.specs.declared.entry.Entry.TheVariants as entry
use Rattle.mctp_schedule.specs.declared.journal.Journal.{Journal}
use Rattle.mctp_schedule.specs.Actions as actions
use Rattle.mctp_schedule.specs.Actions.{Step}
use Rattle.mctp_schedule.proofs.LoggedRequests.{asked_before, asked_below, asked_here, none_past}
use Rattle.mctp_schedule.proofs.AfterCall.{with_side, Writes, called_runs, new_side, or_within}
use Rattle.mctp_schedule.proofs.ListPlaces.{get_front, get_last, get_past, get_pushed, get_within, length_pushed, or_set_at, or_set_other}
use Rattle.mctp_schedule.specs.Timely.{ids_arrived}
use Rattle.mctp_schedule.proofs.FirstPerformed.{first_below}
use Rattle.mctp_schedule.proofs.KeptByAStep.{call_here, call_other, still_carried, still_opened, still_side}

-- ---- an open is accepted or not
refused_is : (tag id : Bool) (n : ℕ) (fault : OpenFault) → open_answer tag id n ≡ Err fault → (not tag && not id) ≡ false
refused_is true id n fault e = refl
refused_is false true n fault e = refl
refused_is false false n fault e = absurd (cc)

accepted_is : (tag id : Bool) (n : ℕ) (opened : OpenedAs) → open_answer tag id n ≡ Ok opened → (not tag && not id) ≡ true
accepted_is true id n opened e = absurd (cc)
accepted_is false true n opened e = absurd (cc)
accepted_is false false n opened e = refl

-- ---- nothing was given to a request that is not opened yet
module _ {S : Type 0} (device : Rules S) (window keep : ℕ) (start : S) where
  pub none_given : (log : List Happening) (k : ℕ) → count_of log ≤ k → given device window keep start log k ≡ None
  none_given [] k l = refl
  none_given (Opened r ∷ past) k l = none_given past k (omega arith)
  none_given (Sensed _ _ _ ∷ past) k l = none_given past k l
  none_given (WentDown _ ∷ past) k l = none_given past k l
  none_given (Delivered t j ∷ past) k l =
      cond-false (j == k && arrives (asked_at past k) (is_busy keep (reached {S = S} past) t)) _ _ (and_right (j == k) _ (ap (λ o. arrives o (is_busy keep (reached {S = S} past) t)) (none_past past k l)))
      ∙ none_given past k l

module _ (S : Type 0) where
  pub never_busy : (keep : ℕ) (log : List Happening) (k : ℕ) → count_of log ≤ k → was_busy S keep log k ≡ false
  never_busy keep [] k l = refl
  never_busy keep (Opened r ∷ past) k l = never_busy keep past k (omega arith)
  never_busy keep (Sensed _ _ _ ∷ past) k l = never_busy keep past k l
  never_busy keep (WentDown _ ∷ past) k l = never_busy keep past k l
  never_busy keep (Delivered t j ∷ past) k l =
      ap (λ b. b || was_busy S keep past k) (and_right (j == k) _ (ap (λ o. is_answered_busy o (is_busy keep (reached {S = S} past) t)) (none_past past k l)))
      ∙ never_busy keep past k l

  pub never_arrived : (keep : ℕ) (log : List Happening) (k : ℕ) → count_of log ≤ k → has_arrived S keep log k ≡ false
  never_arrived keep log k l = go (first S keep log k) refl
    where
      go : (f : Option (List Happening)) → first S keep log k ≡ f → is_some f ≡ false
      go None is = refl
      go (Some place) is = absurd (let below = first_below S keep log k place is in omega (arith, below, l))

module _ {P S : Type 0} (setting : BothEnds S) (past : List Step) (run : HeldRun P S) (journal : Journal) (running : IsRunning setting past run) (moment : ℕ) (later : time_now past ≤ moment) (e : ℕ) (has : has_requester setting.requesters e ≡ true) (command : Command) (new : Side) (looks : OpenLooksBack) (same : SameIsLeft) where
  abbrev w : World
  w = world setting past

  abbrev steps : List Step
  steps = record { moment = moment; action = actions.Open e (ask_of command) } ∷ past

  abbrev call : requester.Call
  call = requester.Open moment command

  abbrev before : Requests
  before = requests_of setting w e

  -- ---- refused
  pub record Refuses (fault : OpenFault) : Type 0 where
    pub answer : opening_answer (held_of (running.sides e has).0.station) moment ≡ Err fault
    pub new_held : IsHeld (held_of new.station) (held_of (running.sides e has).0.station)
    pub same_numbers : new.numbers ≡ (running.sides e has).0.numbers
    pub requests : journal.requests.items ≡ run.journal.requests.items
    pub writes : Writes run.journal journal (entry.NotOpened fault)
    pub timely : journal.timely ≡ run.journal.timely

  pub refused_runs : (fault : OpenFault) → Refuses fault → IsRunning setting steps (with_side run e new journal)
  refused_runs fault x =
      let side = (running.sides e has).0 in
      let s = (running.sides e has).2 in
      let held = held_of side.station in
      let timing = timing_of setting e in
      let looked = looks (endpoint_of e) setting.eid timing setting.pace held (w.calls e) moment (ask_of command) s.left in
      let off = refused_is (held_steps.is_tag_in_use held) (held_steps.is_id_in_use held moment) held.count fault x.answer in
      let shut = sym looked.1 ∙ off in
      let left = same (endpoint_of e) setting.eid timing setting.pace (held_of new.station) held (call ∷ w.calls e) x.new_held (looked.3 off) in
      let count = ap (λ (a : Requests). a.count) (cond-false (accepts timing.keep setting.pace before moment) (opened before moment command) before shut) in
      called_runs setting past run journal running moment later (actions.Open e (ask_of command)) e has call new (entry.NotOpened fault)
      (record {
        after = ap (λ log. record { calls = with_call w.calls e call; log = log }) (cond-false (accepts timing.keep setting.pace before moment) (Opened (asked_by setting w moment e (ask_of command)) ∷ w.log) w.log shut);
        is_side = new_side setting past run journal running moment later (actions.Open e (ask_of command)) e has call new left x.same_numbers count (let l = x.new_held.last in let y = s.called in omega (arith, l, y, later));
        requests = λ k. ap (λ rs. slice_get rs k) x.requests ∙ running.requests k ∙ stand shut k (asked_at w.log k);
        counted = ap (λ (rs : List Request). length rs) x.requests;
        writes = x.writes;
        is_entry = ap (open_entry (count_of w.log)) (sym x.answer ∙ looked.0);
        timely = x.timely ∙ running.timely;
      })
    where
      stand_of : accepts (timing_of setting e).keep setting.pace (requests_of setting (world setting past) e) moment ≡ false → (r : Asked) → as_it_stands setting (world setting past) r ≡ as_it_stands setting (record { calls = with_call (world setting past).calls e (requester.Open moment command); log = (world setting past).log }) r
      stand_of shut r = ap (λ c. record { asked = r; progress = c }) (go (cases_eq r.source e))
        where
          go : (r.source ≡ e) ⊎ (r.source ≡ e → ⊥) → (as_it_stands setting (world setting past) r).progress ≡ (as_it_stands setting (record { calls = with_call (world setting past).calls e (requester.Open moment command); log = (world setting past).log }) r).progress
          go (inr other) = sym (ap (λ cs. ((requests (endpoint_of r.source) setting.eid (timing_of setting r.source) setting.pace cs).each r.own).course.progress) (call_other (world setting past).calls e (requester.Open moment command) r.source other))
          go (inl at) =
              ap (λ d. ((requests_of setting (world setting past) d).each r.own).course.progress) at
              ∙ sym (
              ap (λ d. ((requests (endpoint_of d) setting.eid (timing_of setting d) setting.pace (with_call (world setting past).calls e (requester.Open moment command) d)).each r.own).course.progress) at
              ∙ ap (λ cs. ((requests (endpoint_of e) setting.eid (timing_of setting e) setting.pace cs).each r.own).course.progress) (call_here (world setting past).calls e (requester.Open moment command))
              ∙ ap (λ (a : Requests). (a.each r.own).course.progress) (cond-false (accepts (timing_of setting e).keep setting.pace (requests_of setting (world setting past) e) moment) _ _ shut))

      stand : accepts (timing_of setting e).keep setting.pace (requests_of setting (world setting past) e) moment ≡ false → (k : ℕ) (o : Option Asked) → option_map (as_it_stands setting (world setting past)) o ≡ option_map (as_it_stands setting (record { calls = with_call (world setting past).calls e (requester.Open moment command); log = (world setting past).log })) o
      stand shut k None = refl
      stand shut k (Some r) = ap Some (stand_of shut r)

  -- ---- accepted
  abbrev q : Asked
  q = asked_by setting w moment e (ask_of command)

  abbrev v : World
  v = record { calls = with_call w.calls e (requester.Open moment command); log = Opened (asked_by setting w moment e (ask_of command)) ∷ w.log }

  pub record Opens (sent : SentRequest) : Type 0 where
    pub is_sent : IsSent (held_of (running.sides e has).0.station) moment command sent
    pub new_held : IsHeld (held_of new.station) (opened_held (held_of (running.sides e has).0.station) moment command)
    pub more_numbers : new.numbers ≡ (running.sides e has).0.numbers ++ length run.journal.requests.items ∷ []
    pub new_entries : journal.entries ≡ run.journal.entries ++ entry.Opened (length run.journal.requests.items) ∷ []
    pub new_requests : journal.requests.items ≡ run.journal.requests.items ++ begun e sent.own moment sent.message.now ∷ []
    pub new_traffic : journal.traffic.items ≡ run.journal.traffic.items ++ (record { header = sent.header; reply = None; busy = None }) ∷ []
    pub new_order : journal.order.items ≡ run.journal.order.items
    pub timely : journal.timely ≡ run.journal.timely

  module _ (reads_back : WrittenCommandReadBack) (fits : CommandFitsOnePacket) (sent : SentRequest) (x : Opens sent) where
    abbrev count : ℕ
    count = count_of w.log

    abbrev timing : Timing
    timing = timing_of setting e

    abbrev side : Side
    side = (running.sides e has).0

    abbrev s : IsSide setting (world setting past) (time_now past) e (running.sides e has).0
    s = (running.sides e has).2

    abbrev carried_new : Carried
    carried_new = record { header = sent.header; reply = None; busy = None }

    on : held_steps.accepts (held_of side.station) moment ≡ true
    on = accepted_is (held_steps.is_tag_in_use (held_of side.station)) (held_steps.is_id_in_use (held_of side.station) moment) (held_of side.station).count (opened_as (held_of side.station).count) x.is_sent.opened

    looked_accepts : accepts timing.keep setting.pace before moment ≡ true
    looked_accepts = sym (looks (endpoint_of e) setting.eid timing setting.pace (held_of side.station) (w.calls e) moment (ask_of command) s.left).1 ∙ on

    after : world setting steps ≡ v
    after = ap (λ log. record { calls = with_call w.calls e call; log = log }) (cond-true (accepts timing.keep setting.pace before moment) (Opened (asked_by setting w moment e (ask_of command)) ∷ w.log) w.log looked_accepts)

    new_before : requests (endpoint_of e) setting.eid timing setting.pace (call ∷ w.calls e) ≡ opened before moment command
    new_before = cond-true (accepts timing.keep setting.pace before moment) (opened before moment command) before looked_accepts

    here : requests_of setting v e ≡ opened before moment command
    here = ap (requests (endpoint_of e) setting.eid timing setting.pace) (call_here w.calls e call) ∙ new_before

    own_is : sent.own ≡ before.count
    own_is = x.is_sent.own ∙ s.left.count

    message_is : sent.message.now ≡ message_of before.count command
    message_is = x.is_sent.message ∙ ap (λ n. message_of n command) s.left.count

    numbers_here : numbers_of v.log e ≡ numbers_of w.log e ++ count ∷ []
    numbers_here = cond-true (e == e) _ _ (eq-eqb e e refl)

    numbers_other : (d : ℕ) → (d ≡ e → ⊥) → numbers_of v.log d ≡ numbers_of w.log d
    numbers_other d other = cond-false (e == d) _ _ (ne_eqb e d (λ same. other (sym same)))

    asked_stays : (k : ℕ) (r : Asked) → asked_at w.log k ≡ Some r → asked_at v.log k ≡ Some r
    asked_stays k r is = asked_before w.log q k (asked_below w.log k r is) ∙ is

    -- the requests of the longer log
    asked_cases : (k : ℕ) (r : Asked) → asked_at v.log k ≡ Some r → ((k ≡ count) × (r ≡ q)) ⊎ (asked_at w.log k ≡ Some r)
    asked_cases k r is = go (cases_eq k count)
      where
        go : (k ≡ count) ⊎ (k ≡ count → ⊥) → ((k ≡ count) × (r ≡ q)) ⊎ (asked_at w.log k ≡ Some r)
        go (inl same) = inl (same, let both : ◌≡◌ {A = Option Asked} (Some r) (Some q) = sym is ∙ ap (asked_at v.log) same ∙ asked_here w.log q in cc)
        go (inr other) = inr (sym (cond-false (k == count) (Some q) (asked_at w.log k) (ne_eqb k count other)) ∙ is)

    is_side : IsSide setting v moment e new
    is_side = record {
      endpoint = s.endpoint;
      other = s.other;
      left = subst (IsLeftBy (endpoint_of e) setting.eid timing setting.pace (held_of new.station)) (sym (call_here w.calls e call))
          (same (endpoint_of e) setting.eid timing setting.pace (held_of new.station) (opened_held (held_of side.station) moment command) (call ∷ w.calls e) x.new_held ((looks (endpoint_of e) setting.eid timing setting.pace (held_of side.station) (w.calls e) moment (ask_of command) s.left).2 on));
      numbers = x.more_numbers ∙ ap (λ xs. xs ++ length run.journal.requests.items ∷ []) s.numbers ∙ ap (λ n. numbers_of w.log e ++ n ∷ []) running.counted ∙ sym numbers_here;
      counted = ap (λ (xs : List ℕ). length xs) numbers_here ∙ length_pushed (numbers_of w.log e) count ∙ ap suc s.counted ∙ sym (ap (λ (a : Requests). a.count) here);
      numbered = λ own k at. numbered_at own k (get_pushed (numbers_of w.log e) count own k (sym (ap (λ xs. slice_get xs own) numbers_here) ∙ at));
      called = let l = x.new_held.last in omega (arith, l);
    }
      where
        numbered_at : (own k : ℕ) → (slice_get (numbers_of w.log e) own ≡ Some k) ⊎ ((own ≡ length (numbers_of w.log e)) × (k ≡ count)) → (r : Asked) × (asked_at v.log k ≡ Some r) × (r.source ≡ e) × (r.own ≡ own)
        numbered_at own k (inl at) = let r = s.numbered own k at in (r.0, asked_stays k r.0 r.1, r.2, r.3)
        numbered_at own k (inr at) = (q, ap (asked_at v.log) at.1 ∙ asked_here w.log q, refl, sym s.counted ∙ sym at.0)

    is_opened : IsOpened setting v count q
    is_opened =
        let valid = x.is_sent.readable in
        let fit = fits (before.count % 32) command valid in
        record {
          source = has;
          within = let grown = ap (λ (a : Requests). a.count) here in omega (arith, grown);
          number = ap (λ xs. slice_get xs before.count) numbers_here ∙ ap (slice_get (numbers_of w.log e ++ count ∷ [])) (sym s.counted) ∙ get_last (numbers_of w.log e) count;
          readable = (_, (reads_back (before.count % 32) command (omega arith) valid).0);
          some = fit.0;
          few = fit.1;
        }

    still : (k : ℕ) (r : Asked) → asked_at w.log k ≡ Some r → IsOpened setting v k r
    still k r is = still_opened setting w v k r (grows (cases_eq r.source e)) (stays (cases_eq r.source e)) (running.opened k r is)
      where
        grows : (r.source ≡ e) ⊎ (r.source ≡ e → ⊥) → (requests_of setting w r.source).count ≤ (requests_of setting v r.source).count
        grows (inl at) =
            let a = ap (λ d. (requests_of setting w d).count) at in
            let b = ap (λ d. (requests_of setting v d).count) at in
            let c = ap (λ (y : Requests). y.count) here in
            omega (arith, a, b, c)
        grows (inr other) = let c = ap (λ cs. (requests (endpoint_of r.source) setting.eid (timing_of setting r.source) setting.pace cs).count) (call_other w.calls e call r.source other) in omega (arith, c)

        stays : (r.source ≡ e) ⊎ (r.source ≡ e → ⊥) → slice_get (numbers_of w.log r.source) r.own ≡ Some k → slice_get (numbers_of v.log r.source) r.own ≡ Some k
        stays (inl at) number =
            let number_e = subst (λ d. slice_get (numbers_of w.log d) r.own ≡ Some k) at number in
            ap (λ d. slice_get (numbers_of v.log d) r.own) at ∙ ap (λ xs. slice_get xs r.own) numbers_here ∙ get_front (numbers_of w.log e) count r.own (get_within (numbers_of w.log e) r.own k number_e) ∙ number_e
        stays (inr other) number = ap (λ xs. slice_get xs r.own) (numbers_other r.source other) ∙ number

    -- an older request stands as before
    stands : (k : ℕ) (r : Asked) → asked_at w.log k ≡ Some r → as_it_stands setting w r ≡ as_it_stands setting v r
    stands k r is = ap (λ c. record { asked = r; progress = c }) (go (cases_eq r.source e))
      where
        go : (r.source ≡ e) ⊎ (r.source ≡ e → ⊥) → (as_it_stands setting w r).progress ≡ (as_it_stands setting v r).progress
        go (inr other) = sym (ap (λ cs. ((requests (endpoint_of r.source) setting.eid (timing_of setting r.source) setting.pace cs).each r.own).course.progress) (call_other w.calls e call r.source other))
        go (inl at) =
            let low = subst (λ d. r.own < (requests_of setting w d).count) at (running.opened k r is).within in
            ap (λ d. ((requests_of setting w d).each r.own).course.progress) at
            ∙ sym (
            ap (λ d. ((requests_of setting v d).each r.own).course.progress) at
            ∙ ap (λ (a : Requests). (a.each r.own).course.progress) here
            ∙ ap (λ (y : requester.Request). y.course.progress) (cond-false (r.own == before.count) (new_request moment command) (before.each r.own) (ne_eqb r.own before.count (λ same_own. absurd (omega (arith, low, same_own))))))

    new_stands : begun e sent.own moment sent.message.now ≡ as_it_stands setting v q
    new_stands =
        ap (λ own. begun e own moment sent.message.now) own_is ∙ ap (begun e before.count moment) message_is
        ∙ ap (λ c. record { asked = q; progress = c })
        (sym (ap (λ (a : Requests). (a.each before.count).course.progress) here ∙ ap (λ (y : requester.Request). y.course.progress) (cond-true (before.count == before.count) (new_request moment command) (before.each before.count) (eq-eqb before.count before.count refl))))

    requests_now : (k : ℕ) → slice_get journal.requests.items k ≡ option_map (as_it_stands setting v) (asked_at v.log k)
    requests_now k = ap (λ rs. slice_get rs k) x.new_requests ∙ go (cases_eq k count)
      where
        r : Request
        r = begun e sent.own moment sent.message.now

        older : (o : Option Asked) → asked_at w.log k ≡ o → option_map (as_it_stands setting w) o ≡ option_map (as_it_stands setting v) o
        older None is = refl
        older (Some a) is = ap Some (stands k a is)

        past_end : (k ≡ count → ⊥) → slice_get (run.journal.requests.items ++ begun e sent.own moment sent.message.now ∷ []) k ≡ slice_get run.journal.requests.items k
        past_end other = at (cases_Bool (nat_lt k (length run.journal.requests.items)))
          where
            at : (nat_lt k (length run.journal.requests.items) ≡ true) ⊎ (nat_lt k (length run.journal.requests.items) ≡ false) → slice_get (run.journal.requests.items ++ begun e sent.own moment sent.message.now ∷ []) k ≡ slice_get run.journal.requests.items k
            at (inl low) = get_front run.journal.requests.items (begun e sent.own moment sent.message.now) k (ltb-true k (length run.journal.requests.items) low)
            at (inr high) =
                let above = ltb-false k (length run.journal.requests.items) high in
                let all = running.counted in
                let more = length_pushed run.journal.requests.items (begun e sent.own moment sent.message.now) in
                get_past (run.journal.requests.items ++ begun e sent.own moment sent.message.now ∷ []) k (omega (arith, above, all, more, other)) ∙ sym (get_past run.journal.requests.items k above)

        go : (k ≡ count) ⊎ (k ≡ count → ⊥) → slice_get (run.journal.requests.items ++ begun e sent.own moment sent.message.now ∷ []) k ≡ option_map (as_it_stands setting v) (asked_at v.log k)
        go (inl same_k) =
            ap (slice_get (run.journal.requests.items ++ begun e sent.own moment sent.message.now ∷ [])) (same_k ∙ sym running.counted) ∙ get_last run.journal.requests.items (begun e sent.own moment sent.message.now) ∙ ap Some new_stands
            ∙ sym (ap (option_map (as_it_stands setting v)) (ap (asked_at v.log) same_k ∙ asked_here w.log q))
        go (inr other) =
            past_end other ∙ running.requests k ∙ older (asked_at w.log k) refl ∙ sym (ap (option_map (as_it_stands setting v)) (cond-false (k == count) (Some q) (asked_at w.log k) (ne_eqb k count other)))

    carried_is : IsCarried setting v journal.entries count q carried_new
    carried_is = record {
      packet = ap (λ m. sent.header ++ m) (sym message_is) ∙ x.is_sent.packet ∙ ap (λ own. packet_bytes own (held_of side.station).device (held_of side.station).count (message_of (held_of side.station).count command)) s.left.endpoint
          ∙ ap (λ peer. packet_bytes (endpoint_of e) peer (held_of side.station).count (message_of (held_of side.station).count command)) s.left.peer
          ∙ ap (λ n. packet_bytes (endpoint_of e) setting.eid n (message_of n command)) s.left.count;
      reply = sym (ap (option_map (answer_packets setting.eid q)) (none_given setting.device setting.window setting.keep setting.start w.log count (omega arith)));
      busy = sym (ap (busy_packets setting.eid q) (never_busy S setting.keep w.log count (omega arith)));
      arrived = sym (never_arrived S setting.keep w.log count (omega arith));
      reply_place = tt;
      busy_place = tt;
    }

    traffic_now : (k : ℕ) (r : Asked) → asked_at v.log k ≡ Some r → (c : Carried) × (slice_get journal.traffic.items k ≡ Some c) × IsCarried setting v journal.entries k r c
    traffic_now k r is = go (asked_cases k r is)
      where
        go : ((k ≡ count) × (r ≡ q)) ⊎ (asked_at w.log k ≡ Some r) → (c : Carried) × (slice_get journal.traffic.items k ≡ Some c) × IsCarried setting v journal.entries k r c
        go (inl at) = (
          carried_new,
          ap (slice_get journal.traffic.items) (at.0 ∙ sym running.carried) ∙ ap (λ ts. slice_get ts (length run.journal.traffic.items)) x.new_traffic ∙ get_last run.journal.traffic.items carried_new,
          subst (λ j. IsCarried setting v journal.entries j r carried_new) (sym at.0) (subst (λ a. IsCarried setting v journal.entries count a carried_new) (sym at.1) carried_is),
        )
        go (inr older) =
            let t = running.traffic k r older in
            let low = asked_below w.log k r older in
            let all = running.carried in (
              t.0,
              ap (λ ts. slice_get ts k) x.new_traffic ∙ get_front run.journal.traffic.items carried_new k (omega (arith, low, all)) ∙ t.1,
              subst (λ es. IsCarried setting v es k r t.0) (sym x.new_entries) (still_carried setting w v run.journal.entries (entry.Opened (length run.journal.requests.items)) k r t.0 refl refl refl t.2),
            )

    side_in : (d : ℕ) → has_requester setting.requesters d ≡ true → (y : Side) × (side_at (slice_set run.places e (Some new)) d ≡ Some y) × IsSide setting v moment d y
    side_in d known = go (cases_eq d e)
      where
        go : (d ≡ e) ⊎ (d ≡ e → ⊥) → (y : Side) × (side_at (slice_set run.places e (Some new)) d ≡ Some y) × IsSide setting v moment d y
        go (inl at) = (
          new,
          ap (side_at (slice_set run.places e (Some new))) at ∙ or_set_at run.places e (Some new) None (or_within run.places e (running.sides e has).0 (running.sides e has).1),
          subst (λ j. IsSide setting v moment j new) (sym at) is_side,
        )
        go (inr other) =
            let y = running.sides d known in (
              y.0,
              or_set_other run.places e d (Some new) None other ∙ y.1,
              still_side setting w v (time_now past) moment d y.0 (call_other w.calls e call d other) (numbers_other d other) asked_stays later y.2,
            )

    entry_now : entry.Opened (length run.journal.requests.items) ≡ entry_of setting w moment (actions.Open e (ask_of command))
    entry_now =
        ap entry.Opened running.counted
        ∙ ap (open_entry count) (sym x.is_sent.opened ∙ (looks (endpoint_of e) setting.eid timing setting.pace (held_of side.station) (w.calls e) moment (ask_of command) s.left).0)

    pub opened_runs : IsRunning setting steps (with_side run e new journal)
    opened_runs =
        let back : v ≡ world setting steps = sym after in
        record {
          times = running.times;
          pace = running.pace;
          window = running.window;
          device = subst (λ u. IsDevice setting u moment run.responder) back
              (record { endpoint = running.device.endpoint; left = running.device.left; events = running.device.events; called = let y = running.device.called in omega (arith, y, later) });
          sides = λ d known. let y = side_in d known in (y.0, y.1, subst (λ u. IsSide setting u moment d y.0) back y.2);
          opened = λ k r is. opened_at k r back (asked_cases k r (ap (λ (u : World). asked_at u.log k) back ∙ is));
          requests = λ k. requests_now k ∙ ap (λ u. option_map (as_it_stands setting u) (asked_at u.log k)) back;
          counted = ap (λ (rs : List Request). length rs) x.new_requests ∙ length_pushed run.journal.requests.items (begun e sent.own moment sent.message.now) ∙ ap suc running.counted ∙ ap (λ (u : World). count_of u.log) back;
          traffic = λ k r is.
              let t = traffic_now k r (ap (λ (u : World). asked_at u.log k) back ∙ is) in
              (t.0, t.1, subst (λ u. IsCarried setting u journal.entries k r t.0) back t.2);
          carried = ap (λ (ts : List Carried). length ts) x.new_traffic ∙ length_pushed run.journal.traffic.items carried_new ∙ ap suc running.carried ∙ ap (λ (u : World). count_of u.log) back;
          entries = x.new_entries ∙ ap (λ es. es ++ entry.Opened (length run.journal.requests.items) ∷ []) running.entries ∙ ap (λ y. entries setting past ++ y ∷ []) entry_now;
          order = x.new_order ∙ running.order ∙ ap (λ (u : World). order S setting.window setting.keep u.log) back;
          arrived = λ source. running.arrived source ∙ ap (λ (u : World). ids_arrived S setting.keep u.log source) back;
          timely = x.timely ∙ running.timely;
          sent = subst (λ (u : World). AreRequests u.log) back (is_opened.readable, running.sent);
          fit = subst (λ (u : World). RepliesFit setting.device setting.window setting.keep setting.start u.log) back running.fit;
        }
      where
        opened_at : (k : ℕ) (r : Asked) → v ≡ world setting steps → ((k ≡ count) × (r ≡ q)) ⊎ (asked_at w.log k ≡ Some r) → IsOpened setting (world setting steps) k r
        opened_at k r back (inl at) = subst (λ u. IsOpened setting u k r) back (subst (λ j. IsOpened setting v j r) (sym at.0) (subst (λ a. IsOpened setting v count a) (sym at.1) is_opened))
        opened_at k r back (inr older) = subst (λ u. IsOpened setting u k r) back (still k r older)
