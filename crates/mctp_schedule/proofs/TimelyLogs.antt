-- Over a timely schedule the log of the link is timely.
use Rattle.std.proofs.Common.{◌≡◌, ◌≢◌, ◌⊎◌, ℕ, suc, ◌+◌, ◌*◌, ◌<◌, ◌≤◌, List, [], ◌∷◌, Option, Some, None, Bool, true, false, refl, sym, ap, ◌∙◌, subst, inl, inr, ⊎_elim, arith, eq-eqb, eqb-true}
use Rattle.std.specs.Prelude.{◌==◌, find, if◌then◌else◌}
use Rattle.std.proofs.lemmas.Bool.{cases_eq, cond-true, cond-false}
use Rattle.pldm_wire.specs.Headers.{id_at}
use Rattle.pldm_requester.specs.Asks.{Ask}
use Rattle.pldm_requester.specs.Calls.{Call, OpenRequest, Tick, Receive, Request, Requests, accepts, last_moment, request_with, opened_for, requests}
use Rattle.pldm_requester.specs.Laws.{IdsApart, IsInOrder, moment_of}
use Rattle.pldm_requester.specs.Numbering.{id_of, message_with}
use Rattle.mctp_schedule.specs.Laws.{LogIsTimely}
use Rattle.mctp_schedule.specs.Logs as logs
use Rattle.mctp_schedule.specs.Logs.{Asked, Happening, Opened, Delivered, Sensed, WentDown, AreRested, ComesRested, InOrder, asked_at, count_of, endpoint_of, last_of}
use Rattle.mctp_schedule.specs.Worlds.{NeverWentBack, BothEnds, World, asked_by, busy_packet, handed, log_opened, requests_of, source_of, time_now, timing_from, timing_of, with_call, IsTimely, IsTimelyAction, done, reply_packet, world}
use Rattle.mctp_schedule.specs.Timely.{AreApart, InTime, IsTimelyLog, is_in_window}
use Rattle.schedule_text.specs.declared.step.RequesterLine.{RequesterLine}
use Rattle.mctp_schedule.specs.Actions.{Step}
use Rattle.mctp_schedule.specs.Actions.{Action}
use Rattle.mctp_schedule.specs.Actions as actions
use Rattle.mctp_schedule.proofs.FirstPerformed.{request_below, request_older, request_opened}
use Rattle.mctp_schedule.proofs.LoggedRequests.{asked_here}
use Rattle.mctp_schedule.proofs.KnownRequests.{held_before}
use Rattle.mctp_schedule.proofs.LogsAndCalls.{Grows, call_grows, call_last, received_count}
use Rattle.mctp_schedule.proofs.RestedRequesters.{rested_less}

-- a request's message has the instance ID of its number
pub id_of_message : (number : ℕ) (ask : Ask) → id_at (message_with number ask) ≡ id_of number
id_of_message number ask = omega arith

module _ {S : Type 0} (setting : BothEnds S) where
  keep_of : (o : Option RequesterLine) → (timing_from setting.keep o).keep ≡ setting.keep
  keep_of None = refl
  keep_of (Some line) = refl

  pub keep_is : (e : ℕ) → (timing_of setting e).keep ≡ setting.keep
  keep_is e = keep_of (find _ setting.requesters)

  -- a request of the log is the one of its number at its requester
  pub record Matches (w : World) (r : Asked) : Type 0 where
    pub within : r.own < (requests_of setting w r.source).count
    pub opening : ((requests_of setting w r.source).each r.own).course.opening ≡ r.opening
    pub id : id_at r.message ≡ id_of r.own

  -- each request of a requester stands in the log
  abbrev pub Listed : World → Type 0
  Listed w =
      (e own : ℕ) → own < (requests_of setting w e).count
      → (k : ℕ) × (r : Asked) × (asked_at w.log k ≡ Some r) × (r.source ≡ e) × (r.own ≡ own)

  pub record Joined (w : World) (now : ℕ) : Type 0 where
    pub order : InOrder w.log
    pub last : last_of w.log ≤ now
    pub calls : (e : ℕ) → IsInOrder (endpoint_of e) setting.eid (timing_of setting e) setting.pace (w.calls e)
    pub called : (e : ℕ) → last_moment (endpoint_of e) setting.eid (timing_of setting e) setting.pace (w.calls e) ≤ now
    pub matches : (k : ℕ) (r : Asked) → asked_at w.log k ≡ Some r → Matches w r
    pub listed : Listed w
    pub apart : AreApart S setting.window setting.keep setting.pace.lifetime w.log
    pub in_time : InTime S setting.window setting.keep setting.pace.lifetime w.log

  joined_later : (w : World) (now moment : ℕ) → Joined w now → now ≤ moment → Joined w moment
  joined_later w now moment j later = record {
    order = j.order;
    last = let x = j.last in omega arith;
    calls = j.calls;
    called = λ e. let x = j.called e in omega arith;
    matches = j.matches;
    listed = j.listed;
    apart = j.apart;
    in_time = j.in_time;
  }

  -- one more call of a requester
  calls_grow : (calls : ℕ → List Call) (e : ℕ) (call : Call) (d : ℕ) → Grows (requests (endpoint_of d) setting.eid (timing_of setting d) setting.pace (calls d)) (requests (endpoint_of d) setting.eid (timing_of setting d) setting.pace (with_call calls e call d))
  calls_grow calls e call d = go (d == e)
    where
      go : (b : Bool) → Grows (requests (endpoint_of d) setting.eid (timing_of setting d) setting.pace (calls d)) (requests (endpoint_of d) setting.eid (timing_of setting d) setting.pace (if b then call ∷ calls d else calls d))
      go true = call_grows (endpoint_of d) setting.eid (timing_of setting d) setting.pace (requests (endpoint_of d) setting.eid (timing_of setting d) setting.pace (calls d)) call
      go false = record { count = omega arith; each = λ n within. refl }

  still_matches : (w : World) (e : ℕ) (call : Call) (log : List Happening) (r : Asked) → Matches w r → Matches (record { calls = with_call w.calls e call; log = log }) r
  still_matches w e call log r m =
      let grown = calls_grow w.calls e call r.source in
      record {
        within = let x = grown.count in let y = m.within in omega arith;
        opening = grown.each r.own m.within ∙ m.opening;
        id = m.id;
      }

  calls_in_order : (w : World) (now moment e : ℕ) (call : Call) → Joined w now → now ≤ moment → moment_of call ≡ moment → ((d : ℕ) → IsInOrder (endpoint_of d) setting.eid (timing_of setting d) setting.pace (call ∷ w.calls d)) → ((d : ℕ) → last_moment (endpoint_of d) setting.eid (timing_of setting d) setting.pace (call ∷ w.calls d) ≤ moment) → (d : ℕ) → IsInOrder (endpoint_of d) setting.eid (timing_of setting d) setting.pace (with_call w.calls e call d) × (last_moment (endpoint_of d) setting.eid (timing_of setting d) setting.pace (with_call w.calls e call d) ≤ moment)
  calls_in_order w now moment e call j later at ordered last d = go (d == e)
    where
      go : (b : Bool) → IsInOrder (endpoint_of d) setting.eid (timing_of setting d) setting.pace (if b then call ∷ w.calls d else w.calls d) × (last_moment (endpoint_of d) setting.eid (timing_of setting d) setting.pace (if b then call ∷ w.calls d else w.calls d) ≤ moment)
      go true = (ordered d, last d)
      go false = (j.calls d, let x = j.called d in omega arith)

  -- a call that opens none
  listed_call : (w : World) (e : ℕ) (call : Call) → (requests (endpoint_of e) setting.eid (timing_of setting e) setting.pace (call ∷ w.calls e)).count ≡ (requests_of setting w e).count → Listed w → Listed (record { calls = with_call w.calls e call; log = w.log })
  listed_call w e call same listed d own l = go (d == e) refl l
    where
      go : (b : Bool) → (d == e) ≡ b → own < (requests (endpoint_of d) setting.eid (timing_of setting d) setting.pace (if b then call ∷ w.calls d else w.calls d)).count → (k : ℕ) × (r : Asked) × (asked_at w.log k ≡ Some r) × (r.source ≡ d) × (r.own ≡ own)
      go true t l =
          let counted = subst (λ x. (requests (endpoint_of x) setting.eid (timing_of setting x) setting.pace (call ∷ w.calls x)).count ≡ (requests_of setting w x).count) (sym (eqb-true d e t)) same in
          listed d own (omega (arith, counted, l))
      go false t l = listed d own l

  -- a tick, or bytes that are received, leave the log
  joined_call : (w : World) (now moment e : ℕ) (call : Call) → Joined w now → now ≤ moment → ((d : ℕ) → IsInOrder (endpoint_of d) setting.eid (timing_of setting d) setting.pace (call ∷ w.calls d)) → ((d : ℕ) → last_moment (endpoint_of d) setting.eid (timing_of setting d) setting.pace (call ∷ w.calls d) ≤ moment) → moment_of call ≡ moment → (requests (endpoint_of e) setting.eid (timing_of setting e) setting.pace (call ∷ w.calls e)).count ≡ (requests_of setting w e).count → Joined (record { calls = with_call w.calls e call; log = w.log }) moment
  joined_call w now moment e call j later ordered last at same =
      let both = calls_in_order w now moment e call j later at ordered last in
      record {
        order = j.order;
        last = let x = j.last in omega arith;
        calls = λ d. (both d).0;
        called = λ d. (both d).1;
        matches = λ k r is. still_matches w e call w.log r (j.matches k r is);
        listed = listed_call w e call same j.listed;
        apart = j.apart;
        in_time = j.in_time;
      }

  joined_receive : (w : World) (now moment e : ℕ) (bytes : List ℕ) → Joined w now → now ≤ moment → Joined (record { calls = with_call w.calls e (Receive moment bytes); log = w.log }) moment
  joined_receive w now moment e bytes j later =
      joined_call w now moment e (Receive moment bytes) j later (λ d. (let x = j.called d in omega arith, j.calls d)) (λ d. omega arith) refl
      (received_count (endpoint_of e) setting.eid (timing_of setting e) (requests_of setting w e) bytes)

  joined_tick : (w : World) (now moment e : ℕ) → Joined w now → now ≤ moment → Joined (record { calls = with_call w.calls e (Tick moment); log = w.log }) moment
  joined_tick w now moment e j later =
      joined_call w now moment e (Tick moment) j later (λ d. (let x = j.called d in omega arith, j.calls d)) (λ d. omega arith) refl refl

  joined_handed : (w : World) (now moment e : ℕ) (packet : Option (List ℕ)) → Joined w now → now ≤ moment → Joined (handed setting w moment e packet) moment
  joined_handed w now moment e None j later = joined_later w now moment j later
  joined_handed w now moment e (Some bytes) j later = joined_receive w now moment e bytes j later

  -- something happens on the link that opens no request
  joined_happened : (w : World) (now : ℕ) (h : Happening) → ((k : ℕ) → asked_at (h ∷ w.log) k ≡ asked_at w.log k)
      → AreApart S setting.window setting.keep setting.pace.lifetime (h ∷ w.log) → InTime S setting.window setting.keep setting.pace.lifetime (h ∷ w.log) → Joined w now → now ≤ logs.moment_of h → Joined (record { calls = w.calls; log = h ∷ w.log }) (logs.moment_of h)
  joined_happened w now h asked apart in_time j later = record {
    order = (let x = j.last in omega (arith, x, later), j.order);
    last = omega arith;
    calls = j.calls;
    called = λ e. let x = j.called e in omega (arith, x, later);
    matches = λ n r is. let m = j.matches n r (sym (asked n) ∙ is) in record { within = m.within; opening = m.opening; id = m.id };
    listed = λ e own l. let x = j.listed e own l in (x.0, x.1, asked x.0 ∙ x.2, x.3, x.4);
    apart = apart;
    in_time = in_time;
  }

  -- an open
  opened_here : (w : World) (moment e : ℕ) (ask : Ask) → accepts (timing_of setting e).keep setting.pace (requests_of setting w e) moment ≡ true → requests (endpoint_of e) setting.eid (timing_of setting e) setting.pace (OpenRequest moment ask ∷ w.calls e) ≡ opened_for (requests_of setting w e) moment ask
  opened_here w moment e ask accepted = cond-true (accepts (timing_of setting e).keep setting.pace (requests_of setting w e) moment) _ _ accepted

  new_opening : (a : Requests) (moment : ℕ) (ask : Ask) → ((opened_for a moment ask).each a.count).course.opening ≡ moment
  new_opening a moment ask = ap (λ (r : Request). r.course.opening) (cond-true (a.count == a.count) (request_with moment ask) (a.each a.count) (eq-eqb a.count a.count refl))

  new_matches : (w : World) (moment e : ℕ) (ask : Ask) (log : List Happening) → accepts (timing_of setting e).keep setting.pace (requests_of setting w e) moment ≡ true → Matches (record { calls = with_call w.calls e (OpenRequest moment ask); log = log }) (asked_by setting w moment e ask)
  new_matches w moment e ask log accepted =
      let a = requests_of setting w e in
      let here : requests (endpoint_of e) setting.eid (timing_of setting e) setting.pace (with_call w.calls e (OpenRequest moment ask) e) ≡ opened_for a moment ask = ap (requests (endpoint_of e) setting.eid (timing_of setting e) setting.pace) (cond-true (e == e) (OpenRequest moment ask ∷ w.calls e) (w.calls e) (eq-eqb e e refl)) ∙ opened_here w moment e ask accepted in
      record {
        within = subst (λ (b : Requests). a.count < b.count) (sym here) (omega arith);
        opening = ap (λ (b : Requests). (b.each a.count).course.opening) here ∙ new_opening a moment ask;
        id = id_of_message a.count ask;
      }

  pub comes_late : IdsApart → (w : World) (now moment e : ℕ) (ask : Ask) → Joined w now → now ≤ moment → accepts (timing_of setting e).keep setting.pace (requests_of setting w e) moment ≡ true
      → (k : ℕ) (q : Asked) → asked_at w.log k ≡ Some q → q.source ≡ e → id_at q.message ≡ id_at (asked_by setting w moment e ask).message → q.opening + 2 * setting.pace.lifetime ≤ moment
  comes_late apart_ids w now moment e ask j later accepted k q is s i =
      let a = requests_of setting w e in
      let call = OpenRequest moment ask in
      let m = j.matches k q is in
      let own_at : (q.own < (requests_of setting w e).count) × (((requests_of setting w e).each q.own).course.opening ≡ q.opening) = subst (λ d. (q.own < (requests_of setting w d).count) × (((requests_of setting w d).each q.own).course.opening ≡ q.opening)) s (m.within, m.opening) in
      let here = opened_here w moment e ask accepted in
      let grown = call_grows (endpoint_of e) setting.eid (timing_of setting e) setting.pace a call in
      let was : ((requests (endpoint_of e) setting.eid (timing_of setting e) setting.pace (call ∷ w.calls e)).each q.own).course.opening ≡ q.opening = grown.each q.own own_at.0 ∙ own_at.1 in
      let new : ((requests (endpoint_of e) setting.eid (timing_of setting e) setting.pace (call ∷ w.calls e)).each a.count).course.opening ≡ moment = ap (λ (b : Requests). (b.each a.count).course.opening) here ∙ new_opening a moment ask in
      let counted : a.count < (requests (endpoint_of e) setting.eid (timing_of setting e) setting.pace (call ∷ w.calls e)).count = subst (λ (b : Requests). a.count < b.count) (sym here) (omega arith) in
      let before = j.called e in
      let ordered : IsInOrder (endpoint_of e) setting.eid (timing_of setting e) setting.pace (call ∷ w.calls e) = (omega arith, j.calls e) in
      let far = apart_ids (endpoint_of e) setting.eid (timing_of setting e) setting.pace (call ∷ w.calls e) q.own a.count ordered own_at.0 counted (sym m.id ∙ i ∙ id_of_message a.count ask) in
      omega (arith, far, was, new)

  -- what another request with the new one's instance ID left has expired, or is out of the window
  abbrev pub Frees : World → (moment e : ℕ) → Ask → Type 0
  Frees w moment e ask =
      (k : ℕ) (q : Asked) → asked_at w.log k ≡ Some q → q.source ≡ e → id_at q.message ≡ id_at (asked_by setting w moment e ask).message
      → (q.opening + 2 * setting.keep ≤ moment) ⊎ (is_in_window S setting.window setting.keep w.log (asked_by setting w moment e ask) ≡ false)

  -- it has expired, where the requesters go by the keeping time alone
  pub frees_by_time : IdsApart → setting.pace.lifetime ≡ setting.keep → (w : World) (now moment e : ℕ) (ask : Ask) → Joined w now → now ≤ moment → accepts (timing_of setting e).keep setting.pace (requests_of setting w e) moment ≡ true → Frees w moment e ask
  frees_by_time ids by_time w now moment e ask j later accepted k q is s i =
      let late = comes_late ids w now moment e ask j later accepted k q is s i in
      inl (omega (arith, late, by_time))

  listed_open : (w : World) (moment e : ℕ) (ask : Ask) → accepts (timing_of setting e).keep setting.pace (requests_of setting w e) moment ≡ true → Listed w → Listed (record { calls = with_call w.calls e (OpenRequest moment ask); log = Opened (asked_by setting w moment e ask) ∷ w.log })
  listed_open w moment e ask accepted listed d own l = go (d == e) refl l
    where
      new : Asked
      new = asked_by setting w moment e ask

      older : own < (requests_of setting w d).count → (k : ℕ) × (r : Asked) × (asked_at (Opened new ∷ w.log) k ≡ Some r) × (r.source ≡ d) × (r.own ≡ own)
      older l = let x = listed d own l in (x.0, x.1, request_older new w.log x.0 (request_below w.log x.0 x.1 x.2) ∙ x.2, x.3, x.4)

      here : d ≡ e → (own ≡ (requests_of setting w d).count) ⊎ (own ≡ (requests_of setting w d).count → ⊥) → own < suc (requests_of setting w d).count → (k : ℕ) × (r : Asked) × (asked_at (Opened new ∷ w.log) k ≡ Some r) × (r.source ≡ d) × (r.own ≡ own)
      here same (inl at) l = (count_of w.log, new, asked_here w.log new, sym same, ap (λ x. (requests_of setting w x).count) (sym same) ∙ sym at)
      here same (inr other) l = older (omega (arith, other))

      go : (b : Bool) → (d == e) ≡ b → own < (requests (endpoint_of d) setting.eid (timing_of setting d) setting.pace (if b then OpenRequest moment ask ∷ w.calls d else w.calls d)).count → (k : ℕ) × (r : Asked) × (asked_at (Opened new ∷ w.log) k ≡ Some r) × (r.source ≡ d) × (r.own ≡ own)
      go true t l =
          let same = eqb-true d e t in
          let counted : (requests (endpoint_of d) setting.eid (timing_of setting d) setting.pace (OpenRequest moment ask ∷ w.calls d)).count ≡ suc (requests_of setting w d).count = subst (λ x. (requests (endpoint_of x) setting.eid (timing_of setting x) setting.pace (OpenRequest moment ask ∷ w.calls x)).count ≡ suc (requests_of setting w x).count) (sym same) (ap (λ (a : Requests). a.count) (opened_here w moment e ask accepted)) in
          here same (cases_eq own (requests_of setting w d).count) (omega (arith, counted, l))
      go false t l = older l

  joined_open : IdsApart → setting.pace.lifetime ≤ setting.keep → (w : World) (now moment e : ℕ) (ask : Ask) → (accepts (timing_of setting e).keep setting.pace (requests_of setting w e) moment ≡ true → ComesRested setting.keep (asked_by setting w moment e ask) w.log) → (accepts (timing_of setting e).keep setting.pace (requests_of setting w e) moment ≡ true → Frees w moment e ask) → Joined w now → now ≤ moment → Joined (record { calls = with_call w.calls e (OpenRequest moment ask); log = log_opened setting w moment e ask }) moment
  joined_open apart_ids within w now moment e ask rests frees j later = go (accepts (timing_of setting e).keep setting.pace (requests_of setting w e) moment) refl
    where
      ordered : (d : ℕ) → IsInOrder (endpoint_of d) setting.eid (timing_of setting d) setting.pace (OpenRequest moment ask ∷ w.calls d)
      ordered d = (let x = j.called d in omega arith, j.calls d)

      last : (d : ℕ) → last_moment (endpoint_of d) setting.eid (timing_of setting d) setting.pace (OpenRequest moment ask ∷ w.calls d) ≤ moment
      last d = call_last (endpoint_of d) setting.eid (timing_of setting d) setting.pace (w.calls d) (OpenRequest moment ask) (let x = j.called d in omega arith)

      go : (b : Bool) → accepts (timing_of setting e).keep setting.pace (requests_of setting w e) moment ≡ b → Joined (record { calls = with_call w.calls e (OpenRequest moment ask); log = if b then Opened (asked_by setting w moment e ask) ∷ w.log else w.log }) moment
      go false refused =
          joined_call w now moment e (OpenRequest moment ask) j later ordered last refl
          (ap (λ (a : Requests). a.count) (cond-false (accepts (timing_of setting e).keep setting.pace (requests_of setting w e) moment) (opened_for (requests_of setting w e) moment ask) (requests_of setting w e) refused))
      go true accepted =
          let both = calls_in_order w now moment e (OpenRequest moment ask) j later refl ordered last in
          let log = Opened (asked_by setting w moment e ask) ∷ w.log in
          record {
            order = (let x = j.last in omega arith, j.order);
            last = omega arith;
            calls = λ d. (both d).0;
            called = λ d. (both d).1;
            matches = λ k r is. ⊎_elim
                (λ (x : (k ≡ count_of w.log) × (asked_by setting w moment e ask ≡ r)). subst (Matches (record { calls = with_call w.calls e (OpenRequest moment ask); log = log })) x.1 (new_matches w moment e ask log accepted))
                (λ (x : (k ≢ count_of w.log) × (asked_at w.log k ≡ Some r)). still_matches w e (OpenRequest moment ask) log r (j.matches k r x.1))
                (request_opened (asked_by setting w moment e ask) w.log k r is);
            listed = listed_open w moment e ask accepted j.listed;
            apart = (
              λ k q is s i.
                  ⊎_elim
                  (λ (same : q.source ≡ e). (comes_late apart_ids w now moment e ask j later accepted k q is same i, frees accepted k q is same i))
                  (λ (other : q.source ≡ e → ⊥). let late = (rests accepted k q is s other).1 in (omega (arith, late, within), inl late))
                  (cases_eq q.source e),
              j.apart,
            );
            in_time = j.in_time;
          }

  -- a request that is opened comes rested
  pub rests_at : (w : World) (moment e : ℕ) (ask : Ask) → AreRested setting.keep (log_opened setting w moment e ask) → accepts (timing_of setting e).keep setting.pace (requests_of setting w e) moment ≡ true → ComesRested setting.keep (asked_by setting w moment e ask) w.log
  rests_at w moment e ask rested accepted =
      let new = asked_by setting w moment e ask in
      (subst (λ (l : List Happening). AreRested setting.keep l) (cond-true (accepts (timing_of setting e).keep setting.pace (requests_of setting w e) moment) (Opened new ∷ w.log) w.log accepted) rested).0

  pub rested_before : (w : World) (moment : ℕ) (action : Action) → AreRested setting.keep (done setting w moment action).log → AreRested setting.keep w.log
  rested_before w moment action rested = held_before setting (AreRested setting.keep) (rested_less setting.keep) w moment action rested

  -- a step, where each open finds its instance ID free
  pub joined_step : IdsApart → setting.pace.lifetime ≤ setting.keep → (w : World) (now moment : ℕ) (action : Action) → AreRested setting.keep (done setting w moment action).log → ((e : ℕ) (ask : Ask) → action ≡ actions.Open e ask → accepts (timing_of setting e).keep setting.pace (requests_of setting w e) moment ≡ true → Frees w moment e ask) → Joined w now → now ≤ moment → IsTimelyAction setting w moment action → Joined (done setting w moment action) moment
  joined_step ids within w now moment (actions.Open e ask) rested frees j later timely = joined_open ids within w now moment e ask (rests_at w moment e ask rested) (frees e ask refl) j later
  joined_step ids within w now moment (actions.Tick e) rested frees j later timely = joined_tick w now moment e j later
  joined_step ids within w now moment (actions.Request k) rested frees j later timely = joined_happened w now (Delivered moment k) (λ n. refl) j.apart (timely, j.in_time) j later
  joined_step ids within w now moment (actions.Reply packet k) rested frees j later timely = joined_handed w now moment (source_of (asked_at w.log k)) (reply_packet setting w k packet) j later
  joined_step ids within w now moment (actions.Sense id value) rested frees j later timely = joined_happened w now (Sensed moment id value) (λ n. refl) j.apart j.in_time j later
  joined_step ids within w now moment actions.Restart rested frees j later timely = joined_happened w now (WentDown moment) (λ n. refl) j.apart j.in_time j later
  joined_step ids within w now moment (actions.Busy k) rested frees j later timely = joined_handed w now moment (source_of (asked_at w.log k)) (busy_packet setting w k) j later

  pub joined_none : Joined (world setting []) 0
  joined_none = record {
    order = tt;
    last = omega arith;
    calls = λ e. tt;
    called = λ e. omega arith;
    matches = λ k r is. absurd (cc);
    listed = λ e own l. absurd (omega arith);
    apart = tt;
    in_time = tt;
  }

  joined : IdsApart → setting.pace.lifetime ≡ setting.keep → (steps : List Step) → NeverWentBack steps → IsTimely setting steps → AreRested setting.keep (world setting steps).log → Joined (world setting steps) (time_now steps)
  joined ids by_time [] ordered timely rested = joined_none
  joined ids by_time (step ∷ past) ordered timely rested =
      let j = joined ids by_time past ordered.1 timely.1 (rested_before (world setting past) step.moment step.action rested) in
      joined_step ids (omega (arith, by_time)) (world setting past) (time_now past) step.moment step.action rested
      (λ e ask is accepted. frees_by_time ids by_time (world setting past) (time_now past) step.moment e ask j ordered.0 accepted)
      j ordered.0 timely.0

  -- the log of the link is timely
  pub timely_of : (w : World) (now : ℕ) → Joined w now → setting.pace.lifetime ≤ setting.keep → IsTimelyLog S setting.window setting.keep setting.pace.lifetime w.log
  timely_of w now j within = record { order = j.order; apart = j.apart; in_time = j.in_time; within = within }

  pub log_is_timely : IdsApart → LogIsTimely setting
  log_is_timely ids steps ordered timely by_time rested =
      timely_of (world setting steps) (time_now steps) (joined ids by_time steps ordered timely rested) (omega (arith, by_time))
