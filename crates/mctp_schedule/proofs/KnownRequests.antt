-- Each request of the log is the one of its number at its requester, with the message that asks for what was opened,
-- and no two are the same one. The log grows by one happening at most.
use Rattle.std.proofs.Common.{◌≡◌, ◌≢◌, ◌⊎◌, ℕ, ◌<◌, ◌≤◌, List, [], ◌∷◌, Option, Some, None, Bool, true, false, Result, Ok, Err, refl, sym, ap, ◌∙◌, subst, inl, inr, ⊎_elim, arith, eqb-true, eq-eqb}
use Rattle.std.specs.Prelude.{◌==◌, if◌then◌else◌}
use Rattle.std.proofs.lemmas.Bool.{ne_eqb, cond-true, cond-false}
use Rattle.mctp_packet.specs.Packets.{Packet}
use Rattle.mctp_packet.specs.declared.reason.Reason.{Reason}
use Rattle.pldm_wire.specs.Kinds.{IsKind}
use Rattle.pldm_requester.specs.Arrivals.{Arrival, Drop, Part, Answer}
use Rattle.pldm_requester.specs.Asks.{Ask}
use Rattle.pldm_requester.specs.Calls.{Call, OpenRequest, Tick, Receive, Request, Requests, accepts, after_call, answered_by, arrived, fed_by, fed_to, goes_to, opened_for, passed, request_with, requests, with_request}
use Rattle.pldm_requester.specs.Numbering.{message_with}
use Rattle.pldm_requester.specs.declared.pace.Pace.{Pace}
use Rattle.pldm_requester.specs.declared.timing.Timing.{Timing}
use Rattle.mctp_schedule.specs.Logs.{Asked, Happening, Opened, Delivered, Sensed, WentDown, asked_at, count_of, endpoint_of}
use Rattle.mctp_schedule.specs.Worlds.{BothEnds, World, asked_by, busy_packet, done, handed, log_opened, reply_packet, requests_of, source_of, timing_of, with_call, world}
use Rattle.mctp_schedule.specs.Actions.{Action, AreOfKinds, IsOfKind, Step}
use Rattle.mctp_schedule.specs.Actions as actions
use Rattle.mctp_schedule.proofs.FirstPerformed.{request_below, request_older, request_opened}

-- ---- what was opened keeps what it asks
pub record KeepsAsks (a b : Requests) : Type 0 where
  pub count : a.count ≤ b.count
  pub each : (n : ℕ) → n < a.count → (b.each n).ask ≡ (a.each n).ask

same_keeps : (a : Requests) → KeepsAsks a a
same_keeps a = record { count = omega arith; each = λ n within. refl }

both_keep : (a b c : Requests) → KeepsAsks a b → KeepsAsks b c → KeepsAsks a c
both_keep a b c x y = record {
  count = let p = x.count in let q = y.count in omega arith;
  each = λ n within. y.each n (let p = x.count in omega arith) ∙ x.each n within;
}

with_keeps : (a : Requests) (number : ℕ) (request : Request) → request.ask ≡ (a.each number).ask → KeepsAsks a (with_request a number request)
with_keeps a number request same = record { count = omega arith; each = λ n within. go n (n == number) refl }
  where
    go : (n : ℕ) (b : Bool) → (n == number) ≡ b → (if n == number then request else a.each n).ask ≡ (a.each n).ask
    go n true t = ap (λ (r : Request). r.ask) (cond-true (n == number) request (a.each n) t) ∙ same ∙ ap (λ m. (a.each m).ask) (sym (eqb-true n number t))
    go n false t = ap (λ (r : Request). r.ask) (cond-false (n == number) request (a.each n) t)

opened_keeps : (a : Requests) (moment : ℕ) (ask : Ask) → KeepsAsks a (opened_for a moment ask)
opened_keeps a moment ask = record {
  count = omega arith;
  each = λ n within. ap (λ (r : Request). r.ask) (cond-false (n == a.count) _ (a.each n) (ne_eqb n a.count (λ e. absurd (omega (arith, e)))));
}

module _ (own device : ℕ) (timing : Timing) (pace : Pace) where
  fed_keeps : (a : Requests) (p : Packet) (to : Option ℕ) → KeepsAsks a (fed_to own device timing a p to)
  fed_keeps a p None = same_keeps a
  fed_keeps a p (Some n) = with_keeps a n _ refl

  passed_keeps : (a : Requests) (read : Result Packet Reason) → KeepsAsks a (fed_by own device timing a read)
  passed_keeps a (Err reason) = same_keeps a
  passed_keeps a (Ok p) = fed_keeps a p (goes_to own device timing a p)

  answered_keeps : (a : Requests) (arrival : Arrival) → KeepsAsks a (answered_by own device timing a arrival)
  answered_keeps a (Drop reason) = same_keeps a
  answered_keeps a Part = same_keeps a
  answered_keeps a (Answer n message) = with_keeps a n _ refl

  pub call_keeps : (a : Requests) (call : Call) → KeepsAsks a (after_call own device timing pace a call)
  call_keeps a (OpenRequest moment ask) = go (accepts timing.keep pace a moment)
    where
      go : (b : Bool) → KeepsAsks a (if b then opened_for a moment ask else a)
      go true = opened_keeps a moment ask
      go false = same_keeps a
  call_keeps a (Tick moment) = record { count = omega arith; each = λ n within. refl }
  call_keeps a (Receive moment bytes) =
      both_keep a (fed_by own device timing a (passed own device timing a bytes)) _ (passed_keeps a (passed own device timing a bytes)) (answered_keeps (fed_by own device timing a (passed own device timing a bytes)) (arrived own device timing a bytes))

-- ---- what was opened stays in the log
pub asked_stays : (h : Happening) (log : List Happening) (k : ℕ) (r : Asked) → asked_at log k ≡ Some r → asked_at (h ∷ log) k ≡ Some r
asked_stays (Opened q) log k r is = request_older q log k (request_below log k r is) ∙ is
asked_stays (Delivered _ _) log k r is = is
asked_stays (Sensed _ _ _) log k r is = is
asked_stays (WentDown _) log k r is = is

module _ {S : Type 0} (setting : BothEnds S) where
  pub handed_log : (w : World) (moment e : ℕ) (packet : Option (List ℕ)) → (handed setting w moment e packet).log ≡ w.log
  handed_log w moment e None = refl
  handed_log w moment e (Some bytes) = refl

  abbrev pub GrowsByOne : List Happening → List Happening → Type 0
  GrowsByOne log now = (now ≡ log) ⊎ ((h : Happening) × (now ≡ h ∷ log))

  pub log_done : (w : World) (moment : ℕ) (action : Action) → GrowsByOne w.log (done setting w moment action).log
  log_done w moment (actions.Open e ask) = go (accepts (timing_of setting e).keep setting.pace (requests_of setting w e) moment)
    where
      go : (b : Bool) → GrowsByOne w.log (if b then Opened (asked_by setting w moment e ask) ∷ w.log else w.log)
      go true = inr (Opened (asked_by setting w moment e ask), refl)
      go false = inl refl
  log_done w moment (actions.Tick e) = inl refl
  log_done w moment (actions.Request k) = inr (Delivered moment k, refl)
  log_done w moment (actions.Reply j k) = inl (handed_log w moment (source_of (asked_at w.log k)) (reply_packet setting w k j))
  log_done w moment (actions.Sense id value) = inr (Sensed moment id value, refl)
  log_done w moment actions.Restart = inr (WentDown moment, refl)
  log_done w moment (actions.Busy k) = inl (handed_log w moment (source_of (asked_at w.log k)) (busy_packet setting w k))

  -- what stays in a longer log stays over a step
  pub stays_done : (P : List Happening → Type 0) → ((h : Happening) (log : List Happening) → P log → P (h ∷ log)) → (w : World) (moment : ℕ) (action : Action) → P w.log → P (done setting w moment action).log
  stays_done P more w moment action x = go (log_done w moment action)
    where
      go : GrowsByOne w.log (done setting w moment action).log → P (done setting w moment action).log
      go (inl same) = subst P (sym same) x
      go (inr (h, longer)) = subst P (sym longer) (more h w.log x)

  -- what holds of a longer log and of each end of it held before a step
  pub held_before : (P : List Happening → Type 0) → ((h : Happening) (log : List Happening) → P (h ∷ log) → P log) → (w : World) (moment : ℕ) (action : Action) → P (done setting w moment action).log → P w.log
  held_before P less w moment action x = go (log_done w moment action)
    where
      go : GrowsByOne w.log (done setting w moment action).log → P w.log
      go (inl same) = subst P same x
      go (inr (h, longer)) = less h w.log (subst P longer x)

  pub asked_stays_done : (w : World) (moment : ℕ) (action : Action) (k : ℕ) (r : Asked) → asked_at w.log k ≡ Some r → asked_at (done setting w moment action).log k ≡ Some r
  asked_stays_done w moment action k r is = stays_done (λ log. asked_at log k ≡ Some r) (λ h log e. asked_stays h log k r e) w moment action is

  -- ---- the request of its number at its requester
  pub record Known (w : World) (r : Asked) : Type 0 where
    pub within : r.own < (requests_of setting w r.source).count
    pub ask : Ask
    pub asks : ((requests_of setting w r.source).each r.own).ask ≡ ask
    pub message : r.message ≡ message_with r.own ask
    pub kind : IsKind ask.kind

  pub record AllKnown (w : World) : Type 0 where
    pub known : (k : ℕ) (r : Asked) → asked_at w.log k ≡ Some r → Known w r
    pub distinct : (k i : ℕ) (r q : Asked) → asked_at w.log k ≡ Some r → asked_at w.log i ≡ Some q → r.source ≡ q.source → r.own ≡ q.own → k ≡ i

  calls_keep : (calls : ℕ → List Call) (e : ℕ) (call : Call) (d : ℕ) → KeepsAsks (requests (endpoint_of d) setting.eid (timing_of setting d) setting.pace (calls d)) (requests (endpoint_of d) setting.eid (timing_of setting d) setting.pace (with_call calls e call d))
  calls_keep calls e call d = go (d == e)
    where
      go : (b : Bool) → KeepsAsks (requests (endpoint_of d) setting.eid (timing_of setting d) setting.pace (calls d)) (requests (endpoint_of d) setting.eid (timing_of setting d) setting.pace (if b then call ∷ calls d else calls d))
      go true = call_keeps (endpoint_of d) setting.eid (timing_of setting d) setting.pace (requests (endpoint_of d) setting.eid (timing_of setting d) setting.pace (calls d)) call
      go false = same_keeps (requests (endpoint_of d) setting.eid (timing_of setting d) setting.pace (calls d))

  still_known : (w : World) (e : ℕ) (call : Call) (log : List Happening) (r : Asked) → Known w r → Known (record { calls = with_call w.calls e call; log = log }) r
  still_known w e call log r m =
      let kept = calls_keep w.calls e call r.source in
      record {
        within = let x = kept.count in let y = m.within in omega arith;
        ask = m.ask;
        asks = kept.each r.own m.within ∙ m.asks;
        message = m.message;
        kind = m.kind;
      }

  called_known : (w : World) (e : ℕ) (call : Call) → AllKnown w → AllKnown (record { calls = with_call w.calls e call; log = w.log })
  called_known w e call a = record { known = λ k r is. still_known w e call w.log r (a.known k r is); distinct = a.distinct }

  handed_known : (w : World) (moment e : ℕ) (packet : Option (List ℕ)) → AllKnown w → AllKnown (handed setting w moment e packet)
  handed_known w moment e None a = a
  handed_known w moment e (Some bytes) a = called_known w e (Receive moment bytes) a

  logged_known : (w : World) (log : List Happening) → ((k : ℕ) → asked_at log k ≡ asked_at w.log k) → AllKnown w → AllKnown (record { calls = w.calls; log = log })
  logged_known w log same a = record {
    known = λ k r is. let m = a.known k r (sym (same k) ∙ is) in record { within = m.within; ask = m.ask; asks = m.asks; message = m.message; kind = m.kind };
    distinct = λ k i r q x y. a.distinct k i r q (sym (same k) ∙ x) (sym (same i) ∙ y);
  }

  new_known : (w : World) (moment e : ℕ) (ask : Ask) → IsKind ask.kind → (log : List Happening) → accepts (timing_of setting e).keep setting.pace (requests_of setting w e) moment ≡ true → Known (record { calls = with_call w.calls e (OpenRequest moment ask); log = log }) (asked_by setting w moment e ask)
  new_known w moment e ask kind log accepted =
      let a = requests_of setting w e in
      let here : requests (endpoint_of e) setting.eid (timing_of setting e) setting.pace (with_call w.calls e (OpenRequest moment ask) e) ≡ opened_for a moment ask = ap (requests (endpoint_of e) setting.eid (timing_of setting e) setting.pace) (cond-true (e == e) (OpenRequest moment ask ∷ w.calls e) (w.calls e) (eq-eqb e e refl)) ∙ cond-true (accepts (timing_of setting e).keep setting.pace a moment) (opened_for a moment ask) a accepted in
      let newest : ((opened_for a moment ask).each a.count).ask ≡ ask = ap (λ (r : Request). r.ask) (cond-true (a.count == a.count) (request_with moment ask) (a.each a.count) (eq-eqb a.count a.count refl)) in
      record {
        within = subst (λ (b : Requests). a.count < b.count) (sym here) (omega arith);
        ask = ask;
        asks = ap (λ (b : Requests). (b.each a.count).ask) here ∙ newest;
        message = refl;
        kind = kind;
      }

  opened_known : (w : World) (moment e : ℕ) (ask : Ask) → IsKind ask.kind → AllKnown w → AllKnown (record { calls = with_call w.calls e (OpenRequest moment ask); log = log_opened setting w moment e ask })
  opened_known w moment e ask kind a = go (accepts (timing_of setting e).keep setting.pace (requests_of setting w e) moment) refl
    where
      new : Asked
      new = asked_by setting w moment e ask

      apart : (q : Asked) → Known w q → q.source ≡ e → q.own ≡ (requests_of setting w e).count → ⊥
      apart q m s o = let below = m.within in let same = ap (λ d. (requests_of setting w d).count) s in absurd (omega (arith, below, same, o))

      distinct : (k i : ℕ) (r q : Asked) → (((k ≡ count_of w.log) × (new ≡ r)) ⊎ ((k ≢ count_of w.log) × (asked_at w.log k ≡ Some r))) → (((i ≡ count_of w.log) × (new ≡ q)) ⊎ ((i ≢ count_of w.log) × (asked_at w.log i ≡ Some q))) → r.source ≡ q.source → r.own ≡ q.own → k ≡ i
      distinct k i r q (inl x) (inl y) s o = x.0 ∙ sym y.0
      distinct k i r q (inl x) (inr y) s o = absurd (apart q (a.known i q y.1) (sym s ∙ ap (λ (z : Asked). z.source) (sym x.1)) (sym o ∙ ap (λ (z : Asked). z.own) (sym x.1)))
      distinct k i r q (inr x) (inl y) s o = absurd (apart r (a.known k r x.1) (s ∙ ap (λ (z : Asked). z.source) (sym y.1)) (o ∙ ap (λ (z : Asked). z.own) (sym y.1)))
      distinct k i r q (inr x) (inr y) s o = a.distinct k i r q x.1 y.1 s o

      go : (b : Bool) → accepts (timing_of setting e).keep setting.pace (requests_of setting w e) moment ≡ b → AllKnown (record { calls = with_call w.calls e (OpenRequest moment ask); log = if b then Opened new ∷ w.log else w.log })
      go false refused = called_known w e (OpenRequest moment ask) a
      go true accepted = record {
        known = λ k r is. ⊎_elim
            (λ (x : (k ≡ count_of w.log) × (new ≡ r)). subst (Known (record { calls = with_call w.calls e (OpenRequest moment ask); log = Opened new ∷ w.log })) x.1 (new_known w moment e ask kind (Opened new ∷ w.log) accepted))
            (λ (x : (k ≢ count_of w.log) × (asked_at w.log k ≡ Some r)). still_known w e (OpenRequest moment ask) (Opened new ∷ w.log) r (a.known k r x.1))
            (request_opened new w.log k r is);
        distinct = λ k i r q x y. distinct k i r q (request_opened new w.log k r x) (request_opened new w.log i q y);
      }

  known_done : (w : World) (moment : ℕ) (action : Action) → IsOfKind action → AllKnown w → AllKnown (done setting w moment action)
  known_done w moment (actions.Open e ask) kind a = opened_known w moment e ask kind a
  known_done w moment (actions.Tick e) kind a = called_known w e (Tick moment) a
  known_done w moment (actions.Request k) kind a = logged_known w (Delivered moment k ∷ w.log) (λ k. refl) a
  known_done w moment (actions.Reply j k) kind a = handed_known w moment (source_of (asked_at w.log k)) (reply_packet setting w k j) a
  known_done w moment (actions.Sense id value) kind a = logged_known w (Sensed moment id value ∷ w.log) (λ k. refl) a
  known_done w moment actions.Restart kind a = logged_known w (WentDown moment ∷ w.log) (λ k. refl) a
  known_done w moment (actions.Busy k) kind a = handed_known w moment (source_of (asked_at w.log k)) (busy_packet setting w k) a

  pub all_known : (steps : List Step) → AreOfKinds steps → AllKnown (world setting steps)
  all_known [] kinds = record { known = λ k r is. absurd (cc); distinct = λ k i r q is. absurd (cc) }
  all_known (step ∷ past) kinds = known_done (world setting past) step.moment step.action kinds.0 (all_known past kinds.1)
