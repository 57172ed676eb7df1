-- Over a timely schedule each event is taken once, and in order: step by step what both ends do is a timely run of events.
use Rattle.std.proofs.Common.{◌≡◌, ℕ, suc, ◌+◌, ◌≤◌, Bool, true, false, List, [], ◌∷◌, ◌++◌, Option, Some, None, refl, sym, ap, ◌∙◌, subst, eqb-true}
use Rattle.std.specs.Prelude.{◌&&◌, ◌==◌, if◌then◌else◌}
use Rattle.std.proofs.lemmas.Bool.{and_right, cond-false, cond-true, eqb-false}
use Rattle.event_queue.specs.Laws.{AreTakenUpTo, EventsOnce}
use Rattle.event_queue.specs.Queues.{IsNext, PlatformEvent, QueueView, begun}
use Rattle.endpoint_schedule.specs.EventDevices.{EventDevice, KeepsEvents}
use Rattle.endpoint_schedule.specs.EventLaws.{EventsOverSchedules}
use Rattle.endpoint_schedule.specs.EventReceiving.{AsksAsReceiver, AsksInTurn, Following, following, gone_on, opens, settled, with_action, with_open}
use Rattle.endpoint_schedule.specs.RecentDeliveries.{ComesWhileRecent}
use Rattle.mctp_schedule.specs.Logs.{Asked, Happening, Opened, asked_at, endpoint_of}
use Rattle.mctp_schedule.specs.RequesterHalf.{AnsweredWasPerformed, IsTimelySchedule}
use Rattle.mctp_schedule.specs.Worlds.{BothEnds, IsTimelyAction, World, asked_by, busy_packet, done, handed, reply_packet, requests_of, source_of, timing_of, with_call, world}
use Rattle.mctp_schedule.proofs.LogsAndCalls.{received_count}
use Rattle.pldm_requester.specs.Asks.{Ask}
use Rattle.pldm_requester.specs.Calls.{Call, OpenRequest, Receive, Requests, Tick, accepts, opened_for, requests}
use Rattle.pldm_requester.specs.Courses.{Progress, Waiting, Answered, GaveUp}
use Rattle.pldm_wire.specs.declared.assigned.TheConstants.{INSTANCE_IDS}
use Rattle.mctp_schedule.specs.Actions.{Action}
use Rattle.mctp_schedule.specs.Actions as actions
use Rattle.mctp_schedule.specs.Actions.{Step}
use Rattle.endpoint_schedule.proofs.FollowedRuns.{Runs, delivered, ew, given_at, given_to, not_some, state, was_sensed, went_down}
use Rattle.endpoint_schedule.proofs.OpenedRuns.{answered, given_up, opened_elsewhere, opened_here}

module _ {S : Type 0} (setting : BothEnds S) (events : EventDevice S) (e most first_id : ℕ) where
  abbrev R : List Happening → ℕ → Following → Type 0
  R log count f = Runs setting events e most first_id log count f

  abbrev counted : World → ℕ
  counted w = (requests_of setting w e).count

  same_runs : (log now : List Happening) (count later : ℕ) (f next : Following) → now ≡ log → later ≡ count → next ≡ f → R log count f → R now later next
  same_runs log now count later f next a b c x =
      subst (λ (l : List Happening). R l later next) (sym a)
      (subst (λ (n : ℕ). R log n next) (sym b)
      (subst (λ (g : Following). R log count g) (sym c) x))

  -- ---- how many requests there are after a call
  abbrev after : World → ℕ → Call → ℕ
  after w d call = (requests (endpoint_of d) setting.eid (timing_of setting d) setting.pace (call ∷ w.calls d)).count

  count_kept : (w : World) (at : ℕ) (call : Call) (log : List Happening)
      → (e ≡ at → after w e call ≡ counted w)
      → counted (record { calls = with_call w.calls at call; log = log }) ≡ counted w
  count_kept w at call log kept = go (e == at) refl
    where
      go : (b : Bool) → (e == at) ≡ b → (requests (endpoint_of e) setting.eid (timing_of setting e) setting.pace (if b then call ∷ w.calls e else w.calls e)).count ≡ counted w
      go true t = kept (eqb-true e at t)
      go false t = refl

  count_more : (w : World) (at moment : ℕ) (ask : Ask) (log : List Happening) → e ≡ at
      → accepts (timing_of setting at).keep setting.pace (requests_of setting w at) moment ≡ true
      → counted (record { calls = with_call w.calls at (OpenRequest moment ask); log = log }) ≡ suc (counted w)
  count_more w at moment ask log same accepted = go (e == at) refl
    where
      here : accepts (timing_of setting e).keep setting.pace (requests_of setting w e) moment ≡ true
      here = subst (λ d. accepts (timing_of setting d).keep setting.pace (requests_of setting w d) moment ≡ true) (sym same) accepted

      go : (b : Bool) → (e == at) ≡ b → (requests (endpoint_of e) setting.eid (timing_of setting e) setting.pace (if b then OpenRequest moment ask ∷ w.calls e else w.calls e)).count ≡ suc (counted w)
      go true t = ap (λ (a : Requests). a.count) (cond-true (accepts (timing_of setting e).keep setting.pace (requests_of setting w e) moment) (opened_for (requests_of setting w e) moment ask) (requests_of setting w e) here)
      go false t = absurd (eqb-false e at t same)

  count_refused : (w : World) (at moment : ℕ) (ask : Ask)
      → accepts (timing_of setting at).keep setting.pace (requests_of setting w at) moment ≡ false → e ≡ at → after w e (OpenRequest moment ask) ≡ counted w
  count_refused w at moment ask refused same =
      let here = subst (λ d. accepts (timing_of setting d).keep setting.pace (requests_of setting w d) moment ≡ false) (sym same) refused in
      ap (λ (a : Requests). a.count) (cond-false (accepts (timing_of setting e).keep setting.pace (requests_of setting w e) moment) (opened_for (requests_of setting w e) moment ask) (requests_of setting w e) here)

  -- ---- an open
  module _ (w : World) (f : Following) (moment at : ℕ) (ask : Ask) (x : R w.log (counted w) f) (turn : AsksAsReceiver setting events e w f moment (actions.Open at ask)) where
    abbrev now : World
    now = done setting w moment (actions.Open at ask)

    abbrev ok : Bool
    ok = accepts (timing_of setting at).keep setting.pace (requests_of setting w at) moment

    abbrev new : Asked
    new = asked_by setting w moment at ask

    opens_so : (b : Bool) → ok ≡ b → (c : Bool) → (at == e) ≡ c → R now.log (counted now) (with_action setting events e w f moment (actions.Open at ask))
    opens_so false refused c is =
        same_runs w.log now.log (counted w) (counted now) f _ (cond-false ok (Opened new ∷ w.log) w.log refused)
        (count_kept w at (OpenRequest moment ask) now.log (count_refused w at moment ask refused))
        (cond-false (at == e && ok) (with_open f (requests_of setting w at).count (opens setting events e w moment at ask)) f (and_right (at == e) ok refused)) x
    opens_so true accepted false is =
        let other = eqb-false at e is in
        same_runs (Opened new ∷ w.log) now.log (counted w) (counted now) f _ (cond-true ok (Opened new ∷ w.log) w.log accepted)
        (count_kept w at (OpenRequest moment ask) now.log (λ same. absurd (other (sym same))))
        (ap (λ b. if b && ok then with_open f (requests_of setting w at).count (opens setting events e w moment at ask) else f) is)
        (opened_elsewhere setting events e most first_id w.log new (counted w) f other (λ request asks. other (turn request accepted asks).0) x)
    opens_so true accepted true is =
        let same = eqb-true at e is in
        let o = opens setting events e w moment at ask in
        same_runs (Opened new ∷ w.log) now.log (suc (counted w)) (counted now) (with_open f (counted w) o) _ (cond-true ok (Opened new ∷ w.log) w.log accepted)
        (count_more w at moment ask now.log (sym same) accepted)
        (ap (λ b. if b && ok then with_open f (requests_of setting w at).count o else f) is
        ∙ ap (λ b. if b then with_open f (requests_of setting w at).count o else f) accepted
        ∙ ap (λ d. with_open f (requests_of setting w d).count o) same)
        (opened_here setting events e most first_id w.log new (counted w) f same (ap (λ d. (requests_of setting w d).count) same) o refl (λ request asks. let t = turn request accepted asks in (t.1, t.2)) x)

  -- ---- a packet is handed to a requester
  handed_so : (w : World) (f : Following) (moment at : ℕ) (packet : Option (List ℕ)) → R w.log (counted w) f → R (handed setting w moment at packet).log (counted (handed setting w moment at packet)) f
  handed_so w f moment at None x = x
  handed_so w f moment at (Some bytes) x =
      same_runs w.log w.log (counted w) _ f f refl
      (count_kept w at (Receive moment bytes) w.log (λ same. received_count (endpoint_of e) setting.eid (timing_of setting e) (requests_of setting w e) bytes))
      refl x

  -- ---- each action
  acts : KeepsEvents setting.device events → (w : World) (f : Following) (moment : ℕ) (action : Action)
      → ((k : ℕ) → action ≡ actions.Request k → (r : Asked) → asked_at w.log k ≡ Some r → r.source ≡ e → counted w ≤ r.own + INSTANCE_IDS)
      → AsksAsReceiver setting events e w f moment action → R w.log (counted w) f
      → R (done setting w moment action).log (counted (done setting w moment action)) (with_action setting events e w f moment action)
  acts keeps w f moment (actions.Open at ask) recent turn x =
      opens_so w f moment at ask x turn (accepts (timing_of setting at).keep setting.pace (requests_of setting w at) moment) refl (at == e) refl
  acts keeps w f moment (actions.Tick at) recent turn x =
      same_runs w.log w.log (counted w) _ f f refl (count_kept w at (Tick moment) w.log (λ same. refl)) refl x
  acts keeps w f moment (actions.Request k) recent turn x = delivered setting events e most first_id keeps w.log moment k (counted w) f (recent k refl) x
  acts keeps w f moment (actions.Reply j k) recent turn x = handed_so w f moment (source_of (asked_at w.log k)) (reply_packet setting w k j) x
  acts keeps w f moment (actions.Sense id value) recent turn x = was_sensed setting events e most first_id keeps w.log moment id value (counted w) f x
  acts keeps w f moment actions.Restart recent turn x = went_down setting events e most first_id w.log moment (counted w) f x
  acts keeps w f moment (actions.Busy k) recent turn x = handed_so w f moment (source_of (asked_at w.log k)) (busy_packet setting w k) x

  -- ---- the open request goes on
  settles : AnsweredWasPerformed setting → (steps : List Step) → IsTimelySchedule setting steps → (f : Following) (o : Option ℕ) → f.open_one ≡ o
      → R (world setting steps).log (counted (world setting steps)) f
      → R (world setting steps).log (counted (world setting steps)) (settled setting events e (world setting steps) f o)
  settles performed steps s f None is x = x
  settles performed steps s f (Some n) is x = go ((requests_of setting w e).each n).course.progress refl
    where
      w : World
      w = world setting steps

      gave : (message : List ℕ) → ((requests_of setting (world setting steps) e).each n).course.progress ≡ Answered message
          → (k : ℕ) (r : Asked) → asked_at (world setting steps).log k ≡ Some r → r.source ≡ e → r.own ≡ n
          → given_to setting events e most first_id (world setting steps).log k ≡ Some message
      gave message progress k r asked source own =
          let at : ((requests_of setting (world setting steps) r.source).each r.own).course.progress ≡ Answered message =
          ap (λ d. ((requests_of setting (world setting steps) d).each r.own).course.progress) source
          ∙ ap (λ m. ((requests_of setting (world setting steps) e).each m).course.progress) own ∙ progress in
          let p = performed steps k r message s asked at in
          ap (λ (place : Option (List Happening)). given_at setting events e most first_id (asked_at (world setting steps).log k) place) p.arrived
          ∙ ap (λ (a : Option Asked). given_at setting events e most first_id a (Some p.place)) asked
          ∙ ap (λ (m : List ℕ). Some m) (sym p.answer)

      go : (progress : Progress) → ((requests_of setting (world setting steps) e).each n).course.progress ≡ progress
          → R (world setting steps).log (counted (world setting steps)) (gone_on setting events e f progress)
      go Waiting p = x
      go (Answered message) p = answered setting events e most first_id (world setting steps).log (counted (world setting steps)) n f message is (gave message p) x
      go GaveUp p = given_up setting events e most first_id (world setting steps).log (counted (world setting steps)) f x

  -- ---- each step
  follows : KeepsEvents setting.device events → IsNext first_id → events.queue setting.start ≡ begun most first_id
      → AnsweredWasPerformed setting → ComesWhileRecent setting
      → (steps : List Step) → IsTimelySchedule setting steps → AsksInTurn setting events e steps
      → ((step : Step) (past : List Step) → IsTimelySchedule setting (step ∷ past) → IsTimelySchedule setting past)
      → R (world setting steps).log (counted (world setting steps)) (following setting events e steps)
  follows keeps next begins performed recent [] s turns before = record {
    run = [];
    timely = tt;
    queue = sym begins;
    posted = refl;
    counted = refl;
    receiver = refl;
    open_one = refl;
    taken = refl;
    asked = λ k r is s. absurd (not_some r is);
    only = λ k r request is asks. absurd (not_some r is);
    given = λ k r request is asks. absurd (not_some r is);
    below = λ k r is s. absurd (not_some r is);
    alone = λ k j r q is was s t own. absurd (not_some r is);
    fresh = λ n l. (refl, refl);
    waiting = λ n o. absurd (not_some n o);
  }
  follows keeps next begins performed recent (step ∷ past) s turns before =
      let old = before step past s in
      let x = follows keeps next begins performed recent past old turns.1 before in
      let w = world setting past in
      let f = with_action setting events e w (following setting events e past) step.moment step.action in
      settles performed (step ∷ past) s f f.open_one refl
      (acts keeps w (following setting events e past) step.moment step.action
      (λ k is r asked source.
      let timely : IsTimelyAction setting w step.moment (actions.Request k) = subst (λ (a : Action). IsTimelyAction setting w step.moment a) is s.timely.0 in
      subst (λ d. (requests_of setting w d).count ≤ r.own + INSTANCE_IDS) source (recent past step.moment k r old s.order.0 timely asked))
      turns.0 x)

pub events_are_taken : {S : Type 0} (setting : BothEnds S) → EventsOnce → AnsweredWasPerformed setting → ComesWhileRecent setting
    → ((step : Step) (past : List Step) → IsTimelySchedule setting (step ∷ past) → IsTimelySchedule setting past)
    → EventsOverSchedules setting
events_are_taken setting once performed recent before events e most first_id steps keeps next begins s turns =
    let x = follows setting events e most first_id keeps next begins performed recent steps s turns before in
    let w = ew setting events e most first_id x.run in
    let law = once most first_id x.run next x.timely in
    record {
      dropped = w.acknowledged;
      posted = sym x.posted ∙ law.posted ∙ ap (λ (q : QueueView). w.acknowledged ++ q.events) x.queue;
      taken =
          subst (λ (taken : List PlatformEvent). AreTakenUpTo taken w.acknowledged (events.queue (state setting events e most first_id (world setting steps).log)).events) x.taken
          (subst (λ (q : QueueView). AreTakenUpTo w.taken w.acknowledged q.events) x.queue law.taken);
    }
