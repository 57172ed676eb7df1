-- What both ends do over a schedule is a run of events: what holds of it, and what keeps that.
use Rattle.std.proofs.Common.{◌≡◌, ℕ, ◌+◌, ◌<◌, ◌≤◌, Bool, true, false, List, ◌∷◌, ◌++◌, Option, Some, None, refl, sym, ap, ◌∙◌, subst, ⊎_elim, arith, eq-eqb}
use Rattle.std.specs.Prelude.{◌&&◌, ◌==◌, not, is_some, option_map, ℤ}
use Rattle.std.proofs.lemmas.Bool.{and_parts, and_right, cases_eq, cond-false, cond-true, ne_eqb, not-true}
use Rattle.std.proofs.lemmas.List.{append-nil}
use Rattle.event_queue.specs.Queues.{PlatformEvent, QueueView, acknowledged, head}
use Rattle.event_queue.specs.Runs.{EventStep, EventWorld, Performs, IsTimelyRun, event_world, performed, put}
use Rattle.event_queue.specs.declared.receiver.EventRequest.{EventRequest}
use Rattle.event_queue.specs.declared.receiver.EventRequest.TheVariants.{Poll, Acknowledge}
use Rattle.endpoint_schedule.specs.EventDevices.{EventDevice, KeepsEvents, made_by, made_of, posted_over, with_postings}
use Rattle.endpoint_schedule.specs.EventReceiving.{Following}
use Rattle.mctp_schedule.specs.FirstArrivals.{arrives, arrives_at, earlier, first, is_first}
use Rattle.mctp_schedule.specs.Logs.{Asked, Happening, Delivered, Sensed, WentDown, asked_at, reached}
use Rattle.mctp_schedule.specs.OncePerformed.{bytes_of, given_once, once, reply_from}
use Rattle.mctp_schedule.specs.Worlds.{BothEnds}
use Rattle.mctp_schedule.proofs.FirstPerformed.{first_here, first_other, first_stays}
use Rattle.pldm_responder.specs.Events.{is_busy}
use Rattle.pldm_responder.specs.Performing.{next, reply}
use Rattle.pldm_wire.specs.declared.assigned.TheConstants.{INSTANCE_IDS}
use Rattle.endpoint_schedule.proofs.PostedEvents.{IsSame, is_posted, posting, same_self}

pub some_eq : {A : Type 0} (x y : A) → Some x ≡ Some y → x ≡ y
some_eq x y e = cc

pub not_some : {A : Type 0} (x : A) → None ≡ Some x → ⊥
not_some x e = cc

pub put_here : {A : Type 0} (each : ℕ → A) (n : ℕ) (x : A) (k : ℕ) → k ≡ n → put each n x k ≡ x
put_here each n x k e = cond-true (k == n) _ _ (eq-eqb k n e)

pub put_other : {A : Type 0} (each : ℕ → A) (n : ℕ) (x : A) (k : ℕ) → (k ≡ n → ⊥) → put each n x k ≡ each k
put_other each n x k e = cond-false (k == n) _ _ (ne_eqb k n e)

module _ {S : Type 0} (setting : BothEnds S) (events : EventDevice S) (e most first_id : ℕ) where
  abbrev pub state : List Happening → S
  state log = once setting.device setting.keep setting.start log

  abbrev pub given_to : List Happening → ℕ → Option (List ℕ)
  given_to log k = given_once setting.device setting.keep setting.start log k

  abbrev pub posted_in : List Happening → List PlatformEvent
  posted_in log = posted_over setting.device events setting.keep setting.start log

  abbrev pub ew : List EventStep → EventWorld
  ew run = event_world most first_id run

  abbrev arrival : List Happening → ℕ → Option (List Happening)
  arrival log k = first S setting.keep log k

  -- what was given, by the first arrival
  abbrev pub given_at : Option Asked → Option (List Happening) → Option (List ℕ)
  given_at o place = option_map (λ p. reply_from setting.device setting.keep setting.start (bytes_of o) place) place

  -- the requester's request of this number asks for an event
  pub record IsOpenOne (log : List Happening) (n : ℕ) : Type 0 where
    pub number : ℕ
    pub r : Asked
    pub request : EventRequest
    pub asked : asked_at log number ≡ Some r
    pub source : r.source ≡ e
    pub own : r.own ≡ n
    pub asks : events.asks r.message ≡ Some request

  -- a timely run of events does what the log, the count of the requester's requests and its receiver say
  pub record Runs (log : List Happening) (count : ℕ) (f : Following) : Type 0 where
    pub run : List EventStep
    pub timely : IsTimelyRun most first_id run
    pub queue : (ew run).queue ≡ events.queue (state log)
    pub posted : (ew run).posted ≡ posted_in log
    pub counted : (ew run).count ≡ count
    pub receiver : (ew run).receiver ≡ f.receiver
    pub open_one : (ew run).open_one ≡ f.open_one
    pub taken : (ew run).taken ≡ f.taken
    pub asked : (k : ℕ) (r : Asked) → asked_at log k ≡ Some r → r.source ≡ e → (ew run).asked r.own ≡ events.asks r.message
    pub only : (k : ℕ) (r : Asked) (request : EventRequest) → asked_at log k ≡ Some r → events.asks r.message ≡ Some request → r.source ≡ e
    pub given :
        (k : ℕ) (r : Asked) (request : EventRequest) → asked_at log k ≡ Some r → events.asks r.message ≡ Some request
        → (ew run).given r.own ≡ option_map events.brings (given_to log k)
    pub below : (k : ℕ) (r : Asked) → asked_at log k ≡ Some r → r.source ≡ e → r.own < count
    pub alone :
        (k j : ℕ) (r q : Asked) → asked_at log k ≡ Some r → asked_at log j ≡ Some q → r.source ≡ e → q.source ≡ e
        → r.own ≡ q.own → k ≡ j
    pub fresh : (n : ℕ) → count ≤ n → ((ew run).asked n ≡ None) × ((ew run).given n ≡ None)
    pub waiting : (n : ℕ) → f.open_one ≡ Some n → IsOpenOne log n

  -- ---- something happens that opens no request
  happened : (log : List Happening) (h : Happening) (count : ℕ) (f : Following) (x : Runs log count f) (run : List EventStep)
      → ((k : ℕ) → asked_at (h ∷ log) k ≡ asked_at log k)
      → ((k : ℕ) (r : Asked) (request : EventRequest) → asked_at log k ≡ Some r → events.asks r.message ≡ Some request → given_to (h ∷ log) k ≡ given_to log k)
      → IsTimelyRun most first_id run
      → (ew run).queue ≡ events.queue (state (h ∷ log))
      → (ew run).posted ≡ posted_in (h ∷ log)
      → IsSame (ew x.run) (ew run) → Runs (h ∷ log) count f
  happened log h count f x run at given timely queue posted same = record {
    run = run;
    timely = timely;
    queue = queue;
    posted = posted;
    counted = same.count ∙ x.counted;
    receiver = same.receiver ∙ x.receiver;
    open_one = same.open_one ∙ x.open_one;
    taken = same.taken ∙ x.taken;
    asked = λ k r is s. same.asked r.own ∙ x.asked k r (sym (at k) ∙ is) s;
    only = λ k r request is asks. x.only k r request (sym (at k) ∙ is) asks;
    given = λ k r request is asks.
        let was = sym (at k) ∙ is in
        same.given r.own ∙ x.given k r request was asks ∙ ap (λ (o : Option (List ℕ)). option_map events.brings o) (sym (given k r request was asks));
    below = λ k r is s. x.below k r (sym (at k) ∙ is) s;
    alone = λ k j r q is was s t own. x.alone k j r q (sym (at k) ∙ is) (sym (at j) ∙ was) s t own;
    fresh = λ n l. let y = x.fresh n l in (same.asked n ∙ y.0, same.given n ∙ y.1);
    waiting = λ n o. let y = x.waiting n o in record { number = y.number; r = y.r; request = y.request; asked = at y.number ∙ y.asked; source = y.source; own = y.own; asks = y.asks };
  }

  pub went_down : (log : List Happening) (moment count : ℕ) (f : Following) → Runs log count f → Runs (WentDown moment ∷ log) count f
  went_down log moment count f x = happened log (WentDown moment) count f x x.run (λ k. refl) (λ k r request is asks. refl) x.timely x.queue x.posted (same_self (ew x.run))

  pub was_sensed : KeepsEvents setting.device events → (log : List Happening) (moment id : ℕ) (value : ℤ) (count : ℕ) (f : Following) → Runs log count f → Runs (Sensed moment id value ∷ log) count f
  was_sensed keeps log moment id value count f x =
      let ps = events.senses (state log) id value in
      let p = is_posted most first_id ps x.run x.timely in
      happened log (Sensed moment id value) count f x (posting ps x.run) (λ k. refl) (λ k r request is asks. refl) p.timely
      (p.queue ∙ ap (λ (q : QueueView). with_postings q ps) x.queue ∙ sym (keeps.sensed (state log) id value))
      (p.posted ∙ ap (λ (l : List PlatformEvent). l ++ made_of (ew x.run).queue ps) x.posted ∙ ap (λ (q : QueueView). posted_in log ++ made_of q ps) x.queue)
      p.same

  -- ---- a request is delivered that does not arrive for the first time
  first_same : (log : List Happening) (moment k : ℕ) → is_first S setting.keep log moment k ≡ false → (j : ℕ) → arrival (Delivered moment k ∷ log) j ≡ arrival log j
  first_same log moment k later j = ⊎_elim (λ (same : k ≡ j). here same (arrival log j) refl) (λ (other : k ≡ j → ⊥). first_other S setting.keep log moment k j other) (cases_eq k j)
    where
      here : k ≡ j → (f : Option (List Happening)) → arrival log j ≡ f → arrival (Delivered moment k ∷ log) j ≡ arrival log j
      here same (Some p) is = first_stays S setting.keep log moment k j p is
      here same None is =
          let now : (not (is_some (arrival log j)) && arrives_at S setting.keep log moment j) ≡ false = subst (λ n. is_first S setting.keep log moment n ≡ false) same later in
          let off : arrives_at S setting.keep log moment j ≡ false = ap (λ (f : Option (List Happening)). not (is_some f) && arrives_at S setting.keep log moment j) (sym is) ∙ now in
          ap (λ (f : Option (List Happening)). earlier f (k == j && arrives_at S setting.keep log moment j) log) is
          ∙ ap (λ b. earlier None b log) (and_right (k == j) _ off)
          ∙ sym is

  not_first : (log : List Happening) (moment k count : ℕ) (f : Following) → is_first S setting.keep log moment k ≡ false → Runs log count f → Runs (Delivered moment k ∷ log) count f
  not_first log moment k count f later x =
      happened log (Delivered moment k) count f x x.run (λ j. refl)
      (λ j r request is asks. ap (λ (p : Option (List Happening)). given_at (asked_at log j) p) (first_same log moment k later j))
      x.timely
      (x.queue ∙ ap events.queue (sym (cond-false (is_first S setting.keep log moment k) (next setting.device (state log) (bytes_of (asked_at log k))) (state log) later)))
      (x.posted ∙ sym (cond-false (is_first S setting.keep log moment k) (posted_in log ++ made_by setting.device events setting.keep setting.start (state log) (bytes_of (asked_at log k)) (events.asks (bytes_of (asked_at log k)))) (posted_in log) later))
      (same_self (ew x.run))

  -- ---- a request arrives for the first time
  record IsGiven (a b : EventWorld) (n : ℕ) (value : Option PlatformEvent) (q : QueueView) : Type 0 where
    queue : b.queue ≡ q
    posted : b.posted ≡ a.posted
    count : b.count ≡ a.count
    asked : (m : ℕ) → b.asked m ≡ a.asked m
    given : (m : ℕ) → b.given m ≡ put a.given n (Some value) m
    receiver : b.receiver ≡ a.receiver
    open_one : b.open_one ≡ a.open_one
    taken : b.taken ≡ a.taken

  module _ (log : List Happening) (moment k : ℕ) (r : Asked) (is : asked_at log k ≡ Some r) (newly : is_first S setting.keep log moment k ≡ true) where
    abbrev new_log : List Happening
    new_log = Delivered moment k ∷ log

    state_now : state new_log ≡ next setting.device (state log) r.message
    state_now =
        cond-true (is_first S setting.keep log moment k) (next setting.device (state log) (bytes_of (asked_at log k))) (state log) newly
        ∙ ap (λ (o : Option Asked). next setting.device (state log) (bytes_of o)) is

    posted_now : posted_in new_log ≡ posted_in log ++ made_by setting.device events setting.keep setting.start (state log) r.message (events.asks r.message)
    posted_now =
        cond-true (is_first S setting.keep log moment k) (posted_in log ++ made_by setting.device events setting.keep setting.start (state log) (bytes_of (asked_at log k)) (events.asks (bytes_of (asked_at log k)))) (posted_in log) newly
        ∙ ap (λ (o : Option Asked). posted_in log ++ made_by setting.device events setting.keep setting.start (state log) (bytes_of o) (events.asks (bytes_of o))) is

    none_before : arrival log k ≡ None
    none_before = go (arrival log k) (and_parts (not (is_some (arrival log k))) (arrives_at S setting.keep log moment k) newly).0
      where
        go : (f : Option (List Happening)) → not (is_some f) ≡ true → f ≡ None
        go None t = refl
        go (Some p) t = absurd (cc)

    idle : is_busy setting.keep (reached {S = S} log) moment ≡ false
    idle = go (asked_at log k) is (and_parts (not (is_some (arrival log k))) (arrives_at S setting.keep log moment k) newly).1
      where
        go : (o : Option Asked) → o ≡ Some r → arrives o (is_busy setting.keep (reached {S = S} log) moment) ≡ true → is_busy setting.keep (reached {S = S} log) moment ≡ false
        go None e t = absurd (cc)
        go (Some q) e t = not-true (is_busy setting.keep (reached {S = S} log) moment) t

    given_now : given_to new_log k ≡ Some (reply setting.device (state log) r.message)
    given_now =
        ap (λ (p : Option (List Happening)). given_at (asked_at log k) p) (first_here S setting.keep log moment k r is idle none_before)
        ∙ ap (λ (o : Option Asked). Some (reply setting.device (state log) (bytes_of o))) is

    given_other : (j : ℕ) → (k ≡ j → ⊥) → given_to new_log j ≡ given_to log j
    given_other j other = ap (λ (p : Option (List Happening)). given_at (asked_at log j) p) (first_other S setting.keep log moment k j other)

    same_request : (j : ℕ) (q : Asked) → asked_at log j ≡ Some q → k ≡ j → r ≡ q
    same_request j q was same = some_eq r q (sym is ∙ ap (asked_at log) same ∙ was)

    -- it asks for no event
    other_first : KeepsEvents setting.device events → (count : ℕ) (f : Following) → events.asks r.message ≡ None → Runs log count f → Runs new_log count f
    other_first keeps count f none x =
        let ps = events.posts (state log) r.message in
        let p = is_posted most first_id ps x.run x.timely in
        happened log (Delivered moment k) count f x (posting ps x.run) (λ j. refl)
        (λ j q request was asks. given_other j (λ same. not_some request (sym none ∙ ap (λ (y : Asked). events.asks y.message) (same_request j q was same) ∙ asks)))
        p.timely
        (p.queue ∙ ap (λ (q : QueueView). with_postings q ps) x.queue ∙ sym (keeps.performed (state log) r.message none) ∙ ap events.queue (sym state_now))
        (p.posted ∙ ap (λ (l : List PlatformEvent). l ++ made_of (ew x.run).queue ps) x.posted ∙ ap (λ (q : QueueView). posted_in log ++ made_of q ps) x.queue
        ∙ ap (λ (o : Option EventRequest). posted_in log ++ made_by setting.device events setting.keep setting.start (state log) r.message o) (sym none) ∙ sym posted_now)
        p.same

    -- it asks for one
    event_first : (count : ℕ) (f : Following) (request : EventRequest) (value : Option PlatformEvent) (run : List EventStep) (x : Runs log count f)
        → events.asks r.message ≡ Some request
        → events.brings (reply setting.device (state log) r.message) ≡ value
        → IsTimelyRun most first_id run
        → IsGiven (ew x.run) (ew run) r.own value (events.queue (next setting.device (state log) r.message))
        → Runs new_log count f
    event_first count f request value run x asks brings timely g = record {
      run = run;
      timely = timely;
      queue = g.queue ∙ ap events.queue (sym state_now);
      posted =
          g.posted ∙ x.posted ∙ sym (append-nil (posted_in log))
          ∙ ap (λ (o : Option EventRequest). posted_in log ++ made_by setting.device events setting.keep setting.start (state log) r.message o) (sym asks)
          ∙ sym posted_now;
      counted = g.count ∙ x.counted;
      receiver = g.receiver ∙ x.receiver;
      open_one = g.open_one ∙ x.open_one;
      taken = g.taken ∙ x.taken;
      asked = λ j q was s. g.asked q.own ∙ x.asked j q was s;
      only = x.only;
      given = λ j q more was wants. g.given q.own ∙ ⊎_elim
          (λ (same : k ≡ j).
          put_here (ew x.run).given r.own (Some value) q.own (ap (λ (y : Asked). y.own) (sym (same_request j q was same)))
          ∙ ap (λ (v : Option PlatformEvent). Some v) (sym brings)
          ∙ ap (λ (o : Option (List ℕ)). option_map events.brings o) (sym given_now)
          ∙ ap (λ n. option_map events.brings (given_to new_log n)) same)
          (λ (other : k ≡ j → ⊥).
          put_other (ew x.run).given r.own (Some value) q.own (λ own. other (x.alone k j r q is was (x.only k r request is asks) (x.only j q more was wants) (sym own)))
          ∙ x.given j q more was wants
          ∙ ap (λ (o : Option (List ℕ)). option_map events.brings o) (sym (given_other j other)))
          (cases_eq k j);
      below = x.below;
      alone = x.alone;
      fresh = λ n l.
          let y = x.fresh n l in
          (g.asked n ∙ y.0, g.given n ∙ put_other (ew x.run).given r.own (Some value) n (λ at. let b = x.below k r is (x.only k r request is asks) in absurd (omega (arith, at, b, l))) ∙ y.1);
      waiting = λ n o. let y = x.waiting n o in record { number = y.number; r = y.r; request = y.request; asked = y.asked; source = y.source; own = y.own; asks = y.asks };
    }

    first_time : KeepsEvents setting.device events → (count : ℕ) (f : Following) → (r.source ≡ e → count ≤ r.own + INSTANCE_IDS) → (o : Option EventRequest) → events.asks r.message ≡ o → Runs log count f → Runs new_log count f
    first_time keeps count f recent None asks x = other_first keeps count f asks x
    first_time keeps count f recent (Some Poll) asks x =
        let w = ew x.run in
        let s = x.only k r Poll is asks in
        let p = keeps.polled (state log) r.message asks in
        let soon : w.count ≤ r.own + INSTANCE_IDS = let y = recent s in let c = x.counted in omega (arith, y, c) in
        let now : ew (Performs r.own ∷ x.run) ≡ performed w r.own (Some Poll) = ap (performed w r.own) (x.asked k r is s ∙ asks) in
        event_first count f Poll (head w.queue.events) (Performs r.own ∷ x.run) x asks
        (p.0 ∙ ap (λ (q : QueueView). head q.events) (sym x.queue))
        (soon, x.timely)
        (subst (λ (b : EventWorld). IsGiven w b r.own (head w.queue.events) (events.queue (next setting.device (state log) r.message))) (sym now) (record {
          queue = x.queue ∙ sym p.1;
          posted = refl;
          count = refl;
          asked = λ m. refl;
          given = λ m. refl;
          receiver = refl;
          open_one = refl;
          taken = refl;
        }))
    first_time keeps count f recent (Some (Acknowledge id)) asks x =
        let w = ew x.run in
        let s = x.only k r (Acknowledge id) is asks in
        let p = keeps.acknowledged (state log) r.message id asks in
        let soon : w.count ≤ r.own + INSTANCE_IDS = let y = recent s in let c = x.counted in omega (arith, y, c) in
        let now : ew (Performs r.own ∷ x.run) ≡ performed w r.own (Some (Acknowledge id)) = ap (performed w r.own) (x.asked k r is s ∙ asks) in
        event_first count f (Acknowledge id) None (Performs r.own ∷ x.run) x asks p.0 (soon, x.timely)
        (subst (λ (b : EventWorld). IsGiven w b r.own None (events.queue (next setting.device (state log) r.message))) (sym now) (record {
          queue = ap (λ (q : QueueView). acknowledged q id) x.queue ∙ sym p.1;
          posted = refl;
          count = refl;
          asked = λ m. refl;
          given = λ m. refl;
          receiver = refl;
          open_one = refl;
          taken = refl;
        }))

  -- each delivery
  pub delivered : KeepsEvents setting.device events → (log : List Happening) (moment k count : ℕ) (f : Following)
      → ((r : Asked) → asked_at log k ≡ Some r → r.source ≡ e → count ≤ r.own + INSTANCE_IDS)
      → Runs log count f → Runs (Delivered moment k ∷ log) count f
  delivered keeps log moment k count f recent x = go (asked_at log k) refl (is_first S setting.keep log moment k) refl
    where
      go : (o : Option Asked) → asked_at log k ≡ o → (b : Bool) → is_first S setting.keep log moment k ≡ b → Runs (Delivered moment k ∷ log) count f
      go o is false later = not_first log moment k count f later x
      go (Some r) is true newly = first_time log moment k r is newly keeps count f (recent r is) (events.asks r.message) refl x
      go None is true newly =
          let arrived = (and_parts (not (is_some (arrival log k))) (arrives_at S setting.keep log moment k) newly).1 in
          let wrong : false ≡ true = ap (λ (o : Option Asked). arrives o (is_busy setting.keep (reached {S = S} log) moment)) (sym is) ∙ arrived in
          absurd (cc)
