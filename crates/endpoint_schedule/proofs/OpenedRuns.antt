-- A request is opened, answered or given up: what that keeps of a run of events.
use Rattle.std.proofs.Common.{◌≡◌, ◌⊎◌, ◌≢◌, ℕ, suc, ◌<◌, ◌≤◌, List, ◌∷◌, Option, Some, None, refl, sym, ap, ◌∙◌, subst, inl, inr, ⊎_elim, arith}
use Rattle.std.specs.Prelude.{option_map}
use Rattle.event_queue.specs.Queues.{PlatformEvent}
use Rattle.event_queue.specs.Receivers.{ReceiverView, after_answer, after_giving_up, is_new}
use Rattle.event_queue.specs.Runs.{EventStep, EventWorld, Asks, AsksOther, Takes, GivesUp, IsTimelyRun, id_in, taken_after, with_answer, with_ask, with_taking}
use Rattle.event_queue.specs.declared.receiver.EventRequest.{EventRequest}
use Rattle.endpoint_schedule.specs.EventDevices.{EventDevice}
use Rattle.endpoint_schedule.specs.EventReceiving.{Following, with_event, with_open}
use Rattle.mctp_schedule.specs.FirstArrivals.{first}
use Rattle.mctp_schedule.specs.Logs.{Asked, Happening, Opened, asked_at, count_of}
use Rattle.mctp_schedule.specs.Worlds.{BothEnds}
use Rattle.mctp_schedule.proofs.FirstPerformed.{first_below, request_below, request_older, request_opened}
use Rattle.mctp_schedule.proofs.LoggedRequests.{asked_here}
use Rattle.endpoint_schedule.proofs.FollowedRuns.{IsOpenOne, Runs, ew, given_at, given_to, not_some, put_here, put_other, some_eq}

module _ {S : Type 0} (setting : BothEnds S) (events : EventDevice S) (e most first_id : ℕ) where
  abbrev R : List Happening → ℕ → Following → Type 0
  R log count f = Runs setting events e most first_id log count f

  abbrev w_of : List EventStep → EventWorld
  w_of run = ew setting events e most first_id run

  abbrev given : List Happening → ℕ → Option (List ℕ)
  given log k = given_to setting events e most first_id log k

  -- what was given stays as it was, and nothing was given to the new one
  given_before : (new : Asked) (log : List Happening) (k : ℕ) (r : Asked) → asked_at log k ≡ Some r → given (Opened new ∷ log) k ≡ given log k
  given_before new log k r is =
      ap (λ (o : Option Asked). given_at setting events e most first_id o (first S setting.keep log k)) (request_older new log k (request_below log k r is))

  given_none : (new : Asked) (log : List Happening) → given (Opened new ∷ log) (count_of log) ≡ None
  given_none new log = go (first S setting.keep log (count_of log)) refl
    where
      go : (f : Option (List Happening)) → first S setting.keep log (count_of log) ≡ f → given (Opened new ∷ log) (count_of log) ≡ None
      go None is = ap (λ (p : Option (List Happening)). given_at setting events e most first_id (asked_at (Opened new ∷ log) (count_of log)) p) is
      go (Some p) is = let b = first_below S setting.keep log (count_of log) p is in absurd (omega (arith, b))

  older_open : (new : Asked) (log : List Happening) (n : ℕ) → IsOpenOne setting events e most first_id log n → IsOpenOne setting events e most first_id (Opened new ∷ log) n
  older_open new log n y = record {
    number = y.number;
    r = y.r;
    request = y.request;
    asked = request_older new log y.number (request_below log y.number y.r y.asked) ∙ y.asked;
    source = y.source;
    own = y.own;
    asks = y.asks;
  }

  -- what the run of events has to say of a new request
  record IsOpened (log : List Happening) (new : Asked) (count later : ℕ) (f next : Following) (a : EventWorld) (run : List EventStep) : Type 0 where
    timely : IsTimelyRun most first_id run
    queue : (w_of run).queue ≡ a.queue
    posted : (w_of run).posted ≡ a.posted
    counted : (w_of run).count ≡ later
    receiver : (w_of run).receiver ≡ next.receiver
    open_one : (w_of run).open_one ≡ next.open_one
    taken : (w_of run).taken ≡ next.taken
    older : (n : ℕ) → n < count → (w_of run).asked n ≡ a.asked n
    given_as : (n : ℕ) → (w_of run).given n ≡ a.given n
    asked : new.source ≡ e → (w_of run).asked new.own ≡ events.asks new.message
    only : (request : EventRequest) → events.asks new.message ≡ Some request → new.source ≡ e
    own : new.source ≡ e → (new.own ≡ count) × (count < later)
    more : count ≤ later
    fresh : (n : ℕ) → later ≤ n → (w_of run).asked n ≡ None
    waiting : (n : ℕ) → next.open_one ≡ Some n → IsOpenOne setting events e most first_id (Opened new ∷ log) n

  opened_so : (log : List Happening) (new : Asked) (count later : ℕ) (f next : Following) (x : R log count f) (run : List EventStep)
      → IsOpened log new count later f next (w_of x.run) run → R (Opened new ∷ log) later next
  opened_so log new count later f next x run y = record {
    run = run;
    timely = y.timely;
    queue = y.queue ∙ x.queue;
    posted = y.posted ∙ x.posted;
    counted = y.counted;
    receiver = y.receiver;
    open_one = y.open_one;
    taken = y.taken;
    asked = λ k r is s. ⊎_elim
        (λ (z : (k ≡ count_of log) × (new ≡ r)). subst (λ (r : Asked). (w_of run).asked r.own ≡ events.asks r.message) z.1 (y.asked (ap (λ (r : Asked). r.source) z.1 ∙ s)))
        (λ (z : (k ≢ count_of log) × (asked_at log k ≡ Some r)). y.older r.own (x.below k r z.1 s) ∙ x.asked k r z.1 s)
        (request_opened new log k r is);
    only = λ k r request is asks. ⊎_elim
        (λ (z : (k ≡ count_of log) × (new ≡ r)). sym (ap (λ (r : Asked). r.source) z.1) ∙ y.only request (ap (λ (r : Asked). events.asks r.message) z.1 ∙ asks))
        (λ (z : (k ≢ count_of log) × (asked_at log k ≡ Some r)). x.only k r request z.1 asks)
        (request_opened new log k r is);
    given = λ k r request is asks. y.given_as r.own ∙ ⊎_elim
        (λ (z : (k ≡ count_of log) × (new ≡ r)).
        let s = y.only request (ap (λ (r : Asked). events.asks r.message) z.1 ∙ asks) in
        let at = (y.own s).0 in
        let own : r.own ≡ count = sym (ap (λ (r : Asked). r.own) z.1) ∙ at in
        (x.fresh r.own (omega (arith, own))).1
        ∙ ap (λ (o : Option (List ℕ)). option_map events.brings o) (sym (given_none new log))
        ∙ ap (λ n. option_map events.brings (given (Opened new ∷ log) n)) (sym z.0))
        (λ (z : (k ≢ count_of log) × (asked_at log k ≡ Some r)).
        x.given k r request z.1 asks ∙ ap (λ (o : Option (List ℕ)). option_map events.brings o) (sym (given_before new log k r z.1)))
        (request_opened new log k r is);
    below = λ k r is s. ⊎_elim
        (λ (z : (k ≡ count_of log) × (new ≡ r)).
        let own = y.own (ap (λ (r : Asked). r.source) z.1 ∙ s) in
        let same = ap (λ (r : Asked). r.own) z.1 in
        let at = own.0 in let l = own.1 in omega (arith, same, at, l))
        (λ (z : (k ≢ count_of log) × (asked_at log k ≡ Some r)). let b = x.below k r z.1 s in let m = y.more in omega (arith, b, m))
        (request_opened new log k r is);
    alone = λ k j r q is was s t own. alone_so log new count later f next x run y k j r q s t own (request_opened new log k r is) (request_opened new log j q was);
    fresh = λ n l. (y.fresh n l, y.given_as n ∙ (x.fresh n (let m = y.more in omega (arith, m, l))).1);
    waiting = y.waiting;
  }
    where
      alone_so : (log : List Happening) (new : Asked) (count later : ℕ) (f next : Following) (x : R log count f) (run : List EventStep)
          → IsOpened log new count later f next (w_of x.run) run
          → (k j : ℕ) (r q : Asked) → r.source ≡ e → q.source ≡ e → r.own ≡ q.own
          → ((k ≡ count_of log) × (new ≡ r)) ⊎ ((k ≢ count_of log) × (asked_at log k ≡ Some r))
          → ((j ≡ count_of log) × (new ≡ q)) ⊎ ((j ≢ count_of log) × (asked_at log j ≡ Some q))
          → k ≡ j
      alone_so log new count later f next x run y k j r q s t own (inl a) (inl b) = a.0 ∙ sym b.0
      alone_so log new count later f next x run y k j r q s t own (inl a) (inr b) =
          let at = (y.own (ap (λ (r : Asked). r.source) a.1 ∙ s)).0 in
          let same = ap (λ (r : Asked). r.own) a.1 in
          let l = x.below j q b.1 t in absurd (omega (arith, at, same, l, own))
      alone_so log new count later f next x run y k j r q s t own (inr a) (inl b) =
          let at = (y.own (ap (λ (r : Asked). r.source) b.1 ∙ t)).0 in
          let same = ap (λ (r : Asked). r.own) b.1 in
          let l = x.below k r a.1 s in absurd (omega (arith, at, same, l, own))
      alone_so log new count later f next x run y k j r q s t own (inr a) (inr b) = x.alone k j r q a.1 b.1 s t own

  -- another requester opens one
  pub opened_elsewhere : (log : List Happening) (new : Asked) (count : ℕ) (f : Following) → (new.source ≡ e → ⊥) → ((request : EventRequest) → events.asks new.message ≡ Some request → ⊥) → R log count f → R (Opened new ∷ log) count f
  opened_elsewhere log new count f other none x = opened_so log new count count f f x x.run (record {
    timely = x.timely;
    queue = refl;
    posted = refl;
    counted = x.counted;
    receiver = x.receiver;
    open_one = x.open_one;
    taken = x.taken;
    older = λ n l. refl;
    given_as = λ n. refl;
    asked = λ s. absurd (other s);
    only = λ request asks. absurd (none request asks);
    own = λ s. absurd (other s);
    more = omega arith;
    fresh = λ n l. (x.fresh n l).0;
    waiting = λ n o. older_open new log n (x.waiting n o);
  })

  -- the receiver's requester opens one
  pub opened_here : (log : List Happening) (new : Asked) (count : ℕ) (f : Following) → new.source ≡ e → new.own ≡ count
      → (o : Option EventRequest) → events.asks new.message ≡ o
      → ((request : EventRequest) → events.asks new.message ≡ Some request → (f.open_one ≡ None) × (request ≡ f.receiver.request))
      → R log count f → R (Opened new ∷ log) (suc count) (with_open f count o)
  opened_here log new count f s own None asks turn x = opened_so log new count (suc count) f f x (AsksOther ∷ x.run) (record {
    timely = (tt, x.timely);
    queue = refl;
    posted = refl;
    counted = ap (λ n. suc n) x.counted;
    receiver = x.receiver;
    open_one = x.open_one;
    taken = x.taken;
    older = λ n l. refl;
    given_as = λ n. refl;
    asked = λ s. (x.fresh new.own (omega (arith, own))).0 ∙ sym asks;
    only = λ request wants. s;
    own = λ s. (own, omega arith);
    more = omega arith;
    fresh = λ n l. (x.fresh n (omega arith)).0;
    waiting = λ n o. older_open new log n (x.waiting n o);
  })
  opened_here log new count f s own (Some request) asks turn x =
      let w = w_of x.run in
      let t = turn request asks in
      let now : w_of (Asks ∷ x.run) ≡ with_ask w None = ap (with_ask w) (x.open_one ∙ t.0) in
      let c = x.counted in
      let wants : Some w.receiver.request ≡ events.asks new.message = ap (λ (v : ReceiverView). Some v.request) x.receiver ∙ ap (λ (q : EventRequest). Some q) (sym t.1) ∙ sym asks in
      opened_so log new count (suc count) f (with_open f count (Some request)) x (Asks ∷ x.run) (record {
        timely = (tt, x.timely);
        queue = ap (λ (v : EventWorld). v.queue) now;
        posted = ap (λ (v : EventWorld). v.posted) now;
        counted = ap (λ (v : EventWorld). v.count) now ∙ ap (λ n. suc n) x.counted;
        receiver = ap (λ (v : EventWorld). v.receiver) now ∙ x.receiver;
        open_one = ap (λ (v : EventWorld). v.open_one) now ∙ ap (λ (n : ℕ). Some n) x.counted;
        taken = ap (λ (v : EventWorld). v.taken) now ∙ x.taken;
        older = λ n l. ap (λ (v : EventWorld). v.asked n) now ∙ put_other w.asked w.count (Some w.receiver.request) n (λ at. absurd (omega (arith, at, c, l)));
        given_as = λ n. ap (λ (v : EventWorld). v.given n) now;
        asked = λ s. ap (λ (v : EventWorld). v.asked new.own) now ∙ put_here w.asked w.count (Some w.receiver.request) new.own (own ∙ sym c) ∙ wants;
        only = λ request wants. s;
        own = λ s. (own, omega arith);
        more = omega arith;
        fresh = λ n l. ap (λ (v : EventWorld). v.asked n) now ∙ put_other w.asked w.count (Some w.receiver.request) n (λ at. absurd (omega (arith, at, c, l))) ∙ (x.fresh n (omega arith)).0;
        waiting = λ n o. record {
          number = count_of log;
          r = new;
          request = request;
          asked = asked_here log new;
          source = s;
          own = own ∙ some_eq count n o;
          asks = asks;
        };
      })

  -- the open request is given up
  pub given_up : (log : List Happening) (count : ℕ) (f : Following) → R log count f → R log count (record f { receiver = after_giving_up f.receiver; open_one = None })
  given_up log count f x = record {
    run = GivesUp ∷ x.run;
    timely = (tt, x.timely);
    queue = x.queue;
    posted = x.posted;
    counted = x.counted;
    receiver = ap after_giving_up x.receiver;
    open_one = refl;
    taken = x.taken;
    asked = x.asked;
    only = x.only;
    given = x.given;
    below = x.below;
    alone = x.alone;
    fresh = x.fresh;
    waiting = λ n o. absurd (not_some n o);
  }

  -- it is answered, by what performing it gave
  pub answered : (log : List Happening) (count n : ℕ) (f : Following) (message : List ℕ) → f.open_one ≡ Some n
      → ((k : ℕ) (r : Asked) → asked_at log k ≡ Some r → r.source ≡ e → r.own ≡ n → given log k ≡ Some message)
      → R log count f → R log count (with_event f (events.brings message))
  answered log count n f message is gave x =
      let w = w_of x.run in
      let o = x.waiting n is in
      let event = events.brings message in
      let given_one : w.given n ≡ Some event =
      ap w.given (sym o.own) ∙ x.given o.number o.r o.request o.asked o.asks
      ∙ ap (λ (m : Option (List ℕ)). option_map events.brings m) (gave o.number o.r o.asked o.source o.own) in
      let now : w_of (Takes ∷ x.run) ≡ with_answer w (Some event) = ap (with_taking w) (x.open_one ∙ is) ∙ ap (with_answer w) given_one in
      record {
        run = Takes ∷ x.run;
        timely = (tt, x.timely);
        queue = ap (λ (v : EventWorld). v.queue) now ∙ x.queue;
        posted = ap (λ (v : EventWorld). v.posted) now ∙ x.posted;
        counted = ap (λ (v : EventWorld). v.count) now ∙ x.counted;
        receiver = ap (λ (v : EventWorld). v.receiver) now ∙ ap (λ (v : ReceiverView). after_answer v (id_in event)) x.receiver;
        open_one = ap (λ (v : EventWorld). v.open_one) now;
        taken =
            ap (λ (v : EventWorld). v.taken) now
            ∙ ap (λ (l : List PlatformEvent). taken_after l (is_new w.receiver (id_in event)) event) x.taken
            ∙ ap (λ (v : ReceiverView). taken_after f.taken (is_new v (id_in event)) event) x.receiver;
        asked = λ k r at s. ap (λ (v : EventWorld). v.asked r.own) now ∙ x.asked k r at s;
        only = x.only;
        given = λ k r request at asks. ap (λ (v : EventWorld). v.given r.own) now ∙ x.given k r request at asks;
        below = x.below;
        alone = x.alone;
        fresh = λ m l. let y = x.fresh m l in (ap (λ (v : EventWorld). v.asked m) now ∙ y.0, ap (λ (v : EventWorld). v.given m) now ∙ y.1);
        waiting = λ m o. absurd (not_some m o);
      }
