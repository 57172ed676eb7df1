-- What holds after each step of a timely run: IDs are in turn, the receiver is at most one event ahead, and the request
-- that acknowledges an event was opened while that one was the last taken, fewer than 33 events ago.
use Rattle.std.proofs.Common.{◌≡◌, ℕ, zero, suc, ◌+◌, ◌%◌, ◌<◌, ◌≤◌, Bool, true, false, cond, List, [], ◌∷◌, ◌++◌, length, Option, Some, None, refl, sym, ap, subst, ◌∙◌, ⊎_elim, append_assoc, length-append, inl, inr, arith}
use Rattle.std.specs.Prelude.{◌⊎◌, ◌==◌, not, drop}
use Rattle.std.proofs.lemmas.Bool.{cases_eq, eq-eqb, ne_eqb, eqb-true, eqb-false}
use Rattle.std.proofs.lemmas.Bool.{cond-true, cond-false}
use Rattle.event_queue.specs.declared.event.TheConstants.{EVENT_IDS}
use Rattle.event_queue.specs.declared.receiver.EventRequest.{EventRequest}
use Rattle.event_queue.specs.declared.receiver.EventRequest.TheVariants.{Poll, Acknowledge}
use Rattle.event_queue.specs.Laws.{AreTakenUpTo, EventsOnce}
use Rattle.event_queue.specs.Queues.{PlatformEvent, has_room, head, is_head, next_id}
use Rattle.event_queue.specs.Runs.{EventStep, EventWorld, Posts, Asks, AsksOther, Performs, Takes, GivesUp, Restarts, IsTimelyRun, IsTimelyStep, acknowledged_after, event_world, first_world, happens, id_in, performed, put, taken_after, with_answer, with_ask, with_post, with_refusal, with_taking}
use Rattle.event_queue.specs.Receivers.{is_new_by, receiver_by}

-- the first ID is `base + 1`
module _ (base : ℕ) where
  -- ---- IDs
  event_id : ℕ → ℕ
  event_id n = (base + n) % EVENT_IDS + 1

  id_before : ℕ → ℕ
  id_before zero = 0
  id_before (suc n) = event_id n

  unfold_id : (n : ℕ) → event_id n ≡ (base + n) % EVENT_IDS + 1
  unfolding event_id
  unfold_id n = refl

  before_some : (n : ℕ) → id_before (suc n) ≡ event_id n
  unfolding id_before
  before_some n = refl

  before_none : id_before 0 ≡ 0
  unfolding id_before
  before_none = refl

  -- an ID is used again after 65,534 events, no sooner
  apart : (a m : ℕ) → m < a → a ≤ m + 34 → event_id a ≡ event_id m → ⊥
  apart a m l u e = let x = unfold_id a in let y = unfold_id m in omega (arith, x, y)

  next_in_turn : (n : ℕ) → next_id (event_id n) ≡ event_id (n + 1)
  next_in_turn n = let x = unfold_id n in let y = unfold_id (n + 1) in omega (arith, x, y)

  some_id : (n : ℕ) → 0 < event_id n
  some_id n = let x = unfold_id n in omega (arith, x)

  -- the events from this place on have the IDs of their places
  abbrev Numbered : ℕ → List PlatformEvent → Type 0
  Numbered n [] = Unit {0}
  Numbered n (event ∷ rest) = (event.id ≡ event_id n) × Numbered (suc n) rest

  numbered_more : (n : ℕ) (events : List PlatformEvent) (event : PlatformEvent) → Numbered n events → event.id ≡ event_id (n + length events) → Numbered n (events ++ event ∷ [])
  numbered_more n [] event all e = (e ∙ ap event_id (omega arith), tt)
  numbered_more n (first ∷ rest) event all e = (all.0, numbered_more (suc n) rest event all.1 (e ∙ ap event_id (omega arith)))

  one_longer : (events : List PlatformEvent) (event : PlatformEvent) → length (events ++ event ∷ []) ≡ suc (length events)
  one_longer events event = let l = length-append events (event ∷ []) in omega (arith, l)

  -- ---- what holds
  pending : Option ℕ → ℕ
  pending None = 0
  pending (Some n) = 1

  pending_none : pending None ≡ 0
  unfolding pending
  pending_none = refl

  pending_some : (n : ℕ) → pending (Some n) ≡ 1
  unfolding pending
  pending_some n = refl

  -- what the receiver asks next: an acknowledgement is of the last event that it took
  abbrev AskIs : EventRequest → ℕ → ℕ → Type 0
  AskIs Poll last count = Unit {0}
  AskIs (Acknowledge id) last count = (id ≡ last) × (0 < count)

  -- request n acknowledges an event that was taken, and since it was opened each request has taken at most one more
  record IsOfTaken (taken waiting count n id : ℕ) : Type 0 where
    place : ℕ
    id_is : id ≡ event_id place
    before : place < taken
    recent : taken + waiting + n ≤ place + 1 + count

  -- an event that a poll brought is the head still, or it is the last one that was taken
  abbrev IsHeadOrTaken : PlatformEvent → List PlatformEvent → ℕ → ℕ → Type 0
  IsHeadOrTaken event [] last taken = (event.id ≡ last) × (0 < taken)
  IsHeadOrTaken event (first ∷ rest) last taken = (first ≡ event) ⊎ ((event.id ≡ last) × (0 < taken))

  record Holds (w : EventWorld) : Type 0 where
    posted : w.posted ≡ w.acknowledged ++ w.queue.events
    numbered : Numbered (length w.acknowledged) w.queue.events
    next : w.queue.next ≡ event_id (length w.acknowledged + length w.queue.events)
    taken : AreTakenUpTo w.taken w.acknowledged w.queue.events
    last : w.receiver.last ≡ id_before (length w.taken)
    ask : AskIs w.receiver.request w.receiver.last (length w.taken)
    acks : (n id : ℕ) → w.asked n ≡ Some (Acknowledge id) → IsOfTaken (length w.taken) (pending w.open_one) w.count n id
    fresh : (n : ℕ) → w.count ≤ n → (w.asked n ≡ None) × (w.given n ≡ None)
    given :
        (n : ℕ) (event : PlatformEvent) → w.open_one ≡ Some n → w.given n ≡ Some (Some event)
        → IsHeadOrTaken event w.queue.events w.receiver.last (length w.taken)

  -- ---- another value at a number
  put_here : {A : Type 0} (each : ℕ → A) (n : ℕ) (x : A) (k : ℕ) → k ≡ n → put each n x k ≡ x
  put_here each n x k e = cond-true (k == n) _ _ (eq-eqb k n e)

  put_other : {A : Type 0} (each : ℕ → A) (n : ℕ) (x : A) (k : ℕ) → (k ≡ n → ⊥) → put each n x k ≡ each k
  put_other each n x k e = cond-false (k == n) _ _ (ne_eqb k n e)

  -- ---- an event is posted
  taken_longer : (taken before events : List PlatformEvent) (event : PlatformEvent) → AreTakenUpTo taken before events → AreTakenUpTo taken before (events ++ event ∷ [])
  taken_longer taken before [] event t = inl t
  taken_longer taken before (first ∷ rest) event t = t

  given_longer : (got event : PlatformEvent) (events : List PlatformEvent) (last taken : ℕ) → IsHeadOrTaken got events last taken → IsHeadOrTaken got (events ++ event ∷ []) last taken
  given_longer got event [] last taken g = inr g
  given_longer got event (first ∷ rest) last taken g = g

  with_post_holds : (w : EventWorld) (class : ℕ) (contents : List ℕ) → Holds w → Holds (with_post w class contents)
  with_post_holds w class contents h =
      let event : PlatformEvent = record { id = w.queue.next; class = class; contents = contents } in
      let l = one_longer w.queue.events event in
      let place : suc (length w.acknowledged + length w.queue.events) ≡ length w.acknowledged + length (w.queue.events ++ event ∷ []) = omega (arith, l) in
      let next : next_id w.queue.next ≡ event_id (length w.acknowledged + length w.queue.events + 1) = ap next_id h.next ∙ next_in_turn (length w.acknowledged + length w.queue.events) in
      record {
        posted = ap (λ (events : List PlatformEvent). events ++ event ∷ []) h.posted ∙ append_assoc w.acknowledged w.queue.events (event ∷ []);
        numbered = numbered_more (length w.acknowledged) w.queue.events event h.numbered h.next;
        next = next ∙ ap event_id (omega (arith, l));
        taken = taken_longer w.taken w.acknowledged w.queue.events event h.taken;
        last = h.last;
        ask = h.ask;
        acks = h.acks;
        fresh = h.fresh;
        given = λ n got o g. given_longer got event w.queue.events w.receiver.last (length w.taken) (h.given n got o g);
      }

  posts_holds : (w : EventWorld) (class : ℕ) (contents : List ℕ) (b : Bool) → Holds w → Holds (cond b (with_post w class contents) (with_refusal w))
  posts_holds w class contents true h = with_post_holds w class contents h
  posts_holds w class contents false h = record {
    posted = h.posted;
    numbered = h.numbered;
    next = h.next;
    taken = h.taken;
    last = h.last;
    ask = h.ask;
    acks = h.acks;
    fresh = h.fresh;
    given = h.given;
  }

  -- ---- the receiver asks
  last_place : (taken : ℕ) → 0 < taken → (place : ℕ) × (taken ≡ suc place) × (id_before taken ≡ event_id place)
  last_place zero some = absurd (omega arith)
  last_place (suc n) some = (n, refl, before_some n)

  ask_of_taken : (ask : EventRequest) (last taken count n id : ℕ) → AskIs ask last taken → last ≡ id_before taken → n ≡ count → ask ≡ Acknowledge id → IsOfTaken taken 1 (suc count) n id
  ask_of_taken Poll last taken count n id is l at e = absurd (cc)
  ask_of_taken (Acknowledge same) last taken count n id is l at e =
      let p = last_place taken is.1 in
      let ids : same ≡ id = cc in
      record {
        place = p.0;
        id_is = sym ids ∙ is.0 ∙ l ∙ p.2;
        before = let t = p.1 in omega arith;
        recent = let t = p.1 in omega arith;
      }

  some_eq : {A : Type 0} (x y : A) → Some x ≡ Some y → x ≡ y
  some_eq x y e = cc

  later_ack : (taken waiting now count n id : ℕ) → now ≤ 1 → IsOfTaken taken waiting count n id → IsOfTaken taken now (suc count) n id
  later_ack taken waiting now count n id l is =
      let r = is.recent in
      record { place = is.place; id_is = is.id_is; before = is.before; recent = omega arith }

  with_ask_holds : (w : EventWorld) (o : Option ℕ) → w.open_one ≡ o → Holds w → Holds (with_ask w o)
  with_ask_holds w (Some n) e h = h
  with_ask_holds w None e h = record {
    posted = h.posted;
    numbered = h.numbered;
    next = h.next;
    taken = h.taken;
    last = h.last;
    ask = h.ask;
    acks = λ n id a.
        subst (λ (waiting : ℕ). IsOfTaken (length w.taken) waiting (suc w.count) n id) (sym (pending_some w.count))
        (⊎_elim
        (λ (at : n ≡ w.count). ask_of_taken w.receiver.request w.receiver.last (length w.taken) w.count n id h.ask h.last at (some_eq _ _ (sym (put_here w.asked w.count (Some w.receiver.request) n at) ∙ a)))
        (λ (other : n ≡ w.count → ⊥). later_ack (length w.taken) (pending w.open_one) 1 w.count n id (omega arith) (h.acks n id (sym (put_other w.asked w.count (Some w.receiver.request) n other) ∙ a)))
        (cases_eq n w.count));
    fresh = λ n l.
        let other : n ≡ w.count → ⊥ = λ e. omega arith in
        let f = h.fresh n (omega arith) in
        (put_other w.asked w.count (Some w.receiver.request) n other ∙ f.0, f.1);
    given = λ n event o g.
        let at : w.count ≡ n = some_eq _ _ o in
        let none : w.given n ≡ None = (h.fresh n (omega (arith, at))).1 in
        absurd (let no : None ≡ Some (Some event) = sym none ∙ g in cc);
  }

  asks_other_holds : (w : EventWorld) → Holds w → Holds (record w { count = suc w.count })
  asks_other_holds w h = record {
    posted = h.posted;
    numbered = h.numbered;
    next = h.next;
    taken = h.taken;
    last = h.last;
    ask = h.ask;
    acks = λ n id a.
        let is = h.acks n id a in
        let r = is.recent in
        record { place = is.place; id_is = is.id_is; before = is.before; recent = omega arith };
    fresh = λ n l. h.fresh n (omega arith);
    given = h.given;
  }

  -- ---- the device performs a request
  -- what an acknowledgement leaves
  record IsAfterAck (taken before events after rest : List PlatformEvent) (last : ℕ) : Type 0 where
    parts : after ++ rest ≡ before ++ events
    numbered : Numbered (length after) rest
    counts : length after + length rest ≡ length before + length events
    taken_is : AreTakenUpTo taken after rest
    given : (event : PlatformEvent) → IsHeadOrTaken event events last (length taken) → IsHeadOrTaken event rest last (length taken)

  even_up_to : (taken before events : List PlatformEvent) → taken ≡ before → AreTakenUpTo taken before events
  even_up_to taken before [] e = e
  even_up_to taken before (first ∷ rest) e = inl e

  taken_before : (event : PlatformEvent) (events : List PlatformEvent) (last taken : ℕ) → event.id ≡ last → 0 < taken → IsHeadOrTaken event events last taken
  taken_before event [] last taken e l = (e, l)
  taken_before event (first ∷ rest) last taken e l = inr (e, l)

  module _ (id place last : ℕ) (taken before : List PlatformEvent) (id_is : id ≡ event_id place) (known : place < length taken) (recent : length taken ≤ place + 34) (last_is : last ≡ id_before (length taken)) where
    ack_of_head : (first : PlatformEvent) (rest : List PlatformEvent) (b : Bool) → (first.id == id) ≡ b → Numbered (length before) (first ∷ rest) → AreTakenUpTo taken before (first ∷ rest)
        → IsAfterAck taken before (first ∷ rest) (cond b (before ++ first ∷ []) before) (cond b rest (first ∷ rest)) last
    ack_of_head first rest false e all t = record {
      parts = refl;
      numbered = all;
      counts = refl;
      taken_is = t;
      given = λ event g. g;
    }
    ack_of_head first rest true e all t =
        let same : first.id ≡ id = eqb-true first.id id e in
        let l = one_longer before first in
        let ids : event_id (length before) ≡ event_id place = sym all.0 ∙ same ∙ id_is in
        let ahead : taken ≡ before ++ first ∷ [] =
        ⊎_elim
        (λ (even : taken ≡ before). let n : length taken ≡ length before = ap length even in absurd (apart (length before) place (omega (arith, n)) (omega (arith, n)) ids))
        (λ (more : taken ≡ before ++ first ∷ []). more)
        t in
        let n : length taken ≡ suc (length before) = ap length ahead ∙ l in
        let last_now : last ≡ first.id = last_is ∙ ap id_before n ∙ before_some (length before) ∙ sym all.0 in
        record {
          parts = append_assoc before (first ∷ []) rest;
          numbered = subst (λ (k : ℕ). Numbered k rest) (sym l) all.1;
          counts = omega (arith, l);
          taken_is = even_up_to taken (before ++ first ∷ []) rest ahead;
          given = λ event g. ⊎_elim
              (λ (at : first ≡ event). taken_before event rest last (length taken) (sym (last_now ∙ ap (λ (x : PlatformEvent). x.id) at)) (omega (arith, n)))
              (λ (old : (event.id ≡ last) × (0 < length taken)). taken_before event rest last (length taken) old.0 old.1)
              g;
        }

    ack_leaves : (events : List PlatformEvent) → Numbered (length before) events → AreTakenUpTo taken before events
        → IsAfterAck taken before events (acknowledged_after id before events) (cond (is_head id events) (drop 1 events) events) last
    ack_leaves [] all t = record { parts = refl; numbered = all; counts = refl; taken_is = t; given = λ event g. g }
    ack_leaves (first ∷ rest) all t = ack_of_head first rest (first.id == id) refl all t

  -- a request that was opened is before the next one
  opened_before : (w : EventWorld) (n : ℕ) (ask : EventRequest) → Holds w → w.asked n ≡ Some ask → (k : ℕ) → w.count ≤ k → k ≡ n → ⊥
  opened_before w n ask h a k l e =
      let none : w.asked n ≡ None = (h.fresh n (omega (arith, e))).0 in
      let no : None ≡ Some ask = sym none ∙ a in cc

  still_fresh : (w : EventWorld) (n : ℕ) (ask : EventRequest) (given : Option PlatformEvent) → Holds w → w.asked n ≡ Some ask
      → (k : ℕ) → w.count ≤ k → (w.asked k ≡ None) × (put w.given n (Some given) k ≡ None)
  still_fresh w n ask given h a k l =
      let f = h.fresh k l in
      (f.0, put_other w.given n (Some given) k (opened_before w n ask h a k l) ∙ f.1)

  head_given : (event : PlatformEvent) (events : List PlatformEvent) (last taken : ℕ) → head events ≡ Some event → IsHeadOrTaken event events last taken
  head_given event [] last taken e = absurd (cc)
  head_given event (first ∷ rest) last taken e = inl (some_eq first event e)

  performed_holds : (w : EventWorld) (n : ℕ) (o : Option EventRequest) → w.asked n ≡ o → w.count ≤ n + 32 → Holds w → Holds (performed w n o)
  performed_holds w n None e l h = h
  performed_holds w n (Some Poll) e l h = record {
    posted = h.posted;
    numbered = h.numbered;
    next = h.next;
    taken = h.taken;
    last = h.last;
    ask = h.ask;
    acks = h.acks;
    fresh = still_fresh w n Poll (head w.queue.events) h e;
    given = λ k event o g. ⊎_elim
        (λ (at : k ≡ n). head_given event w.queue.events w.receiver.last (length w.taken) (some_eq _ _ (sym (put_here w.given n (Some (head w.queue.events)) k at) ∙ g)))
        (λ (other : k ≡ n → ⊥). h.given k event o (sym (put_other w.given n (Some (head w.queue.events)) k other) ∙ g))
        (cases_eq k n);
  }
  performed_holds w n (Some (Acknowledge id)) e l h =
      let is = h.acks n id e in
      let r = is.recent in
      let f = ack_leaves id is.place w.receiver.last w.taken w.acknowledged is.id_is is.before (omega arith) h.last w.queue.events h.numbered h.taken in
      record {
        posted = h.posted ∙ sym f.parts;
        numbered = f.numbered;
        next = h.next ∙ ap event_id (sym f.counts);
        taken = f.taken_is;
        last = h.last;
        ask = h.ask;
        acks = h.acks;
        fresh = still_fresh w n (Acknowledge id) None h e;
        given = λ k event o g. ⊎_elim
            (λ (at : k ≡ n). absurd (let no : Some None ≡ Some (Some event) = sym (put_here w.given n (Some None) k at) ∙ g in let no2 : None ≡ Some event = some_eq _ _ no in cc))
            (λ (other : k ≡ n → ⊥). f.given event (h.given k event o (sym (put_other w.given n (Some None) k other) ∙ g)))
            (cases_eq k n);
      }

  -- ---- the receiver takes an answer
  -- an event that is no longer new was taken
  old_is_taken : (event : PlatformEvent) (events before : List PlatformEvent) (last taken : ℕ) → event.id ≡ last → last ≡ id_before taken → Numbered (length before) events → IsHeadOrTaken event events last taken → 0 < taken
  old_is_taken event events before last (suc n) e l all g = omega arith
  old_is_taken event [] before last zero e l all g = g.1
  old_is_taken event (first ∷ rest) before last zero e l all g =
      ⊎_elim
      (λ (at : first ≡ event). let x = ap (λ (y : PlatformEvent). y.id) at in let y = some_id (length before) in let z = all.0 in let v = before_none in absurd (omega (arith, x, y, z, v, l, e)))
      (λ (old : (event.id ≡ last) × (0 < 0)). old.1)
      g

  record IsTaken (event : PlatformEvent) (events before taken : List PlatformEvent) : Type 0 where
    up_to : AreTakenUpTo (taken ++ event ∷ []) before events
    last_is : event.id ≡ id_before (length (taken ++ event ∷ []))

  new_is_head : (event : PlatformEvent) (events before taken : List PlatformEvent) (last : ℕ) → (event.id ≡ last → ⊥) → last ≡ id_before (length taken) → Numbered (length before) events
      → AreTakenUpTo taken before events → IsHeadOrTaken event events last (length taken) → IsTaken event events before taken
  new_is_head event [] before taken last new l all t g = absurd (new g.0)
  new_is_head event (first ∷ rest) before taken last new l all t g =
      let at : first ≡ event = ⊎_elim (λ (at : first ≡ event). at) (λ (old : (event.id ≡ last) × (0 < length taken)). absurd (new old.0)) g in
      let id : event.id ≡ event_id (length before) = sym (ap (λ (x : PlatformEvent). x.id) at) ∙ all.0 in
      let even : taken ≡ before =
      ⊎_elim
      (λ (same : taken ≡ before). same)
      (λ (more : taken ≡ before ++ first ∷ []).
      let n : length taken ≡ suc (length before) = ap length more ∙ one_longer before first in
      absurd (new (id ∙ sym (l ∙ ap id_before n ∙ before_some (length before)))))
      t in
      let n : length (taken ++ event ∷ []) ≡ suc (length before) = one_longer taken event ∙ ap (λ (x : List PlatformEvent). suc (length x)) even in
      record {
        up_to = inr (ap (λ (x : List PlatformEvent). x ++ event ∷ []) even ∙ ap (λ (x : PlatformEvent). before ++ x ∷ []) (sym at));
        last_is = id ∙ sym (ap id_before n ∙ before_some (length before));
      }

  shut_ack : (taken more waiting count n id : ℕ) → more ≤ taken + waiting → taken ≤ more → IsOfTaken taken waiting count n id → IsOfTaken more (pending None) count n id
  shut_ack taken more waiting count n id l m is =
      let r = is.recent in
      let p = pending_none in
      let b = is.before in
      record { place = is.place; id_is = is.id_is; before = omega arith; recent = omega (arith, p) }

  not_open : (n : ℕ) → None ≡ Some n → ⊥
  not_open n e = cc

  module _ (w : EventWorld) (n : ℕ) (is_open : w.open_one ≡ Some n) (h : Holds w) where
    one : pending w.open_one ≡ 1
    one = ap pending is_open ∙ pending_some n

    polled : (event : PlatformEvent) → w.given n ≡ Some (Some event) → (b : Bool) → (event.id == w.receiver.last) ≡ b
        → Holds (record w {
          taken = cond (not b) (w.taken ++ event ∷ []) w.taken;
          receiver = record { last = event.id; request = Acknowledge event.id };
          open_one = None;
        })
    polled event g true e =
        let same : event.id ≡ w.receiver.last = eqb-true event.id w.receiver.last e in
        let some : 0 < length w.taken = old_is_taken event w.queue.events w.acknowledged w.receiver.last (length w.taken) same h.last h.numbered (h.given n event is_open g) in
        record {
          posted = h.posted;
          numbered = h.numbered;
          next = h.next;
          taken = h.taken;
          last = same ∙ h.last;
          ask = (refl, some);
          acks = λ k id a. shut_ack (length w.taken) (length w.taken) (pending w.open_one) w.count k id (omega arith) (omega arith) (h.acks k id a);
          fresh = h.fresh;
          given = λ k got o q. absurd (not_open k o);
        }
    polled event g false e =
        let new : event.id ≡ w.receiver.last → ⊥ = eqb-false event.id w.receiver.last e in
        let f = new_is_head event w.queue.events w.acknowledged w.taken w.receiver.last new h.last h.numbered h.taken (h.given n event is_open g) in
        let l = one_longer w.taken event in
        let o = one in
        record {
          posted = h.posted;
          numbered = h.numbered;
          next = h.next;
          taken = f.up_to;
          last = f.last_is;
          ask = (refl, omega (arith, l));
          acks = λ k id a. shut_ack (length w.taken) (length (w.taken ++ event ∷ [])) (pending w.open_one) w.count k id (omega (arith, l, o)) (omega (arith, l)) (h.acks k id a);
          fresh = h.fresh;
          given = λ k got o q. absurd (not_open k o);
        }

    -- the receiver goes on with a poll, whatever it asked
    goes_on : Holds (record w { receiver = record w.receiver { request = Poll }; open_one = None })
    goes_on = record {
      posted = h.posted;
      numbered = h.numbered;
      next = h.next;
      taken = h.taken;
      last = h.last;
      ask = tt;
      acks = λ k id a. shut_ack (length w.taken) (length w.taken) (pending w.open_one) w.count k id (omega arith) (omega arith) (h.acks k id a);
      fresh = h.fresh;
      given = λ k got o q. absurd (not_open k o);
    }

    answered : (event : Option PlatformEvent) → w.given n ≡ Some event → (ask : EventRequest)
        → Holds (record w {
          taken = taken_after w.taken (is_new_by ask w.receiver.last (id_in event)) event;
          receiver = receiver_by ask w.receiver.last (id_in event);
          open_one = None;
        })
    answered None g Poll = goes_on
    answered None g (Acknowledge id) = goes_on
    answered (Some event) g Poll = polled event g (event.id == w.receiver.last) refl
    answered (Some event) g (Acknowledge id) = goes_on

    with_answer_holds : (given : Option (Option PlatformEvent)) → w.given n ≡ given → Holds (with_answer w given)
    with_answer_holds None g = h
    with_answer_holds (Some event) g = answered event g w.receiver.request

  with_taking_holds : (w : EventWorld) (o : Option ℕ) → w.open_one ≡ o → Holds w → Holds (with_taking w o)
  with_taking_holds w None e h = h
  with_taking_holds w (Some n) e h = with_answer_holds w n e h (w.given n) refl

  gives_up_holds : (w : EventWorld) → Holds w → Holds (record w { receiver = record w.receiver { request = Poll }; open_one = None })
  gives_up_holds w h = record {
    posted = h.posted;
    numbered = h.numbered;
    next = h.next;
    taken = h.taken;
    last = h.last;
    ask = tt;
    acks = λ k id a. shut_ack (length w.taken) (length w.taken) (pending w.open_one) w.count k id (omega arith) (omega arith) (h.acks k id a);
    fresh = h.fresh;
    given = λ k got o q. absurd (not_open k o);
  }

  -- ---- each step
  step_holds : (most : ℕ) (w : EventWorld) (step : EventStep) → IsTimelyStep most (suc base) w step → Holds w → Holds (happens w step)
  step_holds most w (Posts class contents) t h = posts_holds w class contents (has_room w.queue) h
  step_holds most w Asks t h = with_ask_holds w w.open_one refl h
  step_holds most w AsksOther t h = asks_other_holds w h
  step_holds most w (Performs n) t h = performed_holds w n (w.asked n) refl t h
  step_holds most w Takes t h = with_taking_holds w w.open_one refl h
  step_holds most w GivesUp t h = gives_up_holds w h
  step_holds most w Restarts t h = h

  first_holds : (most : ℕ) → suc base ≤ EVENT_IDS → Holds (first_world most (suc base))
  first_holds most few = record {
    posted = refl;
    numbered = tt;
    next = let x = unfold_id 0 in omega (arith, x);
    taken = refl;
    last = sym before_none;
    ask = tt;
    acks = λ n id a. absurd (let no : None ≡ Some (Acknowledge id) = a in cc);
    fresh = λ n l. (refl, refl);
    given = λ n event o g. absurd (not_open n o);
  }

  run_holds : (most : ℕ) → suc base ≤ EVENT_IDS → (steps : List EventStep) → IsTimelyRun most (suc base) steps
      → Holds (event_world most (suc base) steps)
  run_holds most few [] t = first_holds most few
  run_holds most few (step ∷ past) t =
      step_holds most (event_world most (suc base) past) step t.0 (run_holds most few past t.1)

pub events_once : EventsOnce
events_once most zero steps is t = absurd (let some = is.some in omega (arith, some))
events_once most (suc base) steps is t =
    let h = run_holds base most (let few = is.few in omega (arith, few)) steps t in record { posted = h.posted; taken = h.taken }
