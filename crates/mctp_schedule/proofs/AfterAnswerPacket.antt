-- The packet of an answer comes to a requester: how its requests stand then.
use Rattle.std.proofs.Common.{◌≡◌, ◌⊎◌, ℕ, ◌+◌, ◌<◌, ◌≤◌, Bool, true, false, List, ◌∷◌, length, Option, Some, None, Result, Ok, Err, refl, sym, ap, subst, ◌∙◌, inl, inr, arith, eq-eqb, eqb-true}
use Rattle.std.specs.Prelude.{◌||◌, ◌&&◌, ◌-◌, ◌==◌, not, is_some, nat_le, IfSome, option_map, slice_get, slice_index, if◌then◌else◌}
use Rattle.std.proofs.lemmas.Bool.{cases_Bool, cases_eq, cond-true, cond-false, leb-false, leb-true, ne_eqb}
use Rattle.mctp_packet.specs.Packets.{Packet}
use Rattle.mctp_packet.specs.declared.reason.Reason.{Reason}
use Rattle.pldm_requester.specs.Arrivals.{Arrival, Drop, Part, Answer, got_of}
use Rattle.pldm_requester.specs.Calls as requester
use Rattle.pldm_requester.specs.Calls.{Requests, answered_by, arrived, fed_by, fed_to, goes_to, got_expected, passed, put, received, requests}
use Rattle.pldm_requester.specs.Courses as courses
use Rattle.pldm_requester.specs.Courses.{Course}
use Rattle.pldm_requester.specs.Laws.{IsLeftBy, ReceiveLooksBack, SameIsLeft, memo_of}
use Rattle.pldm_requester.specs.Slots.{held_of}
use Rattle.pldm_requester.specs.Steps as held_steps
use Rattle.pldm_requester.specs.Steps.{RequesterState, IsHeld, Memo, arrived_by, got_at, is_recent, received_held, is_kept, outline_if}
use Rattle.pldm_requester.specs.declared.results.Got.{Got}
use Rattle.pldm_requester.specs.declared.results.Got.TheVariants as got
use Rattle.pldm_requester.specs.declared.pace.Pace.{Pace}
use Rattle.pldm_requester.specs.declared.timing.Timing.{Timing}
use Rattle.mctp_schedule.specs.Askers.{Side, ReportsReply}
use Rattle.mctp_schedule.specs.Entries.{as_it_stands, got_entry, numbers_of}
use Rattle.mctp_schedule.specs.HandedPackets.{got_from}
use Rattle.mctp_schedule.specs.HeldRuns.{HeldRun}
use Rattle.mctp_schedule.specs.Journals.{answered_as}
use Rattle.mctp_schedule.specs.Logs.{Asked, asked_at, count_of, endpoint_of}
use Rattle.mctp_schedule.specs.Running.{IsOpened, IsRunning, IsSide, answer_action}
use Rattle.schedule_text.specs.Schedules.{has_requester}
use Rattle.mctp_schedule.specs.Worlds.{BothEnds, World, handed, is_timely, requests_of, source_of, tag_is_own, time_now, timing_of, with_call, world}
use Rattle.mctp_schedule.specs.declared.askers.AnsweredRequest.{AnsweredRequest}
use Rattle.mctp_schedule.specs.declared.entry.Entry.TheVariants as entry
use Rattle.mctp_schedule.specs.declared.journal.Journal.{Journal}
use Rattle.mctp_schedule.specs.Actions.{Step}
use Rattle.mctp_schedule.proofs.AskerCalls.{answer_near, answer_of_got, answer_remembered, kept_near, own_below, progress_remembered}
use Rattle.mctp_schedule.proofs.LoggedRequests.{asked_below}
use Rattle.mctp_schedule.proofs.AfterCall.{with_side, Writes, called_runs, new_side}
use Rattle.mctp_schedule.proofs.HandedAnswerPackets.{delivered, done_is, entry_is, timely_is}
use Rattle.mctp_schedule.proofs.NumberedRequests.{get_index, index_get}
use Rattle.mctp_schedule.proofs.KeptByAStep.{call_here, call_other}
use Rattle.mctp_schedule.proofs.AfterTick.{unique}

-- ---- a packet changes the course of the request that it answers alone
module _ (own device : ℕ) (timing : Timing) (pace : Pace) where
  put_course : (each : ℕ → requester.Request) (number : ℕ) (request : requester.Request) → request.course ≡ (each number).course → (n : ℕ) → (put each number request n).course ≡ (each n).course
  put_course each number request same n = go (n == number) refl
    where
      go : (b : Bool) → (n == number) ≡ b → (if b then request else each n).course ≡ (each n).course
      go true t = same ∙ ap (λ k. (each k).course) (sym (eqb-true n number t))
      go false t = refl

  fed_to_course : (a : Requests) (p : Packet) (to : Option ℕ) (n : ℕ) → ((fed_to own device timing a p to).each n).course ≡ (a.each n).course
  fed_to_course a p None n = refl
  fed_to_course a p (Some number) n = put_course a.each number _ refl n

  fed_course : (a : Requests) (read : Result Packet Reason) (n : ℕ) → ((fed_by own device timing a read).each n).course ≡ (a.each n).course
  fed_course a (Err reason) n = refl
  fed_course a (Ok p) n = fed_to_course a p (goes_to own device timing a p) n

  answered_other : (a : Requests) (arrival : Arrival) (n : ℕ) → ((m : List ℕ) → arrival ≡ Answer n m → ⊥) → ((answered_by own device timing a arrival).each n).course ≡ (a.each n).course
  answered_other a (Drop reason) n other = refl
  answered_other a Part n other = refl
  answered_other a (Answer number m) n other =
      ap (λ (q : requester.Request). q.course) (cond-false (n == number) _ (a.each n) (ne_eqb n number (λ e. other m (ap (λ k. Answer k m) (sym e)))))

  pub received_other : (a : Requests) (bytes : List ℕ) (n : ℕ) → ((m : List ℕ) → arrived own device timing a bytes ≡ Answer n m → ⊥) → ((received own device timing a bytes).each n).course ≡ (a.each n).course
  received_other a bytes n other =
      answered_other (fed_by own device timing a (passed own device timing a bytes)) (arrived own device timing a bytes) n other ∙ fed_course a (passed own device timing a bytes) n

-- ---- what is remembered of a request stands as it does
memo_progress : (b k : Bool) (memo : Memo) (progress : courses.Progress) → k ≡ true → option_map (λ (m : Memo). m.course.progress) (if b then outline_if (not k) (Some memo) else None) ≡ Some progress → memo.course.progress ≡ progress
memo_progress true true memo progress kept e = cc
memo_progress true false memo progress kept e = absurd (cc)
memo_progress false k memo progress kept e = absurd (cc)

not_answered : (x : Arrival) (y : Arrival) (n : ℕ) → got_of x ≡ got_of y → ((m : List ℕ) → x ≡ Answer n m → ⊥) → (m : List ℕ) → y ≡ Answer n m → ⊥
not_answered x y n same none m e =
    let a = answer_of_got x n (same ∙ ap got_of e) in none a.0 a.1

-- ---- whether a tag was used again, by a difference
pub tag_kept : (count own : ℕ) → nat_le (count - 8) own ≡ nat_le count (own + 8)
tag_kept count own = go (cases_Bool (nat_le (count - 8) own)) (cases_Bool (nat_le count (own + 8)))
  where
    go : (nat_le (count - 8) own ≡ true) ⊎ (nat_le (count - 8) own ≡ false) → (nat_le count (own + 8) ≡ true) ⊎ (nat_le count (own + 8) ≡ false) → nat_le (count - 8) own ≡ nat_le count (own + 8)
    go (inl t) (inl u) = t ∙ sym u
    go (inr t) (inr u) = t ∙ sym u
    go (inl t) (inr u) = absurd (let x = leb-true (count - 8) own t in let y = leb-false count (own + 8) u in omega (arith, x, y))
    go (inr t) (inl u) = absurd (let x = leb-false (count - 8) own t in let y = leb-true count (own + 8) u in omega (arith, x, y))

module _ {S : Type 0} (setting : BothEnds S) (w : World) (moment e : ℕ) (bytes : List ℕ) (side new : Side) (s : IsSide setting w moment e side) (answered : Option AnsweredRequest) where
  abbrev v : World
  v = record { calls = with_call w.calls e (requester.Receive moment bytes); log = w.log }

  abbrev timing : Timing
  timing = timing_of setting e

  abbrev brought : Arrival
  brought = arrived_by (held_of side.station) (held_steps.passed (held_of side.station) bytes)

  -- what was called, held and reported
  pub record Receives : Type 0 where
    pub looks : ReceiveLooksBack
    pub same : SameIsLeft
    pub new_held : IsHeld (held_of new.station) (received_held (held_of side.station) moment bytes)
    pub reports : ReportsReply side.numbers (arrived_by (held_of side.station) (held_steps.passed (held_of side.station) bytes)) answered

  module _ (x : Receives) where
    looked : (got_at (held_of side.station) bytes ≡ got_expected (endpoint_of e) setting.eid (timing_of setting e) setting.pace (w.calls e) bytes)
        × IsLeftBy (endpoint_of e) setting.eid (timing_of setting e) setting.pace (received_held (held_of side.station) moment bytes) (requester.Receive moment bytes ∷ w.calls e)
    looked = x.looks (endpoint_of e) setting.eid (timing_of setting e) setting.pace (held_of side.station) (w.calls e) moment bytes s.left

    pub new_left : IsLeftBy (endpoint_of e) setting.eid (timing_of setting e) setting.pace (held_of new.station) (requester.Receive moment bytes ∷ w.calls e)
    new_left = x.same (endpoint_of e) setting.eid (timing_of setting e) setting.pace (held_of new.station) (received_held (held_of side.station) moment bytes) (requester.Receive moment bytes ∷ w.calls e) x.new_held looked.1

    pub new_count : (requests (endpoint_of e) setting.eid (timing_of setting e) setting.pace (requester.Receive moment bytes ∷ w.calls e)).count ≡ (requests_of setting w e).count
    new_count = sym new_left.count ∙ x.new_held.count ∙ s.left.count

    -- a request stands as before where this packet is no answer to it
    stays : (r : Asked) → ((r.source ≡ e) → (m : List ℕ) → arrived (endpoint_of e) setting.eid (timing_of setting e) (requests_of setting w e) bytes ≡ Answer r.own m → ⊥) → as_it_stands setting v r ≡ as_it_stands setting w r
    stays r other = ap (λ c. record { asked = r; progress = c }) (go (cases_eq r.source e))
      where
        go : (r.source ≡ e) ⊎ (r.source ≡ e → ⊥) → (as_it_stands setting v r).progress ≡ (as_it_stands setting w r).progress
        go (inr apart) = ap (λ cs. ((requests (endpoint_of r.source) setting.eid (timing_of setting r.source) setting.pace cs).each r.own).course.progress) (call_other w.calls e (requester.Receive moment bytes) r.source apart)
        go (inl at) =
            ap (λ d. ((requests (endpoint_of d) setting.eid (timing_of setting d) setting.pace (v.calls d)).each r.own).course.progress) at
            ∙ ap (λ cs. ((requests (endpoint_of e) setting.eid (timing_of setting e) setting.pace cs).each r.own).course.progress) (call_here w.calls e (requester.Receive moment bytes))
            ∙ ap (λ (c : Course). c.progress) (received_other (endpoint_of e) setting.eid (timing_of setting e) setting.pace (requests_of setting w e) bytes r.own (other at))
            ∙ ap (λ d. ((requests_of setting w d).each r.own).course.progress) (sym at)

    -- the one that it answers stands answered
    stands : (r : Asked) (n : ℕ) (m : List ℕ) → r.source ≡ e → r.own ≡ n → brought ≡ Answer n m → (as_it_stands setting v r).progress ≡ courses.Answered m
    stands r n m at own is =
        let now = requests (endpoint_of e) setting.eid (timing_of setting e) setting.pace (requester.Receive moment bytes ∷ w.calls e) in
        let near = answer_near (held_of side.station) (held_steps.passed (held_of side.station) bytes) n m is in
        let memo = progress_remembered (held_of side.station) (held_of new.station) moment bytes n m x.new_held is in
        ap (λ d. ((requests (endpoint_of d) setting.eid (timing_of setting d) setting.pace (v.calls d)).each r.own).course.progress) at
        ∙ ap (λ cs. ((requests (endpoint_of e) setting.eid (timing_of setting e) setting.pace cs).each r.own).course.progress) (call_here w.calls e (requester.Receive moment bytes))
        ∙ ap (λ k. (now.each k).course.progress) own
        ∙ memo_progress (is_recent now.count n) (is_kept setting.pace now.count n) (memo_of (endpoint_of e) setting.eid now n) (courses.Answered m) (kept_near setting.pace now.count n (omega (arith, near.1, x.new_held.count, new_left.count))) (sym (ap (option_map (λ (q : Memo). q.course.progress)) (new_left.remembered n)) ∙ memo)

    pub answered_stands : (k : ℕ) (r : Asked) → asked_at w.log k ≡ Some r → IsOpened setting w k r → answered_as answered k (as_it_stands setting w r) ≡ as_it_stands setting v r
    answered_stands k r is o = go brought refl x.reports
      where
        expected : got_of brought ≡ got_of (arrived (endpoint_of e) setting.eid (timing_of setting e) (requests_of setting w e) bytes)
        expected = looked.0

        none : answered ≡ None → ((n : ℕ) (m : List ℕ) → brought ≡ Answer n m → ⊥) → answered_as answered k (as_it_stands setting w r) ≡ as_it_stands setting v r
        none nothing other =
            ap (λ a. answered_as a k (as_it_stands setting w r)) nothing ∙ sym (stays r (λ at. not_answered brought (arrived (endpoint_of e) setting.eid (timing_of setting e) (requests_of setting w e) bytes) r.own expected (other r.own)))

        go : (a : Arrival) → brought ≡ a → ReportsReply side.numbers a answered → answered_as answered k (as_it_stands setting w r) ≡ as_it_stands setting v r
        go (Drop reason) at reports = none reports (λ n m e'. let wrong : ◌≡◌ {A = Arrival} (Drop reason) (Answer n m) = sym at ∙ e' in absurd (cc))
        go Part at reports = none reports (λ n m e'. let wrong : ◌≡◌ {A = Arrival} Part (Answer n m) = sym at ∙ e' in absurd (cc))
        go (Answer n m) at reports = both (cases_eq r.source e) (cases_eq r.own n)
          where
            numbers_are : reports.0.number ≡ slice_index (numbers_of w.log e) n
            numbers_are = reports.2 ∙ ap (λ xs. slice_index xs n) s.numbers

            below : n < (requests_of setting w e).count
            below =
                let memo = answer_remembered (held_of side.station) (held_steps.passed (held_of side.station) bytes) n m at in
                let low = own_below side.station.count side.station.slots n memo.0 memo.1 in
                let count = s.left.count in
                omega (arith, low, count)

            alone : k ≡ reports.0.number → (r.source ≡ e) × (n ≡ r.own)
            alone same = unique setting w moment e (record { counted = s.counted; back = s.numbered }) k r is n below (sym numbers_are ∙ sym same)

            here : r.source ≡ e → r.own ≡ n → answered_as answered k (as_it_stands setting w r) ≡ as_it_stands setting v r
            here at_e own =
                let number = index_get (numbers_of w.log e) n k (subst (λ j. slice_get (numbers_of w.log e) j ≡ Some k) own (subst (λ d. slice_get (numbers_of w.log d) r.own ≡ Some k) at_e o.number)) in
                ap (λ a. answered_as a k (as_it_stands setting w r)) reports.1
                ∙ cond-true (k == reports.0.number) _ _ (eq-eqb k reports.0.number (sym number ∙ sym numbers_are))
                ∙ ap (λ c. record { asked = r; progress = c }) (ap courses.Answered reports.3 ∙ sym (stands r n m at_e own at))

            away : ((r.source ≡ e) → (n ≡ r.own) → ⊥) → answered_as answered k (as_it_stands setting w r) ≡ as_it_stands setting v r
            away other =
                ap (λ a. answered_as a k (as_it_stands setting w r)) reports.1
                ∙ cond-false (k == reports.0.number) _ _ (ne_eqb k reports.0.number (λ same. let both = alone same in other both.0 both.1))
                ∙ sym (stays r (λ at_e m2 is2. other at_e (let same : ◌≡◌ {A = Got} (got.Answered n) (got.Answered r.own) = ap got_of (sym at) ∙ expected ∙ ap got_of is2 in cc)))

            both : (r.source ≡ e) ⊎ (r.source ≡ e → ⊥) → (r.own ≡ n) ⊎ (r.own ≡ n → ⊥) → answered_as answered k (as_it_stands setting w r) ≡ as_it_stands setting v r
            both (inl at_e) (inl own) = here at_e own
            both (inl at_e) (inr other) = away (λ a b. other (sym b))
            both (inr other) own = away (λ a b. other a)

module _ {P S : Type 0} (setting : BothEnds S) (past : List Step) (run : HeldRun P S) (journal : Journal) (running : IsRunning setting past run) (moment : ℕ) (later : time_now past ≤ moment) where
  module _ (busy : Bool) (k packet : ℕ) (bytes : List ℕ) (q : Asked) (is : asked_at (world setting past).log k ≡ Some q) (brings : delivered setting (world setting past) busy k packet ≡ Some bytes) (new : Side) (taken : Got) (answered : Option AnsweredRequest) (in_time : Bool) where
    abbrev has : has_requester setting.requesters q.source ≡ true
    has = (running.opened k q is).source

    pub record Hands : Type 0 where
      pub same_numbers : new.numbers ≡ (running.sides q.source (running.opened k q is).source).0.numbers
      pub new_held : IsHeld (held_of new.station) (received_held (held_of (running.sides q.source (running.opened k q is).source).0.station) moment bytes)
      pub got_is : taken ≡ got_at (held_of (running.sides q.source (running.opened k q is).source).0.station) bytes
      pub reports : ReportsReply (running.sides q.source (running.opened k q is).source).0.numbers
          (arrived_by (held_of (running.sides q.source (running.opened k q is).source).0.station) (held_steps.passed (held_of (running.sides q.source (running.opened k q is).source).0.station) bytes)) answered
      pub time_is : in_time ≡ nat_le (held_of (running.sides q.source (running.opened k q is).source).0.station).count (q.own + 8)
      pub requests : (j : ℕ) → slice_get journal.requests.items j ≡ option_map (answered_as answered j) (slice_get run.journal.requests.items j)
      pub counted : length journal.requests.items ≡ length run.journal.requests.items
      pub writes : Writes run.journal journal (entry.Received taken)
      pub timely : journal.timely ≡ (in_time && run.journal.timely)

    pub hand_runs : ReceiveLooksBack → SameIsLeft → Hands → IsRunning setting (record { moment = moment; action = answer_action busy k packet } ∷ past) (with_side run q.source new journal)
    hand_runs looks same h =
        let w = world setting past in
        let e = q.source in
        let side = (running.sides e has).0 in
        let s = (running.sides e has).2 in
        let later_side = later_side_of e side s in
        let x : Receives setting w moment e bytes side new later_side answered = record { looks = looks; same = same; new_held = h.new_held; reports = h.reports } in
        let looked = looks (endpoint_of e) setting.eid (timing_of setting e) setting.pace (held_of side.station) (w.calls e) moment bytes s.left in
        called_runs setting past run journal running moment later (answer_action busy k packet) e has (requester.Receive moment bytes) new (entry.Received taken)
        (record {
          after = done_is setting w busy moment k packet ∙ ap (handed setting w moment (source_of (asked_at w.log k))) brings ∙ ap (λ o. handed setting w moment (source_of o) (Some bytes)) is;
          is_side = new_side setting past run journal running moment later (answer_action busy k packet) e has (requester.Receive moment bytes) new (new_left setting w moment e bytes side new later_side answered x) h.same_numbers (new_count setting w moment e bytes side new later_side answered x) (let l = h.new_held.last in omega (arith, l));
          requests = λ j. h.requests j ∙ ap (option_map (answered_as answered j)) (running.requests j) ∙ stand x j (asked_at w.log j) refl;
          counted = h.counted;
          writes = h.writes;
          is_entry = ap entry.Received (h.got_is ∙ looked.0) ∙ sym (entry_is setting w busy moment k packet ∙ ap (λ o. got_entry (got_from setting w (source_of (asked_at w.log k)) o)) brings ∙ ap (λ o. got_entry (got_from setting w (source_of o) (Some bytes))) is);
          timely = h.timely ∙ ap (λ b. b && run.journal.timely) (h.time_is ∙ ap (λ n. nat_le n (q.own + 8)) s.left.count) ∙ ap (λ b. nat_le (requests_of setting w e).count (q.own + 8) && b) running.timely
              ∙ sym (ap (λ b. b && is_timely setting past) (timely_is setting w busy moment k packet ∙ ap (λ o. not (is_some o) || tag_is_own setting w (asked_at w.log k)) brings ∙ ap (tag_is_own setting w) is));
        })
      where
        later_side_of : (e : ℕ) (side : Side) → IsSide setting (world setting past) (time_now past) e side → IsSide setting (world setting past) moment e side
        later_side_of e side s = record {
          endpoint = s.endpoint;
          other = s.other;
          left = s.left;
          numbers = s.numbers;
          counted = s.counted;
          numbered = s.numbered;
          called = let y = s.called in omega (arith, y, later);
        }

        stand : Receives setting (world setting past) moment q.source bytes (running.sides q.source has).0 new (later_side_of q.source (running.sides q.source has).0 (running.sides q.source has).2) answered → (j : ℕ) (o : Option Asked) → asked_at (world setting past).log j ≡ o
            → option_map (answered_as answered j) (option_map (as_it_stands setting (world setting past)) o)
            ≡ option_map (as_it_stands setting (record { calls = with_call (world setting past).calls q.source (requester.Receive moment bytes); log = (world setting past).log })) o
        stand x j None at = refl
        stand x j (Some r) at =
            ap Some (answered_stands setting (world setting past) moment q.source bytes (running.sides q.source has).0 new (later_side_of q.source (running.sides q.source has).0 (running.sides q.source has).2) answered x j r at (running.opened j r at))

-- ---- the request that is reported as answered has been opened
pub answered_below : {S : Type 0} (setting : BothEnds S) (w : World) (now e : ℕ) (side : Side) → IsSide setting w now e side → (bytes : List ℕ) (answered : Option AnsweredRequest) (bound : ℕ) → count_of w.log ≡ bound
    → ReportsReply side.numbers (arrived_by (held_of side.station) (held_steps.passed (held_of side.station) bytes)) answered → IfSome answered (λ a. a.number < bound)
answered_below setting w now e side s bytes answered bound all reports = go (arrived_by (held_of side.station) (held_steps.passed (held_of side.station) bytes)) refl reports
  where
    none : answered ≡ None → IfSome answered (λ a. a.number < bound)
    none nothing = subst (λ o. IfSome o (λ a. a.number < bound)) (sym nothing) tt

    go : (x : Arrival) → arrived_by (held_of side.station) (held_steps.passed (held_of side.station) bytes) ≡ x → ReportsReply side.numbers x answered → IfSome answered (λ a. a.number < bound)
    go (Drop reason) at t = none t
    go Part at t = none t
    go (Answer n m) at t =
        let memo = answer_remembered (held_of side.station) (held_steps.passed (held_of side.station) bytes) n m at in
        let low = own_below side.station.count side.station.slots n memo.0 memo.1 in
        let count = s.left.count in
        let counted = s.counted in
        let below : n < length (numbers_of w.log e) = omega (arith, low, count, counted) in
        let number = t.2 ∙ ap (λ xs. slice_index xs n) s.numbers in
        let q = s.numbered n t.0.number (get_index (numbers_of w.log e) n below ∙ ap Some (sym number)) in
        let known = asked_below w.log t.0.number q.0 q.1 in
        let within : t.0.number < bound = omega (arith, known, all) in
        subst (λ o. IfSome o (λ a. a.number < bound)) (sym t.1) within
