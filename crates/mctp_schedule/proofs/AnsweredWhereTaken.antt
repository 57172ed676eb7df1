-- Over a timely schedule each request was fed the packets that were delivered to it, and is answered exactly where it
-- was taken.
use Rattle.std.proofs.Common.{◌≡◌, ◌≢◌, ◌⊎◌, ℕ, ◌<◌, ◌≤◌, List, ◌∷◌, map, slice_get, Option, Some, None, Bool, true, false, refl, sym, ap, ◌∙◌, subst, inl, inr, ⊎_elim, arith, eq-eqb}
use Rattle.std.specs.Prelude.{◌&&◌, ◌||◌, ◌==◌, nat_lt, if◌then◌else◌}
use Rattle.std.proofs.lemmas.Bool.{and_left, and_right, and_from, or_left, ne_eqb, cases_Bool, cases_eq, cases_lt, lt-ltb, le-ltb, cond-true, cond-false}
use Rattle.mctp_packet.specs.Packets.{Packet, written}
use Rattle.mctp_packet.specs.Pieces.{packet_at, piece_count}
use Rattle.mctp_packet.specs.declared.reason.Reason.TheVariants.{NotReady}
use Rattle.mctp_assembly.specs.Rows.{next}
use Rattle.mctp_assembly.specs.declared.fed.Fed.{Fed}
use Rattle.mctp_assembly.specs.declared.fed.Fed.TheVariants.{Whole, Partial, Dropped}
use Rattle.pldm_responder.specs.Performing.{busy_reply}
use Rattle.pldm_requester.specs.Arrivals.{Arrival, Drop, fed_arrival}
use Rattle.pldm_requester.specs.Asks.{Ask}
use Rattle.pldm_requester.specs.Calls.{Receive, Request, accepts, arrived, is_from_device, request_with}
use Rattle.pldm_requester.specs.Courses.{Course, Progress, Answered, answered, is_open}
use Rattle.mctp_schedule.specs.Logs.{Asked, Happening, Opened, asked_at, count_of, endpoint_of, AreRested}
use Rattle.mctp_schedule.specs.Timely.{IsTimelyLog}
use Rattle.mctp_schedule.specs.FirstArrivals.{first}
use Rattle.mctp_schedule.specs.OncePerformed.{RepliesFit, given, was_busy}
use Rattle.mctp_schedule.specs.RequesterHalf.{IsSound, ProgressIs}
use Rattle.mctp_schedule.specs.TakenReplies.{brought, came, completes, completes_for, is_waiting, part_count, replies, reply_of, taken, way_to}
use Rattle.mctp_schedule.specs.Worlds.{IsTimelyAction, BothEnds, TagIsOwn, World, answer_packets, asked_by, busy_from, busy_packet, handed, packet_of, reply_packet, requests_of, source_of, timing_of, world}
use Rattle.mctp_schedule.specs.Actions.{Action, AreOfKinds, Step}
use Rattle.mctp_schedule.specs.Actions as actions
use Rattle.mctp_schedule.proofs.AnswerPacketOutcomes.{Lower, arrival_by, arrival_expected, busy_brings, busy_is, busy_is_one, has_arrived, mine, expected_is_own, packet_is, reads_back, reply_brings}
use Rattle.mctp_schedule.proofs.FirstPerformed.{request_opened}
use Rattle.mctp_schedule.proofs.FittingReplies.{fits_before}
use Rattle.mctp_schedule.proofs.OneReplyGiven.{busy_opened}
use Rattle.mctp_schedule.proofs.AnswerPacketsAtRequester.{IsOf, comes_in, course_after, packet_past, packet_there, with_arrival}
use Rattle.mctp_schedule.proofs.KnownRequests.{Known, all_known, asked_stays_done, held_before}
use Rattle.mctp_schedule.proofs.UntouchedRequests.{Holds, Stands, arrived_stays, claim_moves, first_unopened, holds_kept, no_parts, quiet, reply_stays, same_kept, still_below, still_brought}
use Rattle.mctp_schedule.proofs.RestedRequesters.{rested_less}
use Rattle.mctp_schedule.proofs.RowsOfReplies.{Below}
use Rattle.mctp_schedule.proofs.StepsOnRequests.{called, comes_to_it, comes_to_none, open_keeps, opens_new, others_rest, tick_keeps}

by_keeps : (f : Fed) (course : Course) → course_after (arrival_by f) course ≡ course
by_keeps (Whole body) course = refl
by_keeps Partial course = refl
by_keeps (Dropped reason) course = refl

module _ {S : Type 0} (setting : BothEnds S) where
  abbrev Log : List Step → List Happening
  Log steps = (world setting steps).log

  abbrev pub AllHold : List Step → Type 0
  AllHold steps = (k : ℕ) (r : Asked) → asked_at (Log steps) k ≡ Some r → Holds setting steps k r

  abbrev HasArrived : List Step → ℕ → Type 0
  HasArrived steps k = (place : List Happening) × (first S setting.keep (Log steps) k ≡ Some place)

  -- each request was opened before the step, or by it
  all_of : (step : Step) (past : List Step)
      → ((k : ℕ) (q : Asked) → asked_at (Log past) k ≡ Some q → Holds setting (step ∷ past) k q)
      → ((k : ℕ) (r : Asked) → asked_at (Log past) k ≡ None → asked_at (Log (step ∷ past)) k ≡ Some r → Holds setting (step ∷ past) k r)
      → AllHold (step ∷ past)
  all_of step past old new k r is = go (asked_at (Log past) k) refl
    where
      go : (o : Option Asked) → asked_at (Log past) k ≡ o → Holds setting (step ∷ past) k r
      go None e = new k r e is
      go (Some q) e =
          let stays = asked_stays_done setting (world setting past) step.moment step.action k q e in
          let same : q ≡ r = (let x : Some q ≡ Some r = sym stays ∙ is in cc) in
          subst (Holds setting (step ∷ past) k) same (old k q e)

  -- a step that opens nothing
  none_new : (step : Step) (past : List Step) → ((k : ℕ) → asked_at (Log (step ∷ past)) k ≡ asked_at (Log past) k) → (k : ℕ) (r : Asked) → asked_at (Log past) k ≡ None → asked_at (Log (step ∷ past)) k ≡ Some r → Holds setting (step ∷ past) k r
  none_new step past same k r off is = absurd (let wrong : Some r ≡ None = sym is ∙ same k ∙ off in cc)

  -- a step that calls no requester
  holds_log : (step : Step) (past : List Step) → AllHold past
      → ((k : ℕ) → asked_at (Log (step ∷ past)) k ≡ asked_at (Log past) k)
      → ((r : Asked) → Stands setting (step ∷ past) r ≡ Stands setting past r)
      → ((k : ℕ) → replies setting (step ∷ past) k ≡ replies setting past k)
      → ((k : ℕ) → taken setting (step ∷ past) k ≡ taken setting past k)
      → AllHold (step ∷ past)
  holds_log step past h same stands rs ts =
      all_of step past
      (λ k q e. holds_kept setting step past k q (h k q e) (same_kept (Stands setting past q) (Stands setting (step ∷ past) q) (stands q)) (rs k) (ts k))
      (none_new step past same)

  -- ---- an open
  module _ (past : List Step) (kinds : AreOfKinds past) (h : AllHold past) (moment e : ℕ) (ask : Ask) where
    abbrev opening : Step
    opening = record { moment = moment; action = actions.Open e ask }

    abbrev new : Asked
    new = asked_by setting (world setting past) moment e ask

    holds_new : (k : ℕ) → asked_at (Log past) k ≡ None → accepts (timing_of setting e).keep setting.pace (requests_of setting (world setting past) e) moment ≡ true → Holds setting (opening ∷ past) k new
    holds_new k off ok =
        let q = quiet setting past k off in
        let stands : Stands setting (opening ∷ past) new ≡ request_with moment ask = opens_new setting (world setting past) (Log (opening ∷ past)) moment e ask ok in
        record {
          fed = λ _. ap (λ (r : Request). r.fed) stands ∙ sym (ap (map (brought setting new (reply_of setting (world setting (opening ∷ past)) k))) q.0);
          below = subst (Below (part_count setting (world setting (opening ∷ past)) k)) (sym q.0) tt;
          progress = subst (λ (r : Request). ProgressIs setting (opening ∷ past) k r.course.progress) (sym stands) q.1;
          arrived = λ t. absurd (let wrong : true ≡ false = sym t ∙ q.1 in cc);
        }

    first_seen : (k : ℕ) (r : Asked) → asked_at (Log past) k ≡ None → asked_at (Log (opening ∷ past)) k ≡ Some r → Holds setting (opening ∷ past) k r
    first_seen k r off is = go (accepts (timing_of setting e).keep setting.pace (requests_of setting (world setting past) e) moment) refl is
      where
        go : (b : Bool) → accepts (timing_of setting e).keep setting.pace (requests_of setting (world setting past) e) moment ≡ b → asked_at (if b then Opened new ∷ Log past else Log past) k ≡ Some r → Holds setting (opening ∷ past) k r
        go false refused f = absurd (let wrong : Some r ≡ None = sym f ∙ off in cc)
        go true ok f =
            ⊎_elim
            (λ (x : (k ≡ count_of (Log past)) × (new ≡ r)). subst (Holds setting (opening ∷ past) k) x.1 (holds_new k off ok))
            (λ (x : (k ≢ count_of (Log past)) × (asked_at (Log past) k ≡ Some r)). absurd (let wrong : Some r ≡ None = sym x.1 ∙ off in cc))
            (request_opened new (Log past) k r f)

    pub holds_open : AllHold (opening ∷ past)
    holds_open =
        all_of opening past
        (λ k q f. holds_kept setting opening past k q (h k q f) (open_keeps setting (world setting past) (Log (opening ∷ past)) moment e ask q ((all_known setting past kinds).known k q f)) refl refl)
        first_seen

  -- ---- a delivery to request k
  hit : (step : Step) (past : List Step) (k : ℕ) (q : Asked) (p : Packet) (d : Option ℕ) (arrival : Arrival) → Holds setting past k q
      → (is_waiting setting (world setting past) q ≡ true → Stands setting (step ∷ past) q ≡ with_arrival (Stands setting past q) p arrival)
      → (is_waiting setting (world setting past) q ≡ false → Stands setting (step ∷ past) q ≡ Stands setting past q)
      → replies setting (step ∷ past) k ≡ d ∷ replies setting past k
      → p ≡ brought setting q (reply_of setting (world setting (step ∷ past)) k) d
      → Below (part_count setting (world setting (step ∷ past)) k) (d ∷ replies setting past k)
      → ProgressIs setting (step ∷ past) k (Stands setting (step ∷ past) q).course.progress
      → (taken setting (step ∷ past) k ≡ true → HasArrived (step ∷ past) k)
      → Holds setting (step ∷ past) k q
  hit step past k q p d arrival h opens shuts rs is below progress arrives = record {
    fed = λ now. go now (cases_Bool (is_waiting setting (world setting past) q));
    below = subst (Below (part_count setting (world setting (step ∷ past)) k)) (sym rs) below;
    progress = progress;
    arrived = arrives;
  }
    where
      m : List ℕ
      m = reply_of setting (world setting (step ∷ past)) k

      go : is_waiting setting (world setting (step ∷ past)) q ≡ true → (is_waiting setting (world setting past) q ≡ true) ⊎ (is_waiting setting (world setting past) q ≡ false) → (Stands setting (step ∷ past) q).fed ≡ came setting (step ∷ past) k q
      go now (inr shut) = absurd (let wrong : true ≡ false = sym now ∙ ap (λ (r : Request). is_open r.course) (shuts shut) ∙ shut in cc)
      go now (inl waits) =
          ap (λ (r : Request). r.fed) (opens waits)
          ∙ (λ i. is i ∷ (h.fed waits ∙ sym (still_brought setting step past k q h.below)) i)
          ∙ sym (ap (map (brought setting q m)) rs)

  -- nothing is handed over
  holds_nothing : (step : Step) (past : List Step) → AllHold past → world setting (step ∷ past) ≡ world setting past
      → ((k : ℕ) → replies setting (step ∷ past) k ≡ replies setting past k)
      → ((k : ℕ) → taken setting (step ∷ past) k ≡ taken setting past k)
      → AllHold (step ∷ past)
  holds_nothing step past h same rs ts =
      holds_log step past h (λ k. ap (λ (w : World). asked_at w.log k) same) (λ r. ap (λ w. (requests_of setting w r.source).each r.own) same) rs ts

  -- a packet of an answer to request i is handed to its requester
  module _ (lower : Lower) (past : List Step) (h : AllHold past) (timely : IsTimelyLog S setting.window setting.keep setting.pace.lifetime (world setting past).log) (sound : IsSound setting past) (step : Step) (moment i : ℕ) (q : Asked) (is : asked_at (world setting past).log i ≡ Some q) (own : TagIsOwn setting (world setting past) i) (message : List ℕ) (j : ℕ) (bytes : List ℕ) (sent : slice_get (answer_packets setting.eid q message) j ≡ Some bytes) (now_is : world setting (step ∷ past) ≡ called setting (world setting past) (world setting past).log q.source (Receive moment bytes)) (arrival : Arrival) (is_own : IsOf q.own arrival) (brings : is_waiting setting (world setting past) q ≡ true → fed_arrival (mine setting lower past timely sound i q is) q.own (next (Stands setting past q).fed (packet_at (way_to setting q) message j)) ≡ arrival) where
    abbrev p : Packet
    p = packet_at (way_to setting q) message j

    known : Known setting (world setting past) q
    known = (all_known setting past sound.asks).known i q is

    from : is_from_device setting.eid p ≡ true
    from = eq-eqb setting.eid setting.eid refl

    arrives : is_waiting setting (world setting past) q ≡ true → arrived (endpoint_of q.source) setting.eid (timing_of setting q.source) (requests_of setting (world setting past) q.source) bytes ≡ arrival
    arrives waits =
        comes_in (endpoint_of q.source) setting.eid (timing_of setting q.source) setting.pace ((world setting past).calls q.source) lower.found q.own known.within (own q is) p bytes (reads_back setting lower past timely sound i q is message j bytes sent) from refl waits
        ∙ brings waits

    stands_open : is_waiting setting (world setting past) q ≡ true → Stands setting (step ∷ past) q ≡ with_arrival (Stands setting past q) p arrival
    stands_open waits =
        ap (λ w. (requests_of setting w q.source).each q.own) now_is
        ∙ comes_to_it setting (world setting past) (world setting past).log lower.found q moment known (own q is) p bytes (reads_back setting lower past timely sound i q is message j bytes sent) from refl arrival is_own arrives waits

    stands_shut : is_waiting setting (world setting past) q ≡ false → Stands setting (step ∷ past) q ≡ Stands setting past q
    stands_shut shut =
        ap (λ w. (requests_of setting w q.source).each q.own) now_is
        ∙ comes_to_none setting (world setting past) (world setting past).log lower.found q moment known (own q is) p bytes (reads_back setting lower past timely sound i q is message j bytes sent) from refl arrival is_own arrives shut

    stands_other : (k : ℕ) (r : Asked) → asked_at (Log past) k ≡ Some r → k ≢ i → Stands setting (step ∷ past) r ≡ Stands setting past r
    stands_other k r f ne =
        ap (λ w. (requests_of setting w r.source).each r.own) now_is
        ∙ others_rest setting (world setting past) (world setting past).log lower.found q moment known (own q is) p bytes (reads_back setting lower past timely sound i q is message j bytes sent) from refl arrival is_own arrives r
        (λ s o. ne ((all_known setting past sound.asks).distinct k i r q f is s o))

    -- so the others hold, and it is left to show of request i
    holds_handed : ((k : ℕ) → k ≢ i → replies setting (step ∷ past) k ≡ replies setting past k)
        → ((k : ℕ) → k ≢ i → taken setting (step ∷ past) k ≡ taken setting past k)
        → Holds setting (step ∷ past) i q → AllHold (step ∷ past)
    holds_handed rs ts here = all_of step past each (none_new step past (λ k. ap (λ (w : World). asked_at w.log k) now_is))
      where
        each : (k : ℕ) (r : Asked) → asked_at (Log past) k ≡ Some r → Holds setting (step ∷ past) k r
        each k r f =
            ⊎_elim
            (λ (same : k ≡ i).
            let one : q ≡ r = (let x : Some q ≡ Some r = sym is ∙ ap (asked_at (Log past)) (sym same) ∙ f in cc) in
            subst (λ (x : ℕ × Asked). Holds setting (step ∷ past) x.0 x.1) (λ x. (sym same x, one x)) here)
            (λ (ne : k ≡ i → ⊥). holds_kept setting step past k r (h k r f) (same_kept (Stands setting past r) (Stands setting (step ∷ past) r) (stands_other k r f ne)) (rs k ne) (ts k ne))
            (cases_eq k i)

  -- ---- a packet of a reply
  no_reply : (past : List Step) (timely : IsTimelyLog S setting.window setting.keep setting.pace.lifetime (world setting past).log) (sound : IsSound setting past) (lower : Lower) (i j : ℕ) → part_count setting (world setting past) i ≤ j → reply_packet setting (world setting past) i j ≡ None
  no_reply past timely sound lower i j l = go (asked_at (Log past) i) refl
    where
      go : (o : Option Asked) → asked_at (Log past) i ≡ o → reply_packet setting (world setting past) i j ≡ None
      go None e = ap (λ o. packet_of setting o (given setting.device setting.window setting.keep setting.start (Log past) i) j) e
      go (Some q) e = packet_is setting lower past timely sound i q e j ∙ packet_past (way_to setting q) (reply_of setting (world setting past) i) j l

  none_completes : (past : List Step) (i j : ℕ) → part_count setting (world setting past) i ≤ j → completes setting past i j ≡ false
  none_completes past i j l = go (asked_at (Log past) i)
    where
      go : (o : Option Asked) → completes_for setting past i j o ≡ false
      go None = refl
      go (Some q) = and_left (nat_lt j (part_count setting (world setting past) i)) _ (le-ltb j (part_count setting (world setting past) i) l)

  module _ (lower : Lower) (past : List Step) (h : AllHold past) (timely : IsTimelyLog S setting.window setting.keep setting.pace.lifetime (world setting past).log) (sound : IsSound setting past) (moment i j : ℕ) where
    abbrev replying : Step
    replying = record { moment = moment; action = actions.Reply j i }

    -- where there is no such packet
    holds_no_reply : part_count setting (world setting past) i ≤ j → AllHold (replying ∷ past)
    holds_no_reply l =
        holds_nothing replying past h
        (ap (handed setting (world setting past) moment (source_of (asked_at (Log past) i))) (no_reply past timely sound lower i j l))
        (λ k. ⊎_elim
        (λ (same : i ≡ k). cond-false (i == k && nat_lt j (part_count setting (world setting past) k)) _ _ (and_right (i == k) _ (le-ltb j (part_count setting (world setting past) k) (subst (λ n. part_count setting (world setting past) n ≤ j) same l))))
        (λ (ne : i ≡ k → ⊥). cond-false (i == k && nat_lt j (part_count setting (world setting past) k)) _ _ (and_left (i == k) _ (ne_eqb i k ne)))
        (cases_eq i k))
        (λ k. ap (λ b. b || taken setting past k) (⊎_elim
        (λ (same : i ≡ k). and_right (i == k) (completes setting past k j) (subst (λ n. completes setting past n j ≡ false) same (none_completes past i j l)))
        (λ (ne : i ≡ k → ⊥). and_left (i == k) (completes setting past k j) (ne_eqb i k ne))
        (cases_eq i k)))

    module _ (own : IsTimelyAction setting (world setting past) moment (actions.Reply j i)) (q : Asked) (is : asked_at (Log past) i ≡ Some q) (l : j < part_count setting (world setting past) i) where
      abbrev m : List ℕ
      m = reply_of setting (world setting past) i

      abbrev bytes : List ℕ
      bytes = written (packet_at (way_to setting q) m j)

      sent : slice_get (answer_packets setting.eid q m) j ≡ Some bytes
      sent = packet_there (way_to setting q) m j l

      handed_over : reply_packet setting (world setting past) i j ≡ Some bytes
      handed_over = packet_is setting lower past timely sound i q is j ∙ sent

      now_is : world setting (replying ∷ past) ≡ called setting (world setting past) (Log past) q.source (Receive moment bytes)
      now_is x = handed setting (world setting past) moment (source_of (is x)) (handed_over x)

      place : HasArrived past i
      place = has_arrived setting lower past timely sound i q is j l

      same_reply : reply_of setting (world setting (replying ∷ past)) i ≡ m
      same_reply = reply_stays setting replying past i place.0 place.1

      before : Holds setting past i q
      before = h i q is

      abbrev expected : Arrival
      expected = arrival_expected setting lower past timely sound i q is j

      brings : is_waiting setting (world setting past) q ≡ true → fed_arrival (mine setting lower past timely sound i q is) q.own (next (Stands setting past q).fed (packet_at (way_to setting q) m j)) ≡ expected
      brings waits =
          ap (λ fed. fed_arrival (mine setting lower past timely sound i q is) q.own (next fed (packet_at (way_to setting q) m j))) (before.fed waits)
          ∙ reply_brings setting lower past timely sound i q is j l waits before.below

      is_own : IsOf q.own expected
      is_own = expected_is_own setting lower past timely sound i q is j

      opened : is_waiting setting (world setting past) q ≡ true → Stands setting (replying ∷ past) q ≡ with_arrival (Stands setting past q) (packet_at (way_to setting q) m j) expected
      opened = stands_open lower past h timely sound replying moment i q is (own bytes handed_over) m j bytes sent now_is expected is_own brings

      shut : is_waiting setting (world setting past) q ≡ false → Stands setting (replying ∷ past) q ≡ Stands setting past q
      shut = stands_shut lower past h timely sound replying moment i q is (own bytes handed_over) m j bytes sent now_is expected is_own brings

      -- it is taken now, or what was claimed stays
      stays : completes setting past i j ≡ false → (x : Progress) → ProgressIs setting past i x → ProgressIs setting (replying ∷ past) i x
      stays off x c = claim_moves setting replying past i x (ap (λ b. b || taken setting past i) (and_right (i == i) _ off)) before.arrived c

      not_waiting : is_waiting setting (world setting past) q ≡ false → completes setting past i j ≡ false
      not_waiting closed = ap (completes_for setting past i j) is ∙ and_right (nat_lt j (part_count setting (world setting past) i)) _ (and_left (is_waiting setting (world setting past) q) _ closed)

      progress : ProgressIs setting (replying ∷ past) i (Stands setting (replying ∷ past) q).course.progress
      progress = go (cases_Bool (is_waiting setting (world setting past) q)) (cases_Bool (completes setting past i j))
        where
          course : Course
          course = (Stands setting past q).course

          go : (is_waiting setting (world setting past) q ≡ true) ⊎ (is_waiting setting (world setting past) q ≡ false) → (completes setting past i j ≡ true) ⊎ (completes setting past i j ≡ false) → ProgressIs setting (replying ∷ past) i (Stands setting (replying ∷ past) q).course.progress
          go (inr closed) _ = subst (λ (r : Request). ProgressIs setting (replying ∷ past) i r.course.progress) (sym (shut closed)) (stays (not_waiting closed) course.progress before.progress)
          go (inl waits) (inl done) =
              let now : (Stands setting (replying ∷ past) q).course ≡ answered m course = ap (λ (r : Request). r.course) (opened waits) ∙ ap (λ x. course_after x course) (cond-true (completes setting past i j) _ _ done) in
              let claim : ProgressIs setting (replying ∷ past) i (Answered m) = (or_left (i == i && completes setting past i j) (taken setting past i) (and_from (i == i) (completes setting past i j) (eq-eqb i i refl) done), sym same_reply) in
              subst (λ (c : Course). ProgressIs setting (replying ∷ past) i c.progress) (sym now) claim
          go (inl waits) (inr off) =
              let now : (Stands setting (replying ∷ past) q).course ≡ course =
              (ap (λ (r : Request). r.course) (opened waits) ∙ ap (λ x. course_after x course) (cond-false (completes setting past i j) _ _ off) ∙ by_keeps _ course) in
              subst (λ (c : Course). ProgressIs setting (replying ∷ past) i c.progress) (sym now) (stays off course.progress before.progress)

      holds_here : Holds setting (replying ∷ past) i q
      holds_here =
          hit replying past i q (packet_at (way_to setting q) m j) (Some j) expected before opened shut
          (cond-true (i == i && nat_lt j (part_count setting (world setting past) i)) _ _ (and_from (i == i) _ (eq-eqb i i refl) (lt-ltb j (part_count setting (world setting past) i) l)))
          (ap (λ x. packet_at (way_to setting q) x j) (sym same_reply))
          (subst (λ x. j < piece_count x) (sym same_reply) l, still_below setting replying past i before.below)
          progress
          (λ _. (place.0, arrived_stays setting replying past i place.0 place.1))

      holds_reply_to : AllHold (replying ∷ past)
      holds_reply_to =
          holds_handed lower past h timely sound replying moment i q is (own bytes handed_over) m j bytes sent now_is expected is_own brings
          (λ k ne. cond-false (i == k && nat_lt j (part_count setting (world setting past) k)) _ _ (and_left (i == k) _ (ne_eqb i k (λ e. ne (sym e)))))
          (λ k ne. ap (λ b. b || taken setting past k) (and_left (i == k) _ (ne_eqb i k (λ e. ne (sym e)))))
          holds_here

    pub holds_reply : IsTimelyAction setting (world setting past) moment (actions.Reply j i) → AllHold (replying ∷ past)
    holds_reply own = go (cases_lt j (part_count setting (world setting past) i))
      where
        asked : (l : j < part_count setting (world setting past) i) → (o : Option Asked) → asked_at (Log past) i ≡ o → AllHold (replying ∷ past)
        asked l None e = absurd (let none = ap piece_count (no_parts setting (world setting past) i (first_unopened S setting.keep (Log past) i e)) in omega (arith, none))
        asked l (Some q) e = holds_reply_to own q e l

        go : (j < part_count setting (world setting past) i) ⊎ (part_count setting (world setting past) i ≤ j) → AllHold (replying ∷ past)
        go (inl l) = asked l (asked_at (Log past) i) refl
        go (inr l) = holds_no_reply l

  -- ---- a busy answer
  no_busy : (o : Option Asked) → busy_from setting o false ≡ None
  no_busy None = refl
  no_busy (Some q) = refl

  module _ (lower : Lower) (past : List Step) (h : AllHold past) (timely : IsTimelyLog S setting.window setting.keep setting.pace.lifetime (world setting past).log) (sound : IsSound setting past) (moment i : ℕ) where
    abbrev busying : Step
    busying = record { moment = moment; action = actions.Busy i }

    holds_no_busy : was_busy S setting.keep (Log past) i ≡ false → AllHold (busying ∷ past)
    holds_no_busy off =
        holds_nothing busying past h
        (ap (handed setting (world setting past) moment (source_of (asked_at (Log past) i))) (ap (busy_from setting (asked_at (Log past) i)) off ∙ no_busy (asked_at (Log past) i)))
        (λ k. ⊎_elim
        (λ (same : i ≡ k). cond-false (i == k && was_busy S setting.keep (Log past) k) _ _ (and_right (i == k) _ (subst (λ n. was_busy S setting.keep (Log past) n ≡ false) same off)))
        (λ (ne : i ≡ k → ⊥). cond-false (i == k && was_busy S setting.keep (Log past) k) _ _ (and_left (i == k) _ (ne_eqb i k ne)))
        (cases_eq i k))
        (λ k. refl)

    module _ (own : IsTimelyAction setting (world setting past) moment (actions.Busy i)) (q : Asked) (is : asked_at (Log past) i ≡ Some q) (busy : was_busy S setting.keep (Log past) i ≡ true) where
      abbrev message : List ℕ
      message = busy_reply q.message

      abbrev busy_bytes : List ℕ
      busy_bytes = written (packet_at (way_to setting q) message 0)

      one_sent : slice_get (answer_packets setting.eid q message) 0 ≡ Some busy_bytes
      one_sent = packet_there (way_to setting q) message 0 (let one = busy_is_one setting lower past timely sound i q is in omega (arith, one))

      one_handed : busy_packet setting (world setting past) i ≡ Some busy_bytes
      one_handed = busy_is setting lower past timely sound i q is busy ∙ one_sent

      then_is : world setting (busying ∷ past) ≡ called setting (world setting past) (Log past) q.source (Receive moment busy_bytes)
      then_is x = handed setting (world setting past) moment (source_of (is x)) (one_handed x)

      brings_none : is_waiting setting (world setting past) q ≡ true → fed_arrival (mine setting lower past timely sound i q is) q.own (next (Stands setting past q).fed (packet_at (way_to setting q) message 0)) ≡ Drop NotReady
      brings_none waits = busy_brings setting lower past timely sound i q is (Stands setting past q).fed

      came_open : is_waiting setting (world setting past) q ≡ true → Stands setting (busying ∷ past) q ≡ with_arrival (Stands setting past q) (packet_at (way_to setting q) message 0) (Drop NotReady)
      came_open = stands_open lower past h timely sound busying moment i q is (own busy_bytes one_handed) message 0 busy_bytes one_sent then_is (Drop NotReady) tt brings_none

      came_shut : is_waiting setting (world setting past) q ≡ false → Stands setting (busying ∷ past) q ≡ Stands setting past q
      came_shut = stands_shut lower past h timely sound busying moment i q is (own busy_bytes one_handed) message 0 busy_bytes one_sent then_is (Drop NotReady) tt brings_none

      same_course : (Stands setting (busying ∷ past) q).course ≡ (Stands setting past q).course
      same_course =
          ⊎_elim
          (λ (waits : is_waiting setting (world setting past) q ≡ true). ap (λ (r : Request). r.course) (came_open waits))
          (λ (shut : is_waiting setting (world setting past) q ≡ false). ap (λ (r : Request). r.course) (came_shut shut))
          (cases_Bool (is_waiting setting (world setting past) q))

      busy_here : Holds setting (busying ∷ past) i q
      busy_here =
          let before = h i q is in
          hit busying past i q (packet_at (way_to setting q) message 0) None (Drop NotReady) before came_open came_shut
          (cond-true (i == i && was_busy S setting.keep (Log past) i) _ _ (and_from (i == i) _ (eq-eqb i i refl) busy))
          refl
          (still_below setting busying past i before.below)
          (subst (λ (c : Course). ProgressIs setting (busying ∷ past) i c.progress) (sym same_course) (claim_moves setting busying past i (Stands setting past q).course.progress refl before.arrived before.progress))
          (λ t. let x = before.arrived t in (x.0, arrived_stays setting busying past i x.0 x.1))

      holds_busy_to : AllHold (busying ∷ past)
      holds_busy_to =
          holds_handed lower past h timely sound busying moment i q is (own busy_bytes one_handed) message 0 busy_bytes one_sent then_is (Drop NotReady) tt brings_none
          (λ k ne. cond-false (i == k && was_busy S setting.keep (Log past) k) _ _ (and_left (i == k) _ (ne_eqb i k (λ e. ne (sym e)))))
          (λ k ne. refl)
          busy_here

    pub holds_busy : IsTimelyAction setting (world setting past) moment (actions.Busy i) → AllHold (busying ∷ past)
    holds_busy own = go (cases_Bool (was_busy S setting.keep (Log past) i))
      where
        asked : (busy : was_busy S setting.keep (Log past) i ≡ true) → (o : Option Asked) → asked_at (Log past) i ≡ o → AllHold (busying ∷ past)
        asked busy None e = absurd (let wrong : true ≡ false = sym busy ∙ busy_opened setting.device setting.keep setting.start (Log past) i e in cc)
        asked busy (Some q) e = holds_busy_to own q e busy

        go : (was_busy S setting.keep (Log past) i ≡ true) ⊎ (was_busy S setting.keep (Log past) i ≡ false) → AllHold (busying ∷ past)
        go (inl busy) = asked busy (asked_at (Log past) i) refl
        go (inr off) = holds_no_busy off

  -- ---- any step
  pub holds_done : (lower : Lower) (past : List Step) → AllHold past → IsTimelyLog S setting.window setting.keep setting.pace.lifetime (world setting past).log → IsSound setting past → (moment : ℕ) (action : Action) → IsTimelyAction setting (world setting past) moment action → AllHold (record { moment = moment; action = action } ∷ past)
  holds_done lower past h timely sound moment (actions.Open e ask) own = holds_open past sound.asks h moment e ask
  holds_done lower past h timely sound moment (actions.Tick e) own =
      let ticking : Step = record { moment = moment; action = actions.Tick e } in
      all_of ticking past
      (λ k q f. holds_kept setting ticking past k q (h k q f) (tick_keeps setting (world setting past) (Log past) moment e q) refl refl)
      (none_new ticking past (λ k. refl))
  holds_done lower past h timely sound moment (actions.Request i) own = holds_log (record { moment = moment; action = actions.Request i }) past h (λ k. refl) (λ r. refl) (λ k. refl) (λ k. refl)
  holds_done lower past h timely sound moment (actions.Reply j i) own = holds_reply lower past h timely sound moment i j own
  holds_done lower past h timely sound moment (actions.Sense id value) own = holds_log (record { moment = moment; action = actions.Sense id value }) past h (λ k. refl) (λ r. refl) (λ k. refl) (λ k. refl)
  holds_done lower past h timely sound moment actions.Restart own = holds_log (record { moment = moment; action = actions.Restart }) past h (λ k. refl) (λ r. refl) (λ k. refl) (λ k. refl)
  holds_done lower past h timely sound moment (actions.Busy i) own = holds_busy lower past h timely sound moment i own

  pub sound_before : (step : Step) (past : List Step) → IsSound setting (step ∷ past) → IsSound setting past
  sound_before step past s = record {
    device = s.device;
    pace = s.pace;
    sources = λ k r is. s.sources k r (asked_stays_done setting (world setting past) step.moment step.action k r is);
    fit = held_before setting (RepliesFit setting.device setting.window setting.keep setting.start) (fits_before setting.device setting.window setting.keep setting.start) (world setting past) step.moment step.action s.fit;
    asks = s.asks.1;
    rested = held_before setting (AreRested setting.keep) (rested_less setting.keep) (world setting past) step.moment step.action s.rested;
  }
