-- The requester's half of the link: what came to a request, what each packet of an answer gives, and what each request
-- took.
use Rattle.std.proofs.Common.{◌≡◌, ◌⊎◌, ℕ, suc, ◌<◌, ◌≤◌, List, [], ◌∷◌, slice_get, Option, Some, None, Bool, true, false, refl, sym, ap, ◌∙◌, subst, inl, inr, arith, eq-eqb, eqb-true}
use Rattle.std.specs.Prelude.{◌||◌, ◌==◌, is_some, nat_lt, if◌then◌else◌}
use Rattle.std.specs.List.{list_any}
use Rattle.std.proofs.lemmas.Bool.{and_left, and_right, cases_Bool, cases_lt, lt-ltb, le-ltb, cond-true, cond-false}
use Rattle.mctp_packet.specs.Packets.{Packet, written}
use Rattle.mctp_packet.specs.Pieces.{packet_at}
use Rattle.mctp_packet.specs.declared.reason.Reason.TheVariants.{BadTag, NotReady}
use Rattle.mctp_assembly.specs.Rows.{next}
use Rattle.mctp_assembly.specs.declared.fed.Fed.{Fed}
use Rattle.mctp_assembly.specs.declared.fed.Fed.TheVariants.{Whole, Partial, Dropped}
use Rattle.pldm_responder.specs.Performing.{busy_reply}
use Rattle.pldm_requester.specs.Arrivals.{Arrival, Answer, fed_arrival, got_of}
use Rattle.pldm_requester.specs.Calls.{Call, is_from_device}
use Rattle.pldm_requester.specs.Courses.{Progress, Answered}
use Rattle.pldm_requester.specs.Laws.{FedSinceItsOpening}
use Rattle.pldm_requester.specs.declared.results.Got.{Got}
use Rattle.pldm_requester.specs.declared.results.Got.TheVariants as got
use Rattle.pldm_requester.specs.declared.timing.Timing.{Timing}
use Rattle.mctp_schedule.specs.HandedPackets.{got_from, got_of_busy, got_of_reply}
use Rattle.mctp_schedule.specs.FirstArrivals.{order}
use Rattle.mctp_schedule.specs.Logs.{Asked, asked_at, endpoint_of}
use Rattle.mctp_schedule.specs.Timely.{IsTimelyLog}
use Rattle.mctp_schedule.specs.OncePerformed.{given, was_busy}
use Rattle.mctp_schedule.specs.RequesterHalf.{AnsweredWasPerformed, AnsweredWhereTaken, BusyIsExpected, IsTimelySchedule, OwnAssembly, OwnDeliveries, ReplyIsExpected, ProgressIs, TakenOnce}
use Rattle.mctp_schedule.specs.TakenReplies.{brought, busy_expected, busy_expected_to, came, completes, completes_for, got_by, if_waiting, is_waiting, part_count, reply_of, reply_expected, reply_expected_to, taken, way_to}
use Rattle.mctp_schedule.specs.Worlds.{IsTimelyAction, BothEnds, TagIsOwn, World, answer_packets, busy_from, busy_packet, packet_of, reply_packet, source_of, timing_of, world}
use Rattle.mctp_schedule.specs.Actions.{Reply, Busy}
use Rattle.mctp_schedule.specs.Actions.{Step}
use Rattle.mctp_schedule.proofs.AnswerPacketOutcomes.{Lower, arrival_by, arrival_expected, busy_brings, busy_is, busy_is_one, mine, packet_is, performed_at, reads_back, reply_brings}
use Rattle.mctp_schedule.proofs.DeliveriesExpected.{fresh_in_order_of_firsts}
use Rattle.mctp_schedule.proofs.AnswerPacketsAtRequester.{bad_tag, comes_in, packet_past, packet_there}
use Rattle.mctp_schedule.proofs.KnownRequests.{Known, all_known}
use Rattle.mctp_schedule.proofs.UntouchedRequests.{Stands}
use Rattle.mctp_schedule.proofs.StepsOnRequests.{waits_so}
use Rattle.mctp_schedule.proofs.AnsweredWhereTaken.{AllHold}
use Rattle.mctp_schedule.proofs.PacedLogs.{all_hold, paced_log_is_timely}

by_got : (f : Fed) → got_of (arrival_by f) ≡ got_by f
by_got (Whole body) = refl
by_got Partial = refl
by_got (Dropped reason) = refl

-- a number that is in a list stands somewhere in it
listed_at : (k : ℕ) (numbers : List ℕ) → list_any (λ n. n == k) numbers ≡ true → (i : ℕ) × (slice_get numbers i ≡ Some k)
listed_at k [] e = cc
listed_at k (n ∷ numbers) e = go (n == k) refl (listed_at k numbers) e
  where
    go : (b : Bool) → (n == k) ≡ b → (list_any (λ n. n == k) numbers ≡ true → (i : ℕ) × (slice_get numbers i ≡ Some k)) → (b || list_any (λ n. n == k) numbers) ≡ true → (i : ℕ) × (slice_get (n ∷ numbers) i ≡ Some k)
    go true same rest e = (0, ap Some (eqb-true n k same))
    go false other rest e = let later = rest e in (suc later.0, later.1)

module _ {S : Type 0} (setting : BothEnds S) (lower : Lower) where
  all_of : (steps : List Step) → IsTimelySchedule setting steps → AllHold setting steps
  all_of steps s = all_hold setting lower steps s.order s.timely s.sound

  log_of : (steps : List Step) → IsTimelySchedule setting steps → IsTimelyLog S setting.window setting.keep setting.pace.lifetime (world setting steps).log
  log_of steps s = paced_log_is_timely setting lower steps s

  pub own_deliveries : OwnDeliveries setting
  own_deliveries steps k r s is waits = (all_of steps s k r is).fed waits

  pub own_assembly : FedSinceItsOpening → OwnAssembly setting
  own_assembly since steps k r s is waits =
      since (endpoint_of r.source) setting.eid (timing_of setting r.source) setting.pace ((world setting steps).calls r.source) r.own waits
      ∙ own_deliveries steps k r s is waits

  pub answered_where_taken : AnsweredWhereTaken setting
  answered_where_taken steps k r s is = (all_of steps s k r is).progress

  pub taken_once : TakenOnce setting
  taken_once steps k j s took = go (asked_at (world setting steps).log k) refl
    where
      closed : (r : Asked) → asked_at (world setting steps).log k ≡ Some r → (is_waiting setting (world setting steps) r ≡ true) ⊎ (is_waiting setting (world setting steps) r ≡ false) → is_waiting setting (world setting steps) r ≡ false
      closed r is (inr shut) = shut
      closed r is (inl opens) =
          let still = waits_so (Stands setting steps r).course.progress opens in
          let off : taken setting steps k ≡ false = subst (ProgressIs setting steps k) still (all_of steps s k r is).progress in
          absurd (let wrong : true ≡ false = sym took ∙ off in cc)

      go : (o : Option Asked) → asked_at (world setting steps).log k ≡ o → completes_for setting steps k j o ≡ false
      go None e = refl
      go (Some r) e = and_right (nat_lt j (part_count setting (world setting steps) k)) _ (and_left (is_waiting setting (world setting steps) r) _ (closed r e (cases_Bool (is_waiting setting (world setting steps) r))))

  taken_of : (steps : List Step) (k : ℕ) (message : List ℕ) (x : Progress) → x ≡ Answered message → ProgressIs setting steps k x → (taken setting steps k ≡ true) × (message ≡ reply_of setting (world setting steps) k)
  taken_of steps k message x e c = subst (ProgressIs setting steps k) e c

  pub answered_was_performed : AnsweredWasPerformed setting
  answered_was_performed steps k r message s is stands =
      let h = all_of steps s k r is in
      let took = taken_of steps k message (Stands setting steps r).course.progress stands h.progress in
      let came_in = h.arrived took.0 in
      let listing = fresh_in_order_of_firsts setting.window setting.keep setting.pace.lifetime (world setting steps).log (log_of steps s) in
      let at = listed_at k (order S setting.window setting.keep (world setting steps).log) (listing.has k ∙ ap is_some came_in.1) in
      record {
        place = came_in.0;
        arrived = came_in.1;
        answer = took.1 ∙ performed_at setting lower steps (log_of steps s) s.sound k r is came_in.0 came_in.1;
        index = at.0;
        listed = at.1;
        only = λ i here. listing.once i at.0 k here at.1;
      }

  -- ---- what a packet gives, where it is on the way of request r's answers
  module _ (past : List Step) (s : IsTimelySchedule setting past) (k : ℕ) (r : Asked) (is : asked_at (world setting past).log k ≡ Some r) (own : TagIsOwn setting (world setting past) k) (message : List ℕ) (j : ℕ) (bytes : List ℕ) (sent : slice_get (answer_packets setting.eid r message) j ≡ Some bytes) where
    abbrev p : Packet
    p = packet_at (way_to setting r) message j

    abbrev calls : List Call
    calls = (world setting past).calls r.source

    abbrev timing : Timing
    timing = timing_of setting r.source

    known : Known setting (world setting past) r
    known = (all_known setting past s.sound.asks).known k r is

    from : is_from_device setting.eid p ≡ true
    from = eq-eqb setting.eid setting.eid refl

    gives_bad_tag : is_waiting setting (world setting past) r ≡ false → got_from setting (world setting past) r.source (Some bytes) ≡ Some (got.Dropped BadTag)
    gives_bad_tag shut =
        ap (λ x. Some (got_of x))
        (bad_tag (endpoint_of r.source) setting.eid timing setting.pace calls lower.found r.own known.within (own r is) p bytes (reads_back setting lower past (log_of past s) s.sound k r is message j bytes sent) from refl shut)

    gives_arrival : (arrival : Arrival) → is_waiting setting (world setting past) r ≡ true → fed_arrival (mine setting lower past (log_of past s) s.sound k r is) r.own (next (came setting past k r) p) ≡ arrival → got_from setting (world setting past) r.source (Some bytes) ≡ Some (got_of arrival)
    gives_arrival arrival waits brings =
        ap (λ x. Some (got_of x))
        (comes_in (endpoint_of r.source) setting.eid timing setting.pace calls lower.found r.own known.within (own r is) p bytes (reads_back setting lower past (log_of past s) s.sound k r is message j bytes sent) from refl waits
        ∙ ap (λ fed. fed_arrival (mine setting lower past (log_of past s) s.sound k r is) r.own (next fed p)) ((all_of past s k r is).fed waits)
        ∙ brings)

  -- ---- a packet of a reply
  module _ (past : List Step) (moment k j : ℕ) (s : IsTimelySchedule setting past) (timely : IsTimelyAction setting (world setting past) moment (Reply j k)) where
    abbrev w : World
    w = world setting past

    module _ (r : Asked) (is : asked_at w.log k ≡ Some r) (l : j < part_count setting w k) where
      abbrev m : List ℕ
      m = reply_of setting w k

      abbrev bytes : List ℕ
      bytes = written (packet_at (way_to setting r) m j)

      sent : slice_get (answer_packets setting.eid r m) j ≡ Some bytes
      sent = packet_there (way_to setting r) m j l

      handed_over : reply_packet setting w k j ≡ Some bytes
      handed_over = packet_is setting lower past (log_of past s) s.sound k r is j ∙ sent

      abbrev assembled : Got
      assembled = got_by (next (came setting past k r) (brought setting r m (Some j)))

      waiting : is_waiting setting w r ≡ true → got_from setting w r.source (Some bytes) ≡ Some (if completes setting past k j then got.Answered r.own else if_waiting setting past r assembled)
      waiting waits =
          gives_arrival past s k r is (timely bytes handed_over) m j bytes sent (arrival_expected setting lower past (log_of past s) s.sound k r is j) waits
          (reply_brings setting lower past (log_of past s) s.sound k r is j l waits (all_of past s k r is).below)
          ∙ ap Some (turn (completes setting past k j) ∙ ap (λ x. if completes setting past k j then got.Answered r.own else x) (sym (cond-true (is_waiting setting w r) _ _ waits)))
        where
          turn : (b : Bool) → got_of (if b then Answer r.own m else arrival_by (next (came setting past k r) (brought setting r m (Some j)))) ≡ (if b then got.Answered r.own else assembled)
          turn true = refl
          turn false = by_got (next (came setting past k r) (brought setting r m (Some j)))

      not_waiting : is_waiting setting w r ≡ false → got_from setting w r.source (Some bytes) ≡ Some (if completes setting past k j then got.Answered r.own else if_waiting setting past r assembled)
      not_waiting shut =
          let off : completes setting past k j ≡ false = ap (completes_for setting past k j) is ∙ and_right (nat_lt j (part_count setting w k)) _ (and_left (is_waiting setting w r) _ shut) in
          gives_bad_tag past s k r is (timely bytes handed_over) m j bytes sent shut
          ∙ ap Some (sym (cond-false (completes setting past k j) _ _ off ∙ cond-false (is_waiting setting w r) _ _ shut))

      there : got_from setting w r.source (reply_packet setting w k j) ≡ reply_expected_to setting past k j (Some r)
      there =
          ap (got_from setting w r.source) handed_over
          ∙ go (cases_Bool (is_waiting setting w r))
          ∙ sym (cond-true (nat_lt j (part_count setting w k)) _ _ (lt-ltb j (part_count setting w k) l))
        where
          go : (is_waiting setting w r ≡ true) ⊎ (is_waiting setting w r ≡ false) → got_from setting w r.source (Some bytes) ≡ Some (if completes setting past k j then got.Answered r.own else if_waiting setting past r assembled)
          go (inl waits) = waiting waits
          go (inr shut) = not_waiting shut

    past_them : (r : Asked) → asked_at w.log k ≡ Some r → part_count setting w k ≤ j → got_from setting w r.source (reply_packet setting w k j) ≡ reply_expected_to setting past k j (Some r)
    past_them r is l =
        ap (got_from setting w r.source) (packet_is setting lower past (log_of past s) s.sound k r is j ∙ packet_past (way_to setting r) (reply_of setting w k) j l)
        ∙ sym (cond-false (nat_lt j (part_count setting w k)) _ _ (le-ltb j (part_count setting w k) l))

    expected_to : (o : Option Asked) → asked_at w.log k ≡ o → got_of_reply setting w k j ≡ reply_expected setting past k j
    expected_to None off =
        (λ i. got_from setting w (source_of (off i)) (packet_of setting (off i) (given setting.device setting.window setting.keep setting.start w.log k) j))
        ∙ sym (ap (reply_expected_to setting past k j) off)
    expected_to (Some r) is =
        ap (λ o. got_from setting w (source_of o) (reply_packet setting w k j)) is
        ∙ by_place (cases_lt j (part_count setting w k))
        ∙ sym (ap (reply_expected_to setting past k j) is)
      where
        by_place : (j < part_count setting w k) ⊎ (part_count setting w k ≤ j) → got_from setting w r.source (reply_packet setting w k j) ≡ reply_expected_to setting past k j (Some r)
        by_place (inl l) = there r is l
        by_place (inr l) = past_them r is l

  pub reply_is_expected : ReplyIsExpected setting
  reply_is_expected past moment k j s timely = expected_to past moment k j s timely (asked_at (world setting past).log k) refl

  -- ---- a busy answer
  module _ (past : List Step) (moment k : ℕ) (s : IsTimelySchedule setting past) (timely : IsTimelyAction setting (world setting past) moment (Busy k)) where
    abbrev now : World
    now = world setting past

    module _ (r : Asked) (is : asked_at now.log k ≡ Some r) (busy : was_busy S setting.keep now.log k ≡ true) where
      abbrev message : List ℕ
      message = busy_reply r.message

      abbrev busy_bytes : List ℕ
      busy_bytes = written (packet_at (way_to setting r) message 0)

      one_sent : slice_get (answer_packets setting.eid r message) 0 ≡ Some busy_bytes
      one_sent = packet_there (way_to setting r) message 0 (let one = busy_is_one setting lower past (log_of past s) s.sound k r is in omega (arith, one))

      one_handed : busy_packet setting now k ≡ Some busy_bytes
      one_handed = busy_is setting lower past (log_of past s) s.sound k r is busy ∙ one_sent

      gives_not_ready : (is_waiting setting now r ≡ true) ⊎ (is_waiting setting now r ≡ false) → got_from setting now r.source (Some busy_bytes) ≡ Some (if_waiting setting past r (got.Dropped NotReady))
      gives_not_ready (inl waits) =
          gives_arrival past s k r is (timely busy_bytes one_handed) message 0 busy_bytes one_sent _ waits
          (busy_brings setting lower past (log_of past s) s.sound k r is (came setting past k r))
          ∙ ap Some (sym (cond-true (is_waiting setting now r) _ _ waits))
      gives_not_ready (inr shut) =
          gives_bad_tag past s k r is (timely busy_bytes one_handed) message 0 busy_bytes one_sent shut
          ∙ ap Some (sym (cond-false (is_waiting setting now r) _ _ shut))

      busy_there : got_from setting now r.source (busy_packet setting now k) ≡ busy_expected_to setting past k (Some r)
      busy_there =
          ap (got_from setting now r.source) one_handed
          ∙ gives_not_ready (cases_Bool (is_waiting setting now r))
          ∙ sym (cond-true (was_busy S setting.keep now.log k) _ _ busy)

    busy_expected_of : (o : Option Asked) → asked_at now.log k ≡ o → (b : Bool) → was_busy S setting.keep now.log k ≡ b → got_of_busy setting now k ≡ busy_expected setting past k
    busy_expected_of None off b e =
        (λ i. got_from setting now (source_of (off i)) (busy_from setting (off i) (was_busy S setting.keep now.log k)))
        ∙ sym (ap (busy_expected_to setting past k) off)
    busy_expected_of (Some r) is true busy =
        ap (λ o. got_from setting now (source_of o) (busy_packet setting now k)) is
        ∙ busy_there r is busy
        ∙ sym (ap (busy_expected_to setting past k) is)
    busy_expected_of (Some r) is false off =
        (λ i. got_from setting now (source_of (is i)) (busy_from setting (is i) (off i)))
        ∙ sym (cond-false (was_busy S setting.keep now.log k) _ _ off)
        ∙ sym (ap (busy_expected_to setting past k) is)

  pub busy_is_expected : BusyIsExpected setting
  busy_is_expected past moment k s timely =
      busy_expected_of past moment k s timely (asked_at (world setting past).log k) refl (was_busy S setting.keep (world setting past).log k) refl
