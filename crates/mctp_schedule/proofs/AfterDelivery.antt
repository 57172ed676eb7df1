-- The packet of a request comes to the device: what a run holds then.
use Rattle.std.proofs.Common.{◌≡◌, ◌⊎◌, ℕ, ◌+◌, ◌<◌, ◌≤◌, Bool, true, false, List, [], ◌∷◌, ◌++◌, length, Option, Some, None, refl, sym, ap, subst, ◌∙◌, inl, inr, arith, eq-eqb, ◌≢◌}
use Rattle.std.specs.List.{list_any}
use Rattle.std.specs.Prelude.{not, ◌&&◌, ◌||◌, ◌==◌, nat_lt, take, option_and_then, option_map, slice_get, if◌then◌else◌}
use Rattle.std.proofs.lemmas.Bool.{cases_eq, cond-true, cond-false, ne_eqb}
use Rattle.mctp_packet.specs.Ids.{IsEid}
use Rattle.pldm_wire.specs.declared.restart_policy.RestartPolicy.TheVariants.{All}
use Rattle.mctp_packet.specs.Laws.{SpelledIsReadFor, WrittenSpells}
use Rattle.mctp_packet.specs.Packets.{Packet}
use Rattle.mctp_assembly.specs.Steps as assembly
use Rattle.mctp_assembly.specs.declared.fed.Fed.{Fed}
use Rattle.mctp_assembly.specs.declared.fed.Fed.TheVariants as feds
use Rattle.pldm_wire.specs.Headers.{id_at}
use Rattle.pldm_responder.specs.Arrivals.{Whole, arrival, packets_back}
use Rattle.pldm_responder.specs.Calls.{answer_expected, events, fed, looked_back, outcome_expected, with_arrival}
use Rattle.pldm_responder.specs.Calls as responder
use Rattle.pldm_responder.specs.Events.{Message, Event, Came, Place, is_busy, id_of, is_copy, is_copy_of, is_fresh, origin, recent, refuses_bytes}
use Rattle.pldm_responder.specs.Fitting.{ArrivalFits, Fits, ReceivedFits}
use Rattle.pldm_responder.specs.ResponderStates.{ResponderState, IsHeld, id_in}
use Rattle.pldm_responder.specs.Recency.{of_number, renewed}
use Rattle.pldm_responder.specs.Laws.{IsLeftBy, ReceivedLooksBack, SameIsLeft, entry_at}
use Rattle.pldm_responder.specs.Performing.{Rules, answered, busy_reply, changes, performed, reply}
use Rattle.pldm_responder.specs.ResponderViews.{ResponderView, held_of}
use Rattle.pldm_responder.specs.Steps.{performs, received_arrival, received_held, received_outcome, repeats}
use Rattle.pldm_responder.specs.declared.outcome.Outcome.{Outcome}
use Rattle.pldm_responder.specs.declared.outcome.Outcome.TheVariants.{Answered}
use Rattle.mctp_schedule.specs.Askers.{packet_bytes}
use Rattle.mctp_schedule.specs.Entries.{as_it_stands, delivery_entry, entries}
use Rattle.mctp_schedule.specs.ArrivedIds.{ids_at}
use Rattle.mctp_schedule.specs.FirstArrivals.{first, fresh_of, has_arrived, is_first, order}
use Rattle.mctp_schedule.specs.Deliveries.{packets_of_outcome}
use Rattle.mctp_schedule.specs.EntryColumns.{outcomes_in, outcomes_in_entry}
use Rattle.mctp_schedule.specs.HeldRuns.{HeldRun}
use Rattle.mctp_schedule.specs.Journals.{Carried, answers_at, fresh_numbers, is_replied, packet_of_request, packets_in}
use Rattle.mctp_schedule.specs.Logs.{Asked, asked_at, message_at, reached, with_reached, endpoint_of}
use Rattle.mctp_schedule.specs.OncePerformed.{FitsPackets}
use Rattle.mctp_schedule.specs.Requests.{Request}
use Rattle.mctp_schedule.specs.Running.{IsCarried, IsOpened, IsRunning, busy_packets, device_calls, received}
use Rattle.mctp_schedule.specs.Worlds.{BothEnds, World, answer_packets, comes_in_time, is_timely, time_now, world}
use Rattle.mctp_schedule.specs.Timely.{ids_arrived, with_first}
use Rattle.mctp_schedule.specs.declared.arrivals.Arrivals.{Arrivals}
use Rattle.mctp_schedule.specs.declared.entry.Entry.{Entry}
use Rattle.mctp_schedule.specs.declared.entry.Entry.TheVariants as entry
use Rattle.mctp_schedule.specs.declared.journal.Journal.{Journal}
use Rattle.mctp_schedule.specs.Actions as actions
use Rattle.mctp_schedule.specs.Actions.{Step}
use Rattle.pldm_responder.proofs.RecentFirst.{found_in_map}
use Rattle.mctp_schedule.proofs.FirstPerformed.{is_first_of}
use Rattle.mctp_schedule.proofs.RestedRequesters.{first_there}
use Rattle.mctp_schedule.proofs.DeliveryChanges.{arrived_busy, arrived_here, arrived_none, arrived_other, brings_message, packet_for, busy_here, busy_none, busy_other, busy_served, given_busy, given_here, given_none, given_other, held_whole, looked_whole}
use Rattle.mctp_schedule.proofs.ListPlaces.{get_last, length_pushed}
use Rattle.mctp_schedule.proofs.AfterReadingOrRestart.{Enters, with_responder}
use Rattle.mctp_schedule.proofs.EntriesSpelled.{column_more}
use Rattle.mctp_schedule.proofs.KeptByAStep.{before_more, packets_stay, still_carried, still_opened, still_side}

-- ---- what is expected to a message, by its packets and whether it is fresh
module _ {S : Type 0} (device : Rules S) (own window keep : ℕ) (start : S) (es : List (Event S)) (m : Message) where
  abbrev expected : Bool → Bool → Outcome
  expected busy copy =
      if busy then Answered false false (packets_back own m (busy_reply m.bytes))
      else (if copy then Answered false false (packets_back own m (answered device All window keep start es m))
      else Answered true (changes device (performed device All window keep start es) m.bytes) (packets_back own m (answered device All window keep start es m)))

  pub expected_busy : is_busy keep es m.moment ≡ true → packets_of_outcome (answer_expected device own All window keep start es m) ≡ Some (packets_back own m (busy_reply m.bytes))
  expected_busy on = ap (λ b. packets_of_outcome (expected b (is_copy All window keep es m))) on

  pub expected_served : is_busy keep es m.moment ≡ false → packets_of_outcome (answer_expected device own All window keep start es m) ≡ Some (packets_back own m (answered device All window keep start es m))
  expected_served off = ap (λ b. packets_of_outcome (expected b (is_copy All window keep es m))) off ∙ go (is_copy All window keep es m)
    where
      go : (copy : Bool) → packets_of_outcome (expected false copy) ≡ Some (packets_back own m (answered device All window keep start es m))
      go true = refl
      go false = refl

  pub expected_fresh : (n : ℕ) → fresh_numbers n (answer_expected device own All window keep start es m) ≡ (if is_fresh All window keep es m then n ∷ [] else [])
  expected_fresh n = go (is_busy keep es m.moment) (is_copy All window keep es m)
    where
      go : (busy copy : Bool) → fresh_numbers n (expected busy copy) ≡ (if not busy && not copy then n ∷ [] else [])
      go true copy = refl
      go false true = refl
      go false false = refl

-- what is held when the responder, what is written down and the instance IDs that arrived have changed
abbrev pub with_delivery : {P S : Type 0} → HeldRun P S → ResponderView P S → Journal → Arrivals → HeldRun P S
with_delivery run new journal arrivals = record {
  keep = run.keep;
  window = run.window;
  responder = new;
  places = run.places;
  journal = journal;
  arrivals = arrivals;
}

-- ---- a message is performed exactly where it is fresh
module _ {S : Type 0} (device : Rules S) (own window keep : ℕ) (start : S) (held : ResponderState S) (calls : List (responder.Call S)) (left : IsLeftBy device own All window keep start held calls) where
  repeats_is : (m : Message) (place : Option (Place S)) → repeats keep m (option_map (entry_at device All window keep start) place) ≡ is_copy_of keep m place
  repeats_is m None = refl
  repeats_is m (Some place) = refl

  pub performs_is : (m : Message) → performs held m ≡ is_fresh All window keep (events own calls) m
  performs_is m =
      (λ i. not (refuses_bytes (left.refusing i) m.bytes && nat_lt m.moment (left.serves_from i))
      && not (repeats (left.keeping i) m (of_number id_in (id_at m.bytes) (left.kept m.source i))))
      ∙ ap (λ kept. not (is_busy keep (events own calls) m.moment) && not (repeats keep m kept))
      (found_in_map id_of id_in (entry_at device All window keep start) (λ _. refl) (id_at m.bytes) (take window (recent All window keep (events own calls) m.source)))
      ∙ ap (λ b. not (is_busy keep (events own calls) m.moment) && not b) (repeats_is m (origin All window keep (events own calls) m.source (id_at m.bytes)))

append_none : (xs : List ℕ) → xs ++ [] ≡ xs
append_none [] = refl
append_none (x ∷ xs) = ap (λ ys. x ∷ ys) (append_none xs)

listed : (b : Bool) (xs : List ℕ) (n : ℕ) → xs ++ (if b then n ∷ [] else []) ≡ (if b then xs ++ n ∷ [] else xs)
listed true xs n = refl
listed false xs n = append_none xs

-- ---- the packet of a request, of which the header and the message stand apart
pub carried_packet : {P S : Type 0} (setting : BothEnds S) (past : List Step) (run : HeldRun P S) → IsRunning setting past run
    → (n : ℕ) (r : Asked) → asked_at (world setting past).log n ≡ Some r → (bytes : List ℕ)
    → Some bytes ≡ packet_of_request (slice_get run.journal.traffic.items n) (slice_get run.journal.requests.items n)
    → bytes ≡ packet_bytes (endpoint_of r.source) setting.eid r.own r.message
carried_packet setting past run running n r is bytes made =
    let t = running.traffic n r is in
    let stands : slice_get run.journal.requests.items n ≡ Some (as_it_stands setting (world setting past) r) = running.requests n ∙ ap (option_map (as_it_stands setting (world setting past))) is in
    let here : Some bytes ≡ Some (t.0.header ++ r.message) = made ∙ ap (λ carried. packet_of_request carried (slice_get run.journal.requests.items n)) t.1 ∙ ap (packet_of_request (Some t.0)) stands in
    let whole : bytes ≡ t.0.header ++ r.message = cc in
    whole ∙ t.2.packet

module _ {P S : Type 0} (setting : BothEnds S) (past : List Step) (run : HeldRun P S) (journal : Journal) (running : IsRunning setting past run) (moment n : ℕ) (later : time_now past ≤ moment) where
  abbrev w : World
  w = world setting past

  abbrev v : World
  v = world setting (record { moment = moment; action = actions.Request n } ∷ past)

  -- ---- a request that was never opened
  pub never_opened : asked_at w.log n ≡ None → Enters run.journal journal entry.Nothing → IsRunning setting (record { moment = moment; action = actions.Request n } ∷ past) (with_responder run run.responder journal)
  never_opened none enters = record {
    times = running.times;
    pace = running.pace;
    window = running.window;
    device = record {
      endpoint = running.device.endpoint;
      left = subst (IsLeftBy setting.device setting.eid All setting.window setting.keep setting.start (held_of run.responder)) (sym (ap (λ o. received setting.eid moment o (device_calls setting.eid w.log)) none)) running.device.left;
      events = ap (λ o. events setting.eid (received setting.eid moment o (device_calls setting.eid w.log))) none ∙ running.device.events ∙ sym (ap (λ o. with_reached moment o (reached {S = S} w.log)) none);
      called = let x = running.device.called in omega (arith, x, later);
    };
    sides = λ e has. let s = running.sides e has in (s.0, s.1, still_side setting w v (time_now past) moment e s.0 refl refl (λ k r is. is) later s.2);
    opened = λ k r is. still_opened setting w v k r (omega arith) (λ here. here) (running.opened k r is);
    requests = λ k. ap (λ rs. slice_get rs k) enters.requests ∙ running.requests k;
    counted = ap (λ (rs : List Request). length rs) enters.requests ∙ running.counted;
    traffic = λ k r is.
        let t = running.traffic k r is in (
          t.0,
          ap (λ ts. slice_get ts k) enters.traffic ∙ t.1,
          subst (λ es. IsCarried setting v es k r t.0) (sym enters.entries)
              (still_carried setting w v run.journal.entries entry.Nothing k r t.0 (given_none setting.device setting.window setting.keep setting.start w.log moment n none k) (busy_none setting.device setting.window setting.keep setting.start w.log moment n none k) (arrived_none S setting.keep w.log moment n none k) t.2),
        );
    carried = ap (λ (ts : List Carried). length ts) enters.traffic ∙ running.carried;
    entries = enters.entries ∙ ap (λ es. es ++ entry.Nothing ∷ []) running.entries ∙ ap (λ o. entries setting past ++ delivery_entry setting w.log moment o ∷ []) (sym none);
    order = enters.order ∙ running.order ∙ sym (cond-false (fresh_of setting.window setting.keep (reached {S = S} w.log) moment (asked_at w.log n)) _ _ (ap (fresh_of setting.window setting.keep (reached {S = S} w.log) moment) none));
    arrived = λ s. running.arrived s ∙ ap (λ o. with_first (is_first S setting.keep w.log moment n) o s (ids_arrived S setting.keep w.log s)) (sym none);
    timely = enters.timely ∙ running.timely ∙ ap (λ o. comes_in_time setting w.log moment n o && is_timely setting past) (sym none);
    sent = running.sent;
    fit = (λ r is fresh. let wrong : ◌≡◌ {A = Option Asked} None (Some r) = sym none ∙ is in absurd (cc), running.fit);
  }

  -- ---- a request that was opened
  module _ (r : Asked) (is : asked_at w.log n ≡ Some r) (new : ResponderView P S) (arrivals : Arrivals) (bytes : List ℕ) (outcome : Outcome) (arrived busy in_time : Bool) where
    abbrev m : Message
    m = message_at moment r

    abbrev calls : List (responder.Call S)
    calls = device_calls setting.eid w.log

    pub record Delivers : Type 0 where
      pub packet_is : bytes ≡ packet_bytes (endpoint_of r.source) setting.eid r.own r.message
      pub new_held : IsHeld (held_of new) (received_held setting.device (held_of run.responder) moment bytes)
      pub given_outcome : outcome ≡ received_outcome setting.device (held_of run.responder) moment bytes
      pub given_fits : ReceivedFits setting.device (held_of run.responder) moment bytes
      pub given_busy : busy ≡ nat_lt moment (held_of run.responder).serves_from
      pub given_arrived : arrived ≡ is_replied (slice_get run.journal.traffic.items n)
      pub given_in_time : in_time ≡ (nat_lt moment (r.opening + setting.keep) && (not arrived || list_any (λ other. other == id_at r.message) (take run.window (ids_at run.arrivals r.source))))
      pub new_arrivals : (s : ℕ) → ids_at arrivals s ≡ (if r.source == s && (not arrived && not busy) then renewed (λ id. id) (id_at r.message) (ids_at run.arrivals s) else ids_at run.arrivals s)
      pub new_entries : journal.entries ≡ run.journal.entries ++ entry.Delivered busy outcome ∷ []
      pub new_requests : journal.requests.items ≡ run.journal.requests.items
      pub same_count : length journal.traffic.items ≡ length run.journal.traffic.items
      pub new_traffic : (k : ℕ) → slice_get journal.traffic.items k ≡ option_map (λ t. if k == n then answers_at (length (outcomes_in run.journal.entries)) busy t else t) (slice_get run.journal.traffic.items k)
      pub new_order : journal.order.items ≡ run.journal.order.items ++ fresh_numbers n outcome
      pub new_timely : journal.timely ≡ (in_time && run.journal.timely)

    module _ (looks : ReceivedLooksBack setting.device) (same : SameIsLeft setting.device) (spells : WrittenSpells) (read_for : SpelledIsReadFor) (d : Delivers) where
      source : IsOpened setting w n r
      source = running.opened n r is

      first_one : endpoint_of r.source ≡ r.source
      first_one = first_there r.source (running.sides r.source source.source).2.endpoint

      brings : (gives : Packet → Fed) → gives (packet_for setting.eid r) ≡ feds.Whole (record { items = r.message }) → arrival gives setting.eid moment bytes ≡ Whole m
      brings gives whole =
          let side = running.sides r.source source.source in
          ap (arrival gives setting.eid moment) d.packet_is
          ∙ brings_message spells read_for gives setting.eid moment r source.readable.0 running.device.endpoint (subst IsEid (sym first_one) side.2.endpoint) (subst (λ d. d ≢ setting.eid) (sym first_one) side.2.other) source.some source.few source.readable.1 whole

      arrives_here : responder.arrived setting.eid calls moment bytes ≡ Whole m
      arrives_here = brings (looked_back (fed setting.eid calls)) (looked_whole (fed setting.eid calls) setting.eid r)

      looked : (received_outcome setting.device (held_of run.responder) moment bytes ≡ responder.outcome setting.device setting.eid All setting.window setting.keep setting.start calls moment bytes)
          × IsLeftBy setting.device setting.eid All setting.window setting.keep setting.start (received_held setting.device (held_of run.responder) moment bytes) (responder.Received moment bytes ∷ calls)
      looked = looks setting.eid All setting.window setting.keep setting.start (held_of run.responder) calls moment bytes running.device.left

      busy_is : busy ≡ is_busy setting.keep (reached {S = S} w.log) moment
      busy_is =
          d.given_busy ∙ ap (nat_lt moment) running.device.left.serves_from ∙ ap (λ es. is_busy setting.keep es moment) running.device.events

      outcome_is : outcome ≡ answer_expected setting.device setting.eid All setting.window setting.keep setting.start (reached w.log) m
      outcome_is =
          d.given_outcome ∙ looked.0
          ∙ ap (outcome_expected setting.device setting.eid All setting.window setting.keep setting.start (events setting.eid calls)) arrives_here
          ∙ ap (λ es. answer_expected setting.device setting.eid All setting.window setting.keep setting.start es m) running.device.events

      called_with : received setting.eid moment (asked_at w.log n) calls ≡ responder.Received moment bytes ∷ calls
      called_with = ap (λ o. received setting.eid moment o calls) is ∙ ap (λ b. responder.Received moment b ∷ calls) (sym d.packet_is)

      abbrev x : Entry
      x = entry.Delivered busy outcome

      one_more : outcomes_in (run.journal.entries ++ x ∷ []) ≡ outcomes_in run.journal.entries ++ outcome ∷ []
      one_more = column_more outcomes_in_entry run.journal.entries x

      at_place : packets_in (run.journal.entries ++ x ∷ []) (Some (length (outcomes_in run.journal.entries))) ≡ packets_of_outcome outcome
      at_place = ap (option_and_then packets_of_outcome) (ap (λ os. slice_get os (length (outcomes_in run.journal.entries))) one_more ∙ get_last (outcomes_in run.journal.entries) outcome)

      below : length (outcomes_in run.journal.entries) < length (outcomes_in (run.journal.entries ++ x ∷ []))
      below = let l = ap (λ (os : List Outcome). length os) one_more ∙ length_pushed (outcomes_in run.journal.entries) outcome in omega (arith, l)

      carried_here : (c : Carried) → IsCarried setting w run.journal.entries n r c → IsCarried setting v (run.journal.entries ++ x ∷ []) n r (answers_at (length (outcomes_in run.journal.entries)) busy c)
      carried_here c t = go busy refl
        where
          es : List Entry
          es = run.journal.entries ++ x ∷ []

          go : (b : Bool) → busy ≡ b → IsCarried setting v es n r (answers_at (length (outcomes_in run.journal.entries)) b c)
          go true on =
              let up = sym busy_is ∙ on in
              record {
                packet = t.packet;
                reply = packets_stay run.journal.entries x c.reply t.reply_place ∙ t.reply ∙ ap (option_map (answer_packets setting.eid r)) (sym (given_busy setting.device setting.window setting.keep setting.start w.log moment n r is up));
                busy = at_place ∙ ap packets_of_outcome outcome_is ∙ expected_busy setting.device setting.eid setting.window setting.keep setting.start (reached {S = S} w.log) m up ∙ ap (busy_packets setting.eid r) (sym (busy_here setting.device setting.window setting.keep setting.start w.log moment n r is up));
                arrived = t.arrived ∙ sym (arrived_busy S setting.keep w.log moment n up n);
                reply_place = before_more run.journal.entries x c.reply t.reply_place;
                busy_place = below;
              }
          go false off =
              let up = sym busy_is ∙ off in
              record {
                packet = t.packet;
                reply = at_place ∙ ap packets_of_outcome outcome_is ∙ expected_served setting.device setting.eid setting.window setting.keep setting.start (reached {S = S} w.log) m up ∙ ap (option_map (answer_packets setting.eid r)) (sym (given_here setting.device setting.window setting.keep setting.start w.log moment n r is up));
                busy = packets_stay run.journal.entries x c.busy t.busy_place ∙ t.busy ∙ ap (busy_packets setting.eid r) (sym (busy_served setting.device setting.window setting.keep setting.start w.log moment n r is up));
                arrived = sym (arrived_here S setting.keep w.log moment n r is up);
                reply_place = below;
                busy_place = before_more run.journal.entries x c.busy t.busy_place;
              }

      carried_at : (k : ℕ) (q : Asked) → asked_at w.log k ≡ Some q → (c : Carried) × (slice_get journal.traffic.items k ≡ Some c) × IsCarried setting v journal.entries k q c
      carried_at k q asked = go (cases_eq k n)
        where
          t : (c : Carried) × (slice_get run.journal.traffic.items k ≡ Some c) × IsCarried setting w run.journal.entries k q c
          t = running.traffic k q asked

          moved : slice_get journal.traffic.items k ≡ Some (if k == n then answers_at (length (outcomes_in run.journal.entries)) busy t.0 else t.0)
          moved = d.new_traffic k ∙ ap (option_map (λ c. if k == n then answers_at (length (outcomes_in run.journal.entries)) busy c else c)) t.1

          go : (k ≡ n) ⊎ (k ≡ n → ⊥) → (c : Carried) × (slice_get journal.traffic.items k ≡ Some c) × IsCarried setting v journal.entries k q c
          go (inl e) =
              let same_request : q ≡ r = let both : Some q ≡ Some r = sym asked ∙ ap (asked_at w.log) e ∙ is in cc in
              let was : IsCarried setting w run.journal.entries n r t.0 = subst (λ j. IsCarried setting w run.journal.entries j r t.0) e (subst (λ a. IsCarried setting w run.journal.entries k a t.0) same_request t.2) in
              let here = carried_here t.0 was in (
                answers_at (length (outcomes_in run.journal.entries)) busy t.0,
                moved ∙ ap Some (cond-true (k == n) _ _ (eq-eqb k n e)),
                subst (λ es. IsCarried setting v es k q (answers_at (length (outcomes_in run.journal.entries)) busy t.0)) (sym d.new_entries)
                    (subst (λ j. IsCarried setting v (run.journal.entries ++ x ∷ []) j q (answers_at (length (outcomes_in run.journal.entries)) busy t.0)) (sym e)
                    (subst (λ a. IsCarried setting v (run.journal.entries ++ x ∷ []) n a (answers_at (length (outcomes_in run.journal.entries)) busy t.0)) (sym same_request) here)),
              )
          go (inr other) = (
            t.0,
            moved ∙ ap Some (cond-false (k == n) _ _ (ne_eqb k n other)),
            subst (λ es. IsCarried setting v es k q t.0) (sym d.new_entries)
                (still_carried setting w v run.journal.entries x k q t.0 (given_other setting.device setting.window setting.keep setting.start w.log moment n k (λ e. other (sym e))) (busy_other setting.device setting.window setting.keep setting.start w.log moment n k (λ e. other (sym e))) (arrived_other S setting.keep w.log moment n k (λ e. other (sym e))) t.2),
          )

      fits_here : (q : Asked) → asked_at w.log n ≡ Some q → is_fresh All setting.window setting.keep (reached {S = S} w.log) (message_at moment q) ≡ true → FitsPackets (reply setting.device (performed setting.device All setting.window setting.keep setting.start (reached w.log)) q.message)
      fits_here q asked fresh =
          let same_request : r ≡ q = let both : Some r ≡ Some q = sym is ∙ asked in cc in
          let held = held_of run.responder in
          let arrival_is : received_arrival held moment bytes ≡ Whole m =
          ap (λ own. arrival (assembly.answer held.open_messages) own moment bytes) running.device.left.endpoint ∙ brings (assembly.answer held.open_messages) (held_whole held.open_messages setting.eid r) in
          let fits : performs held m ≡ true → Fits (reply setting.device held.state m.bytes) = subst (ArrivalFits setting.device held) arrival_is d.given_fits in
          let on : performs held m ≡ true =
          performs_is setting.device setting.eid setting.window setting.keep setting.start held calls running.device.left m ∙ ap (λ es. is_fresh All setting.window setting.keep es m) running.device.events ∙ subst (λ a. is_fresh All setting.window setting.keep (reached {S = S} w.log) (message_at moment a) ≡ true) (sym same_request) fresh in
          let both = fits on in
          let state = running.device.left.state ∙ ap (performed setting.device All setting.window setting.keep setting.start) running.device.events in
          subst (λ (a : Asked). FitsPackets (reply setting.device (performed setting.device All setting.window setting.keep setting.start (reached w.log)) a.message)) same_request
          (subst (λ s. FitsPackets (reply setting.device s r.message)) state (record { some = both.0; few = both.1 }))

      arrived_is : arrived ≡ has_arrived S setting.keep w.log n
      arrived_is = let t = running.traffic n r is in d.given_arrived ∙ ap is_replied t.1 ∙ t.2.arrived

      in_time_is : in_time ≡ comes_in_time setting w.log moment n (Some r)
      in_time_is =
          d.given_in_time
          ∙ (λ i. nat_lt moment (r.opening + (sym running.pace i).lifetime)
          && (not (arrived_is i) || list_any (λ other. other == id_at r.message) (take (running.window i) (running.arrived r.source i))))
          ∙ ap (λ d. nat_lt moment (r.opening + setting.pace.lifetime) && (not (has_arrived S setting.keep w.log n) || list_any (λ other. other == id_at r.message) (take setting.window (ids_arrived S setting.keep w.log d)))) (sym first_one)

      -- the delivery is the first arrival where it is said so
      first_is : (not arrived && not busy) ≡ is_first S setting.keep w.log moment n
      first_is = (λ i. not (arrived_is i) && not (busy_is i)) ∙ ap (λ o. is_first_of o (first S setting.keep w.log n) (is_busy setting.keep (reached {S = S} w.log) moment)) (sym is)

      ids_now : (s : ℕ) → ids_at arrivals s ≡ ids_arrived S setting.keep v.log s
      ids_now s =
          d.new_arrivals s
          ∙ (λ i. if (sym first_one) i == s && first_is i then renewed (λ id. id) (id_at r.message) (running.arrived s i) else running.arrived s i)
          ∙ ap (λ o. with_first (is_first S setting.keep w.log moment n) o s (ids_arrived S setting.keep w.log s)) (sym is)

      pub delivered_runs : IsRunning setting (record { moment = moment; action = actions.Request n } ∷ past) (with_delivery run new journal arrivals)
      delivered_runs = record {
        times = running.times;
        pace = running.pace;
        window = running.window;
        device = record {
          endpoint = running.device.endpoint;
          left = same setting.eid All setting.window setting.keep setting.start (held_of new) (received_held setting.device (held_of run.responder) moment bytes) (device_calls setting.eid v.log) d.new_held
              (subst (IsLeftBy setting.device setting.eid All setting.window setting.keep setting.start (received_held setting.device (held_of run.responder) moment bytes)) (sym called_with) looked.1);
          events = ap (events setting.eid) called_with ∙ ap (λ a. with_arrival a (events setting.eid calls)) arrives_here ∙ ap (λ es. Came m ∷ es) running.device.events ∙ sym (ap (λ o. with_reached moment o (reached {S = S} w.log)) is);
          called = let y = d.new_held.last in omega (arith, y);
        };
        sides = λ e has. let s = running.sides e has in (s.0, s.1, still_side setting w v (time_now past) moment e s.0 refl refl (λ k q asked. asked) later s.2);
        opened = λ k q asked. still_opened setting w v k q (omega arith) (λ here. here) (running.opened k q asked);
        requests = λ k. ap (λ rs. slice_get rs k) d.new_requests ∙ running.requests k;
        counted = ap (λ (rs : List Request). length rs) d.new_requests ∙ running.counted;
        traffic = carried_at;
        carried = d.same_count ∙ running.carried;
        entries = d.new_entries ∙ ap (λ es. es ++ x ∷ []) running.entries
            ∙ ap (λ y. entries setting past ++ y ∷ []) (ap (λ b. entry.Delivered b outcome) busy_is ∙ ap (entry.Delivered (is_busy setting.keep (reached {S = S} w.log) moment)) outcome_is ∙ sym (ap (delivery_entry setting w.log moment) is));
        order = d.new_order ∙ ap (λ xs. xs ++ fresh_numbers n outcome) running.order
            ∙ ap (λ o. order S setting.window setting.keep w.log ++ fresh_numbers n o) outcome_is
            ∙ ap (λ xs. order S setting.window setting.keep w.log ++ xs) (expected_fresh setting.device setting.eid setting.window setting.keep setting.start (reached {S = S} w.log) m n)
            ∙ listed (is_fresh All setting.window setting.keep (reached {S = S} w.log) m) (order S setting.window setting.keep w.log) n
            ∙ ap (λ o. if fresh_of setting.window setting.keep (reached {S = S} w.log) moment o then order S setting.window setting.keep w.log ++ n ∷ [] else order S setting.window setting.keep w.log) (sym is);
        arrived = λ s. ids_now s;
        timely = d.new_timely ∙ (λ i. in_time_is i && running.timely i) ∙ ap (λ o. comes_in_time setting w.log moment n o && is_timely setting past) (sym is);
        sent = running.sent;
        fit = (fits_here, running.fit);
      }
