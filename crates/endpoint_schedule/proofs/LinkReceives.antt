-- The packet of a request comes to the endpoint: what is known then.
use Rattle.std.specs.FinMap as map
use Rattle.std.proofs.Common.{◌≡◌, ◌≢◌, ◌⊎◌, ℕ, ◌≤◌, Bool, true, false, cond, List, [], ◌∷◌, ◌++◌, length, Option, Some, None, Result, Ok, Err, refl, sym, ap, ◌∙◌, subst, inl, inr, ⊎_elim, arith, eq-eqb}
use Rattle.std.specs.Prelude.{◌&&◌, ◌==◌, not, is_some, option_map, slice_get, if◌then◌else◌}
use Rattle.std.proofs.lemmas.Bool.{and_right, cases_eq, cond-true, cond-false, ne_eqb}
use Rattle.std.specs.Ordering.{eq_by_cmp}
use Rattle.mctp_packet.specs.Ids.{IsEid}
use Rattle.mctp_packet.specs.Laws.{SpelledIsReadFor, WrittenSpells}
use Rattle.mctp_packet.specs.Packets.{IsPacket, Packet, written}
use Rattle.mctp_packet.specs.Passing.{passed}
use Rattle.mctp_packet.specs.declared.reason.Reason.{Reason}
use Rattle.mctp_assembly.specs.Laws as assembly_laws
use Rattle.mctp_assembly.specs.Steps as assembly
use Rattle.mctp_assembly.specs.declared.fed.Fed.{Fed}
use Rattle.mctp_assembly.specs.declared.fed.Fed.TheVariants as feds
use Rattle.pldm_endpoint.specs.Receiving.{HasReceived}
use Rattle.pldm_endpoint.specs.RequestKeys.{request_key, request_key_cmp, request_key_of}
use Rattle.pldm_endpoint.specs.TwoSteps.{EndpointView, asked_now, asking_step, command_at, count_after, handle_of, held_after, held_in, pending_after, pending_by, received_step, request_in, step_by, unasked}
use Rattle.pldm_endpoint.specs.declared.pending_commands.PendingCommand.{PendingCommand}
use Rattle.pldm_endpoint.specs.declared.pending_commands.RequestKey.{RequestKey}
use Rattle.pldm_endpoint.specs.declared.step.CommandHandle.{CommandHandle}
use Rattle.pldm_endpoint.specs.declared.step.Step as endpoint_steps
use Rattle.pldm_endpoint.specs.declared.step.Step.TheVariants as taken
use Rattle.pldm_endpoint.proofs.AnswersInTurn.{received_in_turn, same_commands, same_in_turn, unasked_looks_back}
use Rattle.pldm_endpoint.proofs.ByParts.{IsFree, IsLeftByParts, to_be}
use Rattle.pldm_endpoint.proofs.CallsInTurn.{free_where_accepted}
use Rattle.pldm_endpoint.proofs.KeyOrder.{request_keys_total}
use Rattle.pldm_endpoint.proofs.PendingGlue.{one_key}
use Rattle.pldm_responder.specs.Arrivals.{Whole, arrival, is_expected, packets_back, request_packet}
use Rattle.pldm_responder.specs.Asked.{Given, gives, over, response_in}
use Rattle.pldm_responder.specs.Askings.{asked_by}
use Rattle.pldm_responder.specs.Calls.{Call, Received, answer_expected, arrived, events, fed, looked_back, outcome_expected, with_arrival}
use Rattle.pldm_responder.specs.Events.{Message, Came, is_busy, is_copy_of, is_fresh, origin}
use Rattle.pldm_responder.specs.Looking.{ended_by}
use Rattle.pldm_responder.specs.OpenOrder.{ended_held, ended_passed}
use Rattle.pldm_responder.specs.OutsideAnswers.{message_in}
use Rattle.pldm_responder.specs.Performing.{Perform, Respond, Task, answer_to, answered, busy_reply, performed, reply, response_to, tasks_at, tasks_in, tasks_of}
use Rattle.pldm_responder.specs.Performing as performing
use Rattle.pldm_responder.specs.ResponderStates.{IsHeld, ResponderState}
use Rattle.pldm_responder.specs.Steps.{received_arrival, received_outcome}
use Rattle.pldm_responder.specs.declared.outcome.Outcome.{Outcome}
use Rattle.pldm_responder.proofs.AskedOnce.{tasks_look_back}
use Rattle.pldm_wire.specs.Answers.{answer_message}
use Rattle.pldm_wire.specs.CommandReading.{command_of}
use Rattle.pldm_wire.specs.HandingOn.{hands_on}
use Rattle.pldm_wire.specs.Headers.{id_at}
use Rattle.pldm_wire.specs.Requests.{Request, request_of}
use Rattle.pldm_wire.specs.declared.command.Command.{Command}
use Rattle.pldm_wire.specs.declared.pass_through.PassThrough.{PassThrough}
use Rattle.pldm_wire.specs.declared.restart_policy.RestartPolicy.TheVariants.{All}
use Rattle.mctp_schedule.specs.Askers.{packet_bytes}
use Rattle.mctp_schedule.specs.Deliveries.{packets_of_outcome}
use Rattle.mctp_schedule.specs.FirstArrivals.{arrives, arrives_at, first, has_arrived, is_first}
use Rattle.mctp_schedule.specs.Logs.{Asked, Happening, Delivered, asked_at, last_of, message_at, reached, with_reached, endpoint_of}
use Rattle.mctp_schedule.specs.OncePerformed.{FitsPackets, given}
use Rattle.mctp_schedule.specs.Timely.{ComesInTime, IsTimelyLog}
use Rattle.mctp_schedule.specs.Worlds.{World, done}
use Rattle.mctp_schedule.specs.Actions as actions
use Rattle.mctp_schedule.specs.Actions.{Step}
use Rattle.mctp_schedule.proofs.AfterDelivery.{expected_busy, expected_served}
use Rattle.mctp_schedule.proofs.AnswerPacketOutcomes.{Lower}
use Rattle.mctp_schedule.proofs.DeliveriesExpected.{fresh_where_first, given_is_the_reply, state_is_once}
use Rattle.mctp_schedule.proofs.DeliveryChanges.{arrived_here, brings_message, busy_here, given_here, held_whole, looked_whole, packet_for}
use Rattle.mctp_schedule.proofs.ListPlaces.{get_front, get_last, get_within}
use Rattle.mctp_schedule.proofs.PacedLogs.{paced_log_is_timely}
use Rattle.endpoint_schedule.specs.Links as links
use Rattle.endpoint_schedule.specs.Links.{Link, LinkSettings, handed_out_by, put, sent_by, with_packets}
use Rattle.endpoint_schedule.specs.OverTime.{IsSoundLink, asks_at, asks_by, asks_device, is_some_task, to_hand_out}
use Rattle.endpoint_schedule.proofs.AskedInOrder.{count_is, device, first_place, refusal_is, reply_is}
use Rattle.endpoint_schedule.proofs.LinkState.{AreKnown, Holds, IsFine, IsNotReady, IsPending, IsSent, not_ready_moves, pending_moves, reply_to, schedule_of, sent_moves, setting, step_at}

-- the laws below
pub record Laws : Type 0 where
  pub lower : Lower
  pub spells : WrittenSpells
  pub read_for : SpelledIsReadFor
  pub feeds : assembly_laws.FeedLooksBack
  pub begins : assembly_laws.NewLooksBack
  pub forgets : assembly_laws.ForgetLooksBack

-- ---- a refusal by its code fits packets
refused_fits : (handed : PassThrough) (request : Request) (r : Result Command ℕ) → is_some_task (tasks_in r) ≡ false → FitsPackets (answer_message request.id request.kind (answer_to (gives (hands_on handed) unasked) tt r))
refused_fits handed request (Ok command) none = absurd (cc)
refused_fits handed request (Err code) none = record { some = omega arith; few = omega arith }

handed_fits : (handed : PassThrough) (t : Bool) (request : Request) → is_some_task (if t then Respond request ∷ [] else tasks_in (command_of request.kind request.rest)) ≡ false
    → FitsPackets (if t then response_to request (response_in unasked) else answer_message request.id request.kind (answer_to (gives (hands_on handed) unasked) tt (command_of request.kind request.rest)))
handed_fits handed true request none = absurd (cc)
handed_fits handed false request none = refused_fits handed request (command_of request.kind request.rest) none

refusal_fits : (handed : PassThrough) (q : Result Request Reason) (request : Request) → q ≡ Ok request → is_some_task (tasks_at (hands_on handed) q) ≡ false → FitsPackets (performing.reply_to (gives (hands_on handed) unasked) tt q)
refusal_fits handed (Err reason) request e none = absurd (cc)
refusal_fits handed (Ok other) request e none = handed_fits handed (hands_on handed other.kind) other none

-- ---- one more is pending
inserted : (pending : map.FinMap request_key_cmp PendingCommand) (key other : RequestKey) (a b : PendingCommand) → map.get (map.insert pending key a) other ≡ Some b → ((other ≡ key) × (b ≡ a)) ⊎ (map.get pending other ≡ Some b)
inserted pending key other a b is = go (eq_by_cmp request_key_cmp other key) refl (sym (map.get-insert request_keys_total pending key a other) ∙ is)
  where
    go : (t : Bool) → eq_by_cmp request_key_cmp other key ≡ t → cond t (Some a) (map.get pending other) ≡ Some b → ((other ≡ key) × (b ≡ a)) ⊎ (map.get pending other ≡ Some b)
    go true same e = inl (one_key other key same, cc)
    go false apart e = inr e

-- ---- what goes out is put at its request
pub put_here : {A : Type 0} (each : ℕ → A) (k : ℕ) (x : A) → put each k x k ≡ x
put_here each k x = cond-true (k == k) x (each k) (eq-eqb k k refl)

pub put_other : {A : Type 0} (each : ℕ → A) (k n : ℕ) (x : A) → (k ≡ n → ⊥) → put each k x n ≡ each n
put_other each k n x other = cond-false (k == n) x (each n) (ne_eqb k n other)

same_held : {S : Type 0} (held : ResponderState S) → IsHeld held held
same_held held = record { own = refl; busy = refl; window = refl; keep = refl; open_messages = refl; kept = λ source. refl; state = refl; serves_from = refl; last = refl }

-- ---- which step comes of what is asked
done_where_none : (o : Outcome) (count : ℕ) (m : Option Message) (tasks : List Task) → tasks ≡ [] → step_by o count m tasks ≡ taken.Done o
done_where_none o count None tasks none = refl
done_where_none o count (Some m) [] none = refl
done_where_none o count (Some m) (task ∷ tasks) none = absurd (cc)

pending_where_none : (pending : map.FinMap request_key_cmp PendingCommand) (count : ℕ) (m : Option Message) (tasks : List Task) → tasks ≡ [] → pending_by pending count m tasks ≡ pending
pending_where_none pending count None tasks none = refl
pending_where_none pending count (Some m) [] none = refl
pending_where_none pending count (Some m) (task ∷ tasks) none = absurd (cc)

asked_hands_out : (before : List ℕ) (k : ℕ) (task : Task) (handle : CommandHandle) → handed_out_by before k (asking_step task handle) ≡ before ++ k ∷ []
asked_hands_out before k (Perform command) handle = refl
asked_hands_out before k (Respond request) handle = refl

asked_sends_none : (counts : Bool) (before : ℕ → Option (List (List ℕ))) (k : ℕ) (task : Task) (handle : CommandHandle) → sent_by counts before k (asking_step task handle) ≡ before
asked_sends_none counts before k (Perform command) handle = refl
asked_sends_none counts before k (Respond request) handle = refl

module _ (settings : LinkSettings) (answers : ℕ → Given) (laws : Laws) (l : Link) (before : ℕ) (steps : List Step) (holds : Holds settings answers l before steps) (sound : IsSoundLink settings answers l)
    (moment k : ℕ) (later : before ≤ moment) (r : Asked) (asked : asked_at l.world.log k ≡ Some r) (in_time : (q : Asked) → asked_at l.world.log k ≡ Some q → ComesInTime ℕ settings.window settings.keep settings.pace.lifetime l.world.log moment k q)
    (own_here : l.end.end.own ≡ settings.eid) (new : EndpointView) (step : endpoint_steps.Step) (has : HasReceived l.end moment (packet_bytes (endpoint_of r.source) settings.eid r.own r.message) new step) where
  abbrev log : List Happening
  log = l.world.log

  abbrev longer : List Happening
  longer = Delivered moment k ∷ log

  abbrev m : Message
  m = message_at moment r

  abbrev bytes : List ℕ
  bytes = packet_bytes (endpoint_of r.source) settings.eid r.own r.message

  abbrev held : ResponderState (Unit {0})
  held = held_in l.end

  abbrev calls : List (Call ℕ)
  calls = holds.end.calls

  abbrev pending : map.FinMap request_key_cmp PendingCommand
  pending = l.end.pending

  abbrev count : ℕ
  count = l.end.count

  abbrev busy : Bool
  busy = is_busy settings.keep (reached {S = ℕ} log) moment

  abbrev l_after : Link
  l_after = links.received settings answers l moment k new step

  its_own : holds.end.own ≡ settings.eid
  its_own = sym holds.end.parts.left.endpoint ∙ own_here

  parts : IsLeftByParts settings.eid settings.handed_on All settings.window settings.keep answers count pending held calls
  parts = subst (λ own. IsLeftByParts own settings.handed_on All settings.window settings.keep answers count pending held calls) its_own holds.end.parts

  came_before : events settings.eid calls ≡ reached {S = ℕ} log
  came_before = ap (λ own. events own calls) (sym its_own) ∙ holds.end.events

  timely : IsTimelyLog ℕ settings.window settings.keep settings.pace.lifetime log
  timely =
      subst (λ (w : World). IsTimelyLog ℕ settings.window settings.keep settings.pace.lifetime w.log) (sym holds.as_scheduled.same)
      (paced_log_is_timely (setting settings answers) laws.lower steps (schedule_of settings answers l before steps sound holds.as_scheduled))

  longer_timely : IsTimelyLog ℕ settings.window settings.keep settings.pace.lifetime longer
  longer_timely = record {
    order = (last_is, timely.order);
    apart = timely.apart;
    in_time = (in_time, timely.in_time);
    within = timely.within;
  }
    where
      last_is : last_of log ≤ moment
      last_is = let y = holds.as_scheduled.last in let z = holds.as_scheduled.log_last in omega (arith, y, z, later)

  -- ---- its packet brings the message
  fine : IsFine settings answers r
  fine = holds.known.fine k r asked

  source : IsEid (endpoint_of r.source) × (endpoint_of r.source ≢ settings.eid)
  source = sound.sources k r asked

  brings : (gives_it : Packet → Fed) → gives_it (packet_for settings.eid r) ≡ feds.Whole (record { items = r.message }) → arrival gives_it settings.eid moment bytes ≡ Whole m
  brings gives_it whole = brings_message laws.spells laws.read_for gives_it settings.eid moment r fine.readable.0 sound.device source.0 source.1 fine.some fine.few fine.readable.1 whole

  own_is : held.own ≡ settings.eid
  own_is = parts.left.endpoint

  arrives_held : received_arrival held moment bytes ≡ Whole m
  arrives_held = ap (λ own. arrival (assembly.answer held.open_messages) own moment bytes) own_is ∙ brings (assembly.answer held.open_messages) (held_whole held.open_messages settings.eid r)

  arrives_back : arrived settings.eid calls moment bytes ≡ Whole m
  arrives_back = brings (looked_back (fed settings.eid calls)) (looked_whole (fed settings.eid calls) settings.eid r)

  request_is : request_in held moment bytes ≡ Some m
  request_is = ap message_in arrives_held

  read_packet : request_packet settings.eid bytes ≡ Ok (packet_for settings.eid r)
  read_packet =
      let p = packet_for settings.eid r in
      let is_packet : IsPacket p = record { destination = sound.device; source = source.0; tag = omega arith; seq = omega arith; payload = (fine.some, fine.few) } in
      ap (passed is_expected) (laws.read_for settings.eid p (written p) (laws.spells p is_packet) (refl, source.1))

  -- no open message ends for it
  ends_none : ended_by l.end.end bytes ≡ None
  ends_none = ap (λ own. ended_passed l.end.end (request_packet own bytes)) own_is ∙ ap (ended_passed l.end.end) read_packet

  -- ---- what it asks
  free : IsFree pending (request_in held moment bytes)
  free = free_where_accepted l.end moment bytes has.accepted

  abbrev first_now : Bool
  first_now = is_first ℕ settings.keep log moment k

  fresh_is : is_fresh All settings.window settings.keep (reached {S = ℕ} log) m ≡ first_now
  fresh_is = go busy refl
    where
      go : (b : Bool) → busy ≡ b → is_fresh All settings.window settings.keep (reached {S = ℕ} log) m ≡ first_now
      go false idle = (fresh_where_first {S = ℕ} settings.window settings.keep settings.pace.lifetime log moment k r longer_timely asked idle).0
      go true on =
          ap (λ b. not b && not (is_copy_of settings.keep m (origin All settings.window settings.keep (reached {S = ℕ} log) m.source (id_at m.bytes)))) on
          ∙ sym (and_right (not (has_arrived ℕ settings.keep log k)) (arrives (asked_at log k) busy) ((λ i. arrives (asked i) (on i))))

  asked_is : asked_now settings.handed_on held moment bytes ≡ (if first_now then tasks_of (hands_on settings.handed_on) r.message else [])
  asked_is =
      sym (same_commands settings.handed_on answers count pending held parts.ids (received_arrival held moment bytes) free)
      ∙ tasks_look_back (device settings.handed_on answers) laws.feeds (hands_on settings.handed_on) settings.eid All settings.window settings.keep 0 (over count (to_be settings.handed_on answers pending held)) calls moment bytes parts.left
      ∙ ap (asked_by (tasks_of (hands_on settings.handed_on)) All settings.window settings.keep (events settings.eid calls)) arrives_back
      ∙ ap (λ es. asked_by (tasks_of (hands_on settings.handed_on)) All settings.window settings.keep es (Whole m)) came_before
      ∙ ap (λ b. if b then tasks_of (hands_on settings.handed_on) r.message else []) fresh_is

  -- ---- the endpoint
  count_is_now : new.count ≡ count_after settings.handed_on held moment bytes count
  count_is_now = has.count ∙ ap (λ h. count_after h held moment bytes count) holds.end.handed_on

  pending_is_now : new.pending ≡ pending_after settings.handed_on held moment bytes pending count
  pending_is_now = has.pending ∙ ap (λ h. pending_after h held moment bytes pending count) holds.end.handed_on

  step_is_now : step ≡ received_step settings.handed_on held moment bytes count
  step_is_now = has.step_is ∙ ap (λ h. received_step h held moment bytes count) holds.end.handed_on

  held_is_now : IsHeld (held_in new) (held_after settings.handed_on held moment bytes)
  held_is_now =
      subst (λ ended. IsHeld (held_in new) (ended_held ended (held_after settings.handed_on held moment bytes))) ends_none
      (subst (λ h. IsHeld (held_in new) (ended_held (ended_by l.end.end bytes) (held_after h held moment bytes))) holds.end.handed_on has.held)

  parts_received : IsLeftByParts settings.eid settings.handed_on All settings.window settings.keep answers new.count new.pending (held_in new) (Received moment bytes ∷ calls)
  parts_received =
      same_in_turn settings.eid settings.handed_on All settings.window settings.keep answers new.count new.pending (held_in new) (held_after settings.handed_on held moment bytes) (Received moment bytes ∷ calls) held_is_now
      (subst (λ n. IsLeftByParts settings.eid settings.handed_on All settings.window settings.keep answers n new.pending (held_after settings.handed_on held moment bytes) (Received moment bytes ∷ calls)) (sym count_is_now)
      (subst (λ p. IsLeftByParts settings.eid settings.handed_on All settings.window settings.keep answers (count_after settings.handed_on held moment bytes count) p (held_after settings.handed_on held moment bytes) (Received moment bytes ∷ calls)) (sym pending_is_now)
      (received_in_turn laws.feeds settings.eid settings.handed_on All settings.window settings.keep answers count pending held calls moment bytes parts free)))

  events_now : events settings.eid (Received moment bytes ∷ calls) ≡ reached {S = ℕ} longer
  events_now =
      ap (λ a. with_arrival a (events settings.eid calls)) arrives_back
      ∙ ap (λ es. Came m ∷ es) came_before
      ∙ sym (ap (λ o. with_reached moment o (reached {S = ℕ} log)) asked)

  asks_is : asks_at settings.handed_on log k ≡ asks_device settings.handed_on r.message
  asks_is = ap (asks_by settings.handed_on) asked

  -- ---- the log
  state_is : performed (device settings.handed_on answers) All settings.window settings.keep 0 (reached log) ≡ length (to_hand_out settings.handed_on settings.keep log)
  state_is = state_is_once (device settings.handed_on answers) settings.window settings.keep settings.pace.lifetime 0 log timely ∙ count_is settings.handed_on answers settings.keep log

  number_is : count ≡ length (to_hand_out settings.handed_on settings.keep log)
  number_is = parts.left.state ∙ ap (performed (device settings.handed_on answers) All settings.window settings.keep 0) came_before ∙ state_is

  -- ---- it asks something of the device
  module _ (task : Task) (rest : List Task) (now_first : first_now ≡ true) (its : tasks_of (hands_on settings.handed_on) r.message ≡ task ∷ rest) where
    asks_now : asked_now settings.handed_on held moment bytes ≡ task ∷ rest
    asks_now = asked_is ∙ cond-true first_now _ _ now_first ∙ its

    asking : step ≡ asking_step task (handle_of m count)
    asking = step_is_now ∙ (λ i. step_by (received_outcome (gives (hands_on settings.handed_on) unasked) held moment bytes) count (request_is i) (asks_now i))

    one_pending : new.pending ≡ map.insert pending (request_key_of m) (command_at m count task)
    one_pending = pending_is_now ∙ (λ i. pending_by pending count (request_is i) (asks_now i))

    out_is : l_after.handed_out ≡ l.handed_out ++ k ∷ []
    out_is = ap (handed_out_by l.handed_out k) asking ∙ asked_hands_out l.handed_out k task (handle_of m count)

    listed_asked : l_after.handed_out ≡ to_hand_out settings.handed_on settings.keep longer
    listed_asked =
        out_is ∙ ap (λ xs. xs ++ k ∷ []) holds.end.listed
        ∙ sym (cond-true (first_now && asks_at settings.handed_on log k) _ _ ((λ i. now_first i && (asks_is ∙ ap is_some_task its) i)))

    place_number : slice_get l_after.handed_out count ≡ Some k
    place_number =
        ap (λ xs. slice_get xs count) out_is
        ∙ ap (slice_get (l.handed_out ++ k ∷ [])) (number_is ∙ sym (ap (λ (xs : List ℕ). length xs) holds.end.listed))
        ∙ get_last l.handed_out k

    known_asked : AreKnown settings answers l_after
    known_asked = record {
      sent = λ n packets is. sent_moves settings answers n packets (Delivered moment k) log (holds.known.sent n packets (ap (λ f. f n) (sym (ap (sent_by (arrives_at ℕ settings.keep log moment k) l.sent k) asking ∙ asked_sends_none (arrives_at ℕ settings.keep log moment k) l.sent k task (handle_of m count))) ∙ is));
      not_ready = λ n packets is. not_ready_moves settings answers n packets (Delivered moment k) log (holds.known.not_ready n packets (ap (λ f. f n) (sym (ap (sent_by (not (arrives_at ℕ settings.keep log moment k)) l.not_ready k) asking ∙ asked_sends_none (not (arrives_at ℕ settings.keep log moment k)) l.not_ready k task (handle_of m count))) ∙ is));
      pending = λ s i a is. pending_at s i a (inserted pending (request_key_of m) (request_key s i) (command_at m count task) a (ap (λ p. map.get p (request_key s i)) (sym one_pending) ∙ is));
      fine = λ n q e. holds.known.fine n q e;
    }
      where
        pending_at : (s i : ℕ) (a : PendingCommand) → ((request_key s i ≡ request_key_of m) × (a ≡ command_at m count task)) ⊎ (map.get pending (request_key s i) ≡ Some a) → IsPending settings answers longer l_after.handed_out s a
        pending_at s i a (inl x) = record {
          k = k;
          r = r;
          place = log;
          asked = asked;
          came = first_place settings.handed_on answers settings.keep log moment k now_first;
          from = ap (λ (key : RequestKey). key.source) (sym x.0);
          tag = ap (λ (b : PendingCommand). b.tag) x.1;
          bytes = ap (λ (b : PendingCommand). b.request) x.1;
          number = ap (λ (b : PendingCommand). slice_get l_after.handed_out b.number) x.1 ∙ place_number;
        }
        pending_at s i a (inr was) =
            let x = holds.known.pending s i a was in
            let y = pending_moves settings answers l.handed_out s a (Delivered moment k) log x in
            record {
              k = y.k;
              r = y.r;
              place = y.place;
              asked = y.asked;
              came = y.came;
              from = y.from;
              tag = y.tag;
              bytes = y.bytes;
              number = ap (λ xs. slice_get xs a.number) out_is ∙ get_front l.handed_out k a.number (get_within l.handed_out a.number y.k y.number) ∙ y.number;
            }

  -- ---- it asks nothing
  module _ (none : asked_now settings.handed_on held moment bytes ≡ []) (none_out : (first_now && asks_at settings.handed_on log k) ≡ false) where
    abbrev gone_out : Outcome
    gone_out = received_outcome (gives (hands_on settings.handed_on) unasked) held moment bytes

    done_now : step ≡ taken.Done gone_out
    done_now = step_is_now ∙ done_where_none gone_out count (request_in held moment bytes) (asked_now settings.handed_on held moment bytes) none

    same_pending : new.pending ≡ pending
    same_pending = pending_is_now ∙ pending_where_none pending count (request_in held moment bytes) (asked_now settings.handed_on held moment bytes) none

    same_out : l_after.handed_out ≡ l.handed_out
    same_out = ap (handed_out_by l.handed_out k) done_now

    listed_done : l_after.handed_out ≡ to_hand_out settings.handed_on settings.keep longer
    listed_done = same_out ∙ holds.end.listed ∙ sym (cond-false (first_now && asks_at settings.handed_on log k) _ _ none_out)

    outcome_is : gone_out ≡ answer_expected (device settings.handed_on answers) settings.eid All settings.window settings.keep 0 (reached log) m
    outcome_is =
        unasked_looks_back laws.feeds settings.eid settings.handed_on All settings.window settings.keep answers count pending held calls moment bytes parts free none
        ∙ ap (outcome_expected (device settings.handed_on answers) settings.eid All settings.window settings.keep 0 (events settings.eid calls)) arrives_back
        ∙ ap (λ es. answer_expected (device settings.handed_on answers) settings.eid All settings.window settings.keep 0 es m) came_before

    serves_is : arrives_at ℕ settings.keep log moment k ≡ not busy
    serves_is = ap (λ o. arrives o busy) asked

    -- while it serves, the one message goes out
    abbrev given_now : List ℕ
    given_now = answered (device settings.handed_on answers) All settings.window settings.keep 0 (reached log) m

    goes_out : busy ≡ false → packets_of_outcome gone_out ≡ Some (packets_back settings.eid m given_now)
    goes_out idle = ap packets_of_outcome outcome_is ∙ expected_served (device settings.handed_on answers) settings.eid settings.window settings.keep 0 (reached {S = ℕ} log) m idle

    goes_busy : busy ≡ true → packets_of_outcome gone_out ≡ Some (packets_back settings.eid m (busy_reply m.bytes))
    goes_busy on = ap packets_of_outcome outcome_is ∙ expected_busy (device settings.handed_on answers) settings.eid settings.window settings.keep 0 (reached {S = ℕ} log) m on

    sent_here : busy ≡ false → IsSent settings answers longer k (packets_back settings.eid m given_now)
    sent_here idle = go (first ℕ settings.keep longer k) refl (arrived_here ℕ settings.keep log moment k r asked idle)
      where
        go : (f : Option (List Happening)) → first ℕ settings.keep longer k ≡ f → is_some (first ℕ settings.keep longer k) ≡ true → IsSent settings answers longer k (packets_back settings.eid m given_now)
        go None e arrived_now = absurd (let wrong : true ≡ false = sym arrived_now ∙ ap is_some e in cc)
        go (Some place) e arrived_now =
            let here : given (device settings.handed_on answers) settings.window settings.keep 0 longer k ≡ Some given_now = given_here (device settings.handed_on answers) settings.window settings.keep 0 log moment k r asked idle in
            let once = given_is_the_reply (device settings.handed_on answers) settings.window settings.keep settings.pace.lifetime 0 longer k longer_timely in
            let reply_now : Some given_now ≡ Some (reply_to settings answers longer k) = sym here ∙ once ∙ ap (option_map (λ (p : List Happening). reply_to settings answers longer k)) e in
            record { r = r; place = place; asked = asked; came = e; is = ap (packets_back settings.eid m) (let same : given_now ≡ reply_to settings answers longer k = cc in same) }

    sent_now : l_after.sent ≡ (if not busy then with_packets l.sent k (packets_of_outcome gone_out) else l.sent)
    sent_now = ap (sent_by (arrives_at ℕ settings.keep log moment k) l.sent k) done_now ∙ ap (λ b. if b then with_packets l.sent k (packets_of_outcome gone_out) else l.sent) serves_is

    not_ready_now : l_after.not_ready ≡ (if not (not busy) then with_packets l.not_ready k (packets_of_outcome gone_out) else l.not_ready)
    not_ready_now = ap (sent_by (not (arrives_at ℕ settings.keep log moment k)) l.not_ready k) done_now ∙ ap (λ b. if not b then with_packets l.not_ready k (packets_of_outcome gone_out) else l.not_ready) serves_is

    known_done : AreKnown settings answers l_after
    known_done = record {
      sent = λ n packets is. sent_at n packets busy refl (ap (λ f. f n) (sym sent_now) ∙ is);
      not_ready = λ n packets is. not_ready_at n packets busy refl (ap (λ f. f n) (sym not_ready_now) ∙ is);
      pending = λ s i a is.
          subst (λ xs. IsPending settings answers longer xs s a) (sym same_out)
          (pending_moves settings answers l.handed_out s a (Delivered moment k) log (holds.known.pending s i a (ap (λ p. map.get p (request_key s i)) (sym same_pending) ∙ is)));
      fine = λ n q e. holds.known.fine n q e;
    }
      where
        sent_at : (n : ℕ) (packets : List (List ℕ)) (b : Bool) → busy ≡ b → (if not busy then with_packets l.sent k (packets_of_outcome gone_out) else l.sent) n ≡ Some packets → IsSent settings answers longer n packets
        sent_at n packets true on is = sent_moves settings answers n packets (Delivered moment k) log (holds.known.sent n packets (sym (ap (λ c. (if not c then with_packets l.sent k (packets_of_outcome gone_out) else l.sent) n) on) ∙ is))
        sent_at n packets false idle is =
            let put_is : put l.sent k (Some (packets_back settings.eid m given_now)) n ≡ Some packets =
            sym (ap (λ c. (if not c then with_packets l.sent k (packets_of_outcome gone_out) else l.sent) n) idle ∙ ap (λ o. with_packets l.sent k o n) (goes_out idle)) ∙ is in
            ⊎_elim
            (λ (same : k ≡ n).
            let here : Some (packets_back settings.eid m given_now) ≡ Some packets = sym (put_here l.sent k (Some (packets_back settings.eid m given_now))) ∙ ap (put l.sent k (Some (packets_back settings.eid m given_now))) same ∙ put_is in
            subst (λ j. IsSent settings answers longer j packets) same (subst (IsSent settings answers longer k) (let e : packets_back settings.eid m given_now ≡ packets = cc in e) (sent_here idle)))
            (λ (other : k ≡ n → ⊥). sent_moves settings answers n packets (Delivered moment k) log (holds.known.sent n packets (sym (put_other l.sent k n (Some (packets_back settings.eid m given_now)) other) ∙ put_is)))
            (cases_eq k n)

        not_ready_at : (n : ℕ) (packets : List (List ℕ)) (b : Bool) → busy ≡ b → (if not (not busy) then with_packets l.not_ready k (packets_of_outcome gone_out) else l.not_ready) n ≡ Some packets → IsNotReady settings answers longer n packets
        not_ready_at n packets false idle is = not_ready_moves settings answers n packets (Delivered moment k) log (holds.known.not_ready n packets (sym (ap (λ c. (if not (not c) then with_packets l.not_ready k (packets_of_outcome gone_out) else l.not_ready) n) idle) ∙ is))
        not_ready_at n packets true on is =
            let put_is : put l.not_ready k (Some (packets_back settings.eid m (busy_reply m.bytes))) n ≡ Some packets =
            sym (ap (λ c. (if not (not c) then with_packets l.not_ready k (packets_of_outcome gone_out) else l.not_ready) n) on ∙ ap (λ o. with_packets l.not_ready k o n) (goes_busy on)) ∙ is in
            ⊎_elim
            (λ (same : k ≡ n).
            let here : Some (packets_back settings.eid m (busy_reply m.bytes)) ≡ Some packets = sym (put_here l.not_ready k (Some (packets_back settings.eid m (busy_reply m.bytes)))) ∙ ap (put l.not_ready k (Some (packets_back settings.eid m (busy_reply m.bytes)))) same ∙ put_is in
            subst (λ j. IsNotReady settings answers longer j packets) same
            (record { r = r; asked = asked; busy = busy_here (device settings.handed_on answers) settings.window settings.keep 0 log moment k r asked on; is = (let e : packets_back settings.eid m (busy_reply m.bytes) ≡ packets = cc in sym e) }))
            (λ (other : k ≡ n → ⊥). not_ready_moves settings answers n packets (Delivered moment k) log (holds.known.not_ready n packets (sym (put_other l.not_ready k n (Some (packets_back settings.eid m (busy_reply m.bytes))) other) ∙ put_is)))
            (cases_eq k n)

  -- ---- either way
  pub record Now : Type 0 where
    pub known : AreKnown settings answers l_after
    pub listed : l_after.handed_out ≡ to_hand_out settings.handed_on settings.keep longer

  now_is : Now
  now_is = go first_now (tasks_of (hands_on settings.handed_on) r.message) refl refl
    where
      go : (b : Bool) (ts : List Task) → first_now ≡ b → tasks_of (hands_on settings.handed_on) r.message ≡ ts → Now
      go true (task ∷ rest) on its = record { known = known_asked task rest on its; listed = listed_asked task rest on its }
      go true [] on its =
          let none = asked_is ∙ cond-true first_now _ _ on ∙ its in
          let out : (first_now && asks_at settings.handed_on log k) ≡ false = and_right first_now (asks_at settings.handed_on log k) (asks_is ∙ ap is_some_task its) in
          record { known = known_done none out; listed = listed_done none out }
      go false ts off its =
          let none = asked_is ∙ cond-false first_now (tasks_of (hands_on settings.handed_on) r.message) [] off in
          let out : (first_now && asks_at settings.handed_on log k) ≡ false = ap (λ b. b && asks_at settings.handed_on log k) off in
          record { known = known_done none out; listed = listed_done none out }

  -- ---- what the device's end makes fits packets
  fits_now : IsSoundLink settings answers l_after → (q : Asked) → asked_at log k ≡ Some q → is_fresh All settings.window settings.keep (reached {S = ℕ} log) (message_at moment q) ≡ true → FitsPackets (reply (device settings.handed_on answers) (performed (device settings.handed_on answers) All settings.window settings.keep 0 (reached log)) q.message)
  fits_now sound_after q e fresh =
      let same : r ≡ q = let both : Some r ≡ Some q = sym asked ∙ e in cc in
      subst (λ (a : Asked). FitsPackets (reply (device settings.handed_on answers) (performed (device settings.handed_on answers) All settings.window settings.keep 0 (reached log)) a.message)) same
      (subst (λ n. FitsPackets (reply (device settings.handed_on answers) n r.message)) (sym state_is) (go (asks_device settings.handed_on r.message) refl))
    where
      now_first : first_now ≡ true
      now_first = sym fresh_is ∙ subst (λ (a : Asked). is_fresh All settings.window settings.keep (reached {S = ℕ} log) (message_at moment a) ≡ true) (let back : q ≡ r = let both : Some q ≡ Some r = sym e ∙ asked in cc in back) fresh

      go : (b : Bool) → asks_device settings.handed_on r.message ≡ b → FitsPackets (reply (device settings.handed_on answers) (length (to_hand_out settings.handed_on settings.keep log)) r.message)
      go false none =
          subst FitsPackets (sym (refusal_is settings.handed_on answers (length (to_hand_out settings.handed_on settings.keep log)) r.message none))
          (refusal_fits settings.handed_on (request_of r.message) fine.readable.0 fine.readable.1 none)
      go true asks =
          let out : l_after.handed_out ≡ to_hand_out settings.handed_on settings.keep log ++ k ∷ [] = now_is.listed ∙ cond-true (first_now && asks_at settings.handed_on log k) _ _ (λ i. now_first i && (asks_is ∙ asks) i) in
          let here : slice_get l_after.handed_out (length (to_hand_out settings.handed_on settings.keep log)) ≡ Some k = ap (λ xs. slice_get xs (length (to_hand_out settings.handed_on settings.keep log))) out ∙ get_last (to_hand_out settings.handed_on settings.keep log) k in
          subst FitsPackets (sym (reply_is settings.handed_on answers (length (to_hand_out settings.handed_on settings.keep log)) r.message))
          (sound_after.fit (length (to_hand_out settings.handed_on settings.keep log)) k r here asked)

  pub received_holds : IsSoundLink settings answers l_after → Holds settings answers l_after moment (step_at moment (actions.Request k) ∷ steps)
  received_holds sound_after = record {
    known = now_is.known;
    end = record {
      calls = Received moment bytes ∷ calls;
      own = settings.eid;
      assigned = sound.device;
      parts = parts_received;
      asked_here = λ s i a is. refl;
      handed_on = has.settings.handed_on ∙ holds.end.handed_on;
      events = events_now;
      listed = now_is.listed;
    };
    as_scheduled = record {
      same = ap (λ w. done (setting settings answers) w moment (actions.Request k)) holds.as_scheduled.same;
      last = omega arith;
      log_last = omega arith;
      order = (let x = holds.as_scheduled.last in omega (arith, x, later), holds.as_scheduled.order);
      asks = (tt, holds.as_scheduled.asks);
      timely = (λ q e. subst (λ (w : World). ComesInTime ℕ settings.window settings.keep settings.pace.lifetime w.log moment k q) holds.as_scheduled.same (in_time q (ap (λ (w : World). asked_at w.log k) holds.as_scheduled.same ∙ e)), holds.as_scheduled.timely);
      fit = (fits_now sound_after, holds.as_scheduled.fit);
    };
  }
