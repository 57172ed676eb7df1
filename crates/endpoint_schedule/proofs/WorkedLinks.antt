-- The premises of the law are met by a run with a window of two: the packet of a request is repeated while it is pending,
-- the device answers two requests out of order, and restarts with a third one pending, which was handed on as bytes, and
-- whose answer nobody gets; its requester began anew. What no step delivers is lost. Steps have the newest first.
use Rattle.std.specs.FinMap as map
use Rattle.std.proofs.Common.{◌≡◌, ◌≢◌, ⊎_elim, ℕ, zero, suc, ◌+◌, ◌-◌, ◌%◌, ◌<◌, ◌≤◌, Bool, true, false, cond, List, [], ◌∷◌, length, Option, Some, None, Ok, refl, sym, ap, ◌∙◌, subst, inl, arith}
use Rattle.std.specs.Prelude.{◌&&◌, ◌||◌, ◌==◌, nat_lt, nat_le, is_some, option_map, slice_get, take, if◌then◌else◌}
use Rattle.std.proofs.lemmas.Bool.{and_parts, cases_Bool, cond-true, leb-true, ltb-true}
use Rattle.mctp_packet.specs.Laws.{SpelledIsReadFor, WrittenSpells}
use Rattle.mctp_packet.specs.Packets.{IsPacket, Packet, written}
use Rattle.mctp_packet.specs.Passing.{passed}
use Rattle.mctp_assembly.specs.Steps as assembly
use Rattle.pldm_endpoint.specs.Receiving.{HasAnswered, HasReceived, IsAsBefore}
use Rattle.pldm_endpoint.specs.Refusing.{asks_some, refused_by, refused_fresh, refused_request, refused_while}
use Rattle.pldm_endpoint.specs.RequestKeys.{PendingCommands, numbered, pending_at, request_key, request_key_cmp, request_key_of}
use Rattle.pldm_endpoint.specs.TwoSteps.{EndpointView, IsAskedBy, IsForCommand, IsHandedOn, IsOfCommand, asking_step, IsAnsweredBy, IsItsAnswer, answered_held, arrival_tasks, asked_now, command_at, entry_given, handle_of, held_after, held_in, kept_by, pending_by, request_at, step_by, stepped, task_for, unasked, waiting, with_waiting}
use Rattle.pldm_endpoint.specs.declared.pending_commands.PendingCommand.{PendingCommand}
use Rattle.pldm_endpoint.specs.declared.pending_commands.RequestKey.{RequestKey}
use Rattle.pldm_endpoint.specs.declared.step.CommandHandle.{CommandHandle}
use Rattle.pldm_endpoint.specs.declared.step.ReceiveRefusal.TheVariants.{Full, Sources, OpenMessages}
use Rattle.pldm_endpoint.specs.declared.step.Step.TheVariants as taken
use Rattle.pldm_endpoint.proofs.KeyOrder.{request_keys_total}
use Rattle.pldm_endpoint.proofs.PendingGlue.{just_put}
use Rattle.pldm_requester.specs.Asks.{ask_of}
use Rattle.pldm_requester.specs.Courses.{Answered, Waiting}
use Rattle.pldm_requester.specs.Numbering.{message_of, message_with}
use Rattle.pldm_requester.specs.Pacing.{at_default}
use Rattle.pldm_responder.specs.Arrivals.{Whole, is_expected, request_packet}
use Rattle.pldm_responder.specs.Asked.{Given, gives, listed}
use Rattle.pldm_responder.specs.Asked as asked_kinds
use Rattle.pldm_responder.specs.Events.{Message}
use Rattle.pldm_responder.specs.Ends.{count_with}
use Rattle.pldm_responder.specs.Looking.{ended_by}
use Rattle.pldm_responder.specs.Reserving.{is_past_sources}
use Rattle.pldm_responder.specs.OpenOrder.{begun_passed, ended_held, ended_passed, is_shut_out_passed}
use Rattle.pldm_responder.specs.OutsideAnswers.{message_in, outcome_of_answer}
use Rattle.pldm_responder.specs.Performing.{Perform, Respond, Task, tasks_of}
use Rattle.pldm_responder.specs.Recency.{renewed, replaced}
use Rattle.pldm_responder.specs.ResponderStates.{Entry, IsHeld, ResponderState, id_in}
use Rattle.pldm_responder.specs.Rooms.{AreRowsAfter}
use Rattle.pldm_responder.specs.Slots as slots
use Rattle.pldm_responder.specs.Slots.{answers_in}
use Rattle.pldm_responder.specs.Steps.{arrival_held, open_after, performs, received_arrival, received_outcome}
use Rattle.pldm_responder.specs.declared.bounds.Bounds.{Bounds}
use Rattle.mctp_packet.specs.declared.reason.Reason.TheVariants.{Short}
use Rattle.pldm_responder.specs.declared.outcome.Outcome.{Outcome}
use Rattle.pldm_responder.specs.declared.outcome.Outcome.TheVariants.{Dropped}
use Rattle.pldm_responder.specs.declared.responder_settings.ResponderSettings.{ResponderSettings}
use Rattle.mctp_assembly.specs.NumberLists.{NumberList, at}
use Rattle.pldm_wire.specs.CommandReading.{command_of}
use Rattle.pldm_wire.specs.HandingOn.{hands_on}
use Rattle.pldm_wire.specs.Headers.{id_at}
use Rattle.pldm_wire.specs.Commands.{kind_of}
use Rattle.pldm_wire.specs.Requests.{Request, request, request_of}
use Rattle.pldm_wire.specs.Responses.{response_of}
use Rattle.pldm_wire.specs.declared.pass_through.PassThrough.{PassThrough}
use Rattle.pldm_update.specs.Commands.{command_data}
use Rattle.pldm_update.specs.declared.command.UpdateCommand.TheVariants.{RequestFirmwareData}
use Rattle.pldm_wire.specs.declared.answer.Answer.TheVariants as the_answers
use Rattle.pldm_wire.specs.declared.command.Command.TheVariants.{GetTid}
use Rattle.pldm_wire.specs.declared.restart_policy.RestartPolicy.TheVariants.{All}
use Rattle.mctp_schedule.specs.Askers.{packet_bytes}
use Rattle.mctp_schedule.specs.Logs.{Asked, Happening, Opened, Delivered, Sensed, WentDown, asked_at, count_of, endpoint_of, message_at}
use Rattle.mctp_schedule.specs.OncePerformed.{FitsPackets}
use Rattle.mctp_schedule.specs.Timely.{ComesInTime}
use Rattle.mctp_schedule.specs.Worlds.{requests_of}
use Rattle.mctp_schedule.proofs.DeliveryChanges.{brings_message, held_whole, packet_for}
use Rattle.mctp_schedule.proofs.FirstPerformed.{request_opened}
use Rattle.mctp_schedule.proofs.PremiseTests.{all_from_requesters, all_rest, are_rested, sources_of}
use Rattle.endpoint_schedule.specs.FirmwareDevices.{piece_ask, piece_kind}
use Rattle.endpoint_schedule.specs.Links.{Answers, AreInTime, Assigns, Delivers, IsFirst, IsRun, IsShort, Link, LinkSettings, LinkStep, NeverGoesBack, Opens, Passes, Receives, Refuses, Restarts, link, over_time}
use Rattle.endpoint_schedule.specs.OverTime.{IsTimelyLink, reply_of}

-- requests of firmware update are handed on as bytes
abbrev pub handing : PassThrough
handing = record { pldm_types = 32; unknown_commands = false }

abbrev pub settings : LinkSettings
settings = record {
  eid = 9;
  keep = 1000;
  window = 2;
  handed_on = handing;
  requesters = record { eid = 8; timeout = 200; tries = 3 } ∷ [];
  pace = at_default 1000;
}

short : IsShort (ask_of GetTid)
short = record { kind = omega arith; few = omega arith }

short_piece : IsShort (piece_ask 0 32)
short_piece = record { kind = omega arith; few = omega arith }

-- to each asking it gives another terminus ID
abbrev given_for : ℕ → Given
given_for n = asked_kinds.Answered (the_answers.GetTid n)

abbrev pub keeping : ResponderSettings
keeping = record { keep = 1000; window = 2; busy = All }

abbrev pub limits : Bounds
limits = record { sources = 4; open_messages = 4 }

-- ---- the endpoint, with these answers kept to endpoint 8
abbrev row : Option (List Entry) → NumberList slots.Answers
row None = []
row (Some kept) = (8, record { window = 2; kept = kept }) ∷ []

abbrev kept_at : Option (List Entry) → List Entry
kept_at None = []
kept_at (Some kept) = kept

abbrev pub view : Option (List Entry) → PendingCommands → assembly.OpenMessages → (count serves last : ℕ) → EndpointView
view kept pending open_messages count serves last = record {
  end = record {
    own = 9;
    busy = All;
    keep = 1000;
    bounds = limits;
    ends_oldest = true;
    open_messages = open_messages;
    begun = [];
    rows = record { window = 2; places = 0; list = row kept };
    serves_from = serves;
    last = last;
  };
  handed_on = handing;
  pending = pending;
  count = count;
  max_pending = 4;
}

-- request n of endpoint 8, which was opened at a moment
abbrev pub asked_with : ℕ → ℕ → List ℕ → Asked
asked_with own opening message = record { source = 8; own = own; opening = opening; message = message }

abbrev asked : ℕ → ℕ → Asked
asked own opening = asked_with own opening (message_of own GetTid)

-- ---- the packet of a request comes, and is handed out
rows_by : (kept : Option (List Entry)) (now : List Entry) (source : ℕ) (b : Bool) → (8 == source) ≡ b → is_some (at (row (Some now)) source) ≡ (is_some (at (row kept) source) || (true && b))
rows_by None now source true on = ap (λ c. is_some {T = slots.Answers} (if c then Some (record { window = 2; kept = now }) else None)) on
rows_by None now source false off = ap (λ c. is_some {T = slots.Answers} (if c then Some (record { window = 2; kept = now }) else None)) off
rows_by (Some ks) now source true on = (λ i. is_some {T = slots.Answers} (if on i then Some (record { window = 2; kept = now }) else None)) ∙ sym (λ i. is_some {T = slots.Answers} (if on i then Some (record { window = 2; kept = ks }) else None) || true)
rows_by (Some ks) now source false off = (λ i. is_some {T = slots.Answers} (if off i then Some (record { window = 2; kept = now }) else None)) ∙ sym (λ i. is_some {T = slots.Answers} (if off i then Some (record { window = 2; kept = ks }) else None) || false)

kept_by_row : (kept : Option (List Entry)) (change : List Entry → List Entry) (source : ℕ) (b : Bool) → (8 == source) ≡ b
    → answers_in (at (row (Some (change (kept_at kept)))) source) ≡ (if b then change (answers_in (at (row kept) source)) else answers_in (at (row kept) source))
kept_by_row None change source true on = (λ i. answers_in (if on i then Some (record { window = 2; kept = change [] }) else None))
kept_by_row None change source false off = (λ i. answers_in (if off i then Some (record { window = 2; kept = change [] }) else None))
kept_by_row (Some ks) change source true on =
    (λ i. answers_in (if on i then Some (record { window = 2; kept = change ks }) else None))
    ∙ sym (λ i. change (answers_in (if on i then Some (record { window = 2; kept = ks }) else None)))
kept_by_row (Some ks) change source false off =
    (λ i. answers_in (if off i then Some (record { window = 2; kept = change ks }) else None))
    ∙ sym (λ i. answers_in (if off i then Some (record { window = 2; kept = ks }) else None))

has_room : (kept : Option (List Entry)) → is_past_sources (record { window = 2; places = 0; list = row kept }) 4 8 ≡ false
has_room None = refl
has_room (Some ks) = refl

one_source : (kept : Option (List Entry)) → count_with (record { window = 2; places = 0; list = row kept }) 8 ≡ 1
one_source None = refl
one_source (Some ks) = refl

module _ (spells : WrittenSpells) (read_for : SpelledIsReadFor) (kept : Option (List Entry)) (pending : PendingCommands) (open_messages : assembly.OpenMessages) (count last own opening moment : ℕ) (message : List ℕ) (some : 0 < length message) (short_one : length message ≤ 64) (read_as : Request) (reads : request_of message ≡ Ok read_as) (task : Task) where
  abbrev r : Asked
  r = asked_with own opening message

  abbrev m : Message
  m = message_at moment r

  abbrev bytes : List ℕ
  bytes = packet_bytes 8 9 own r.message

  abbrev old : EndpointView
  old = view kept pending open_messages count 0 last

  abbrev held : ResponderState (Unit {0})
  held = held_in old

  abbrev p : Packet
  p = packet_for 9 r

  abbrev a : PendingCommand
  a = command_at m count task

  abbrev change : List Entry → List Entry
  change entries = take 2 (renewed id_in (waiting m) entries)

  abbrev pub served_view : EndpointView
  served_view = view (Some (change (kept_at kept))) (map.insert pending (request_key_of m) a) (open_after open_messages (Ok p)) (count + 1) 0 moment

  read : request_packet 9 bytes ≡ Ok p
  read =
      let is_packet : IsPacket p = record { destination = (omega arith, omega arith); source = (omega arith, omega arith); tag = omega arith; seq = omega arith; payload = (omega (arith, some), omega (arith, short_one)) } in
      ap (passed is_expected) (read_for 9 p (written p) (spells p is_packet) (refl, omega arith))

  arrives_here : received_arrival held moment bytes ≡ Whole m
  arrives_here = brings_message spells read_for (assembly.answer open_messages) 9 moment r read_as (omega arith, omega arith) (omega arith, omega arith) (omega arith) (omega (arith, some)) (omega (arith, short_one)) reads (held_whole open_messages 9 r)

  module _ (free : map.get pending (request_key_of m) ≡ None) (few : nat_le 4 (map.len pending) ≡ false) (counts : (count == 18446744073709551615) ≡ false) (performing : performs held m ≡ true) (its : tasks_of (hands_on handing) r.message ≡ task ∷ []) (is_asked : IsAskedBy (asking_step task (handle_of m count)) served_view.pending (task ∷ [])) where
    tasks_is : arrival_tasks handing held (Whole m) ≡ task ∷ []
    tasks_is = cond-true (performs held m) (tasks_of (hands_on handing) r.message) [] performing ∙ its

    asked_is : asked_now handing held moment bytes ≡ task ∷ []
    asked_is = ap (arrival_tasks handing held) arrives_here ∙ tasks_is

    fresh_ok : refused_fresh old m ≡ None
    fresh_ok =
        (λ i. if (few i || counts i) && asks_some (tasks_of (hands_on handing) r.message) then Some Full else (if is_past_sources old.end.rows 4 8 then Some Sources else None))
        ∙ ap (λ b. if b then Some Sources else None) (has_room kept)

    accepted_now : refused_by old moment bytes ≡ None
    accepted_now =
        (λ i. if is_shut_out_passed old.end (read i) then Some OpenMessages else refused_request old (message_in (arrives_here i)))
        ∙ ap (refused_while old m) free
        ∙ cond-true (performs held m) (refused_fresh old m) None performing
        ∙ fresh_ok

    abbrev plain : ResponderState (Unit {0})
    plain = record (with_waiting held m) { open_messages = open_after open_messages (Ok p); last = moment }

    held_plain : IsHeld (held_in served_view) plain
    held_plain = record {
      own = refl;
      busy = refl;
      window = refl;
      keep = refl;
      open_messages = refl;
      kept = λ source. kept_by_row kept change source (8 == source) refl;
      state = refl;
      serves_from = refl;
      last = refl;
    }

    after_is : held_after handing held moment bytes ≡ plain
    after_is =
        (λ i. record (stepped handing held (arrives_here i)) { open_messages = open_after open_messages (read i); last = moment })
        ∙ ap (λ ts. record (kept_by ts m (arrival_held (gives (hands_on handing) unasked) held (Whole m)) held) { open_messages = open_after open_messages (Ok p); last = moment }) tasks_is

    rows_now : AreRowsAfter held old.end.rows (Whole m) served_view.end.rows
    rows_now = record {
      each = λ source. rows_by kept (change (kept_at kept)) source (8 == source) refl ∙ sym (ap (λ b. is_some (at (row kept) source) || (b && (8 == source))) performing);
      sources = sym (cond-true (performs held m) (count_with old.end.rows 8) (length old.end.rows.list) performing ∙ one_source kept);
    }

    pub served : HasReceived old moment bytes served_view (asking_step task (handle_of m count))
    served = record {
      accepted = accepted_now;
      step_is = sym (λ i. step_by (received_outcome (gives (hands_on handing) unasked) held moment bytes) count (message_in (arrives_here i)) (asked_is i));
      command = subst (IsAskedBy (asking_step task (handle_of m count)) served_view.pending) (sym asked_is) is_asked;
      held =
          subst (λ h. IsHeld (held_in served_view) (ended_held (ended_by old.end bytes) h)) (sym after_is)
          (subst (λ e. IsHeld (held_in served_view) (ended_held e plain)) (sym (ap (ended_passed old.end) read)) held_plain);
      begun = sym (ap (begun_passed old.end) read);
      pending = sym (λ i. pending_by pending count (message_in (arrives_here i)) (asked_is i));
      count = sym (ap (λ (ts : List Task). count + length ts) asked_is);
      room = subst (λ arrival. AreRowsAfter held old.end.rows arrival served_view.end.rows) (sym arrives_here) rows_now;
      settings = record { handed_on = refl; bounds = refl; ends_oldest = refl; max_pending = refl };
    }

-- ---- what is pending is a command, or a request that was handed on as bytes
asks_command : (pending : PendingCommands) (m : Message) (count : ℕ) → IsAskedBy (taken.Perform (handle_of m count)) (map.insert pending (request_key_of m) (command_at m count (Perform GetTid))) (Perform GetTid ∷ [])
asks_command pending m count =
    let put = just_put pending (request_key_of m) (command_at m count (Perform GetTid)) in
    (ap (λ o. listed (option_map task_for o)) put, subst IsOfCommand (sym put) refl)

pub asks_bytes : (pending : PendingCommands) (m : Message) (count : ℕ) (r : Request) → request_at m.bytes ≡ r → IsAskedBy (taken.Respond (handle_of m count)) (map.insert pending (request_key_of m) (command_at m count (Respond r))) (Respond r ∷ [])
asks_bytes pending m count r is =
    let put = just_put pending (request_key_of m) (command_at m count (Respond r)) in
    (ap (λ o. listed (option_map task_for o)) put ∙ ap (λ q. Respond q ∷ []) is, subst IsHandedOn (sym put) refl)

-- ---- the device answers
module _ (ks : List Entry) (pending : PendingCommands) (open_messages : assembly.OpenMessages) (count last : ℕ) (handle : CommandHandle) (eight : handle.source ≡ 8) (a : PendingCommand) (found : pending_at pending handle ≡ Some a) (given : Given) (fits_it : IsForCommand a.command given) where
  abbrev answering : EndpointView
  answering = view (Some ks) pending open_messages count 0 last

  abbrev pub answered_view : EndpointView
  answered_view = view (Some (replaced id_in (entry_given handing a given) ks)) (map.remove pending (request_key handle.source handle.id)) open_messages count 0 last

  abbrev outcome : Outcome
  outcome = outcome_of_answer (hands_on handing) 9 handle.source a.tag a.request given

  pub answered : HasAnswered answering handle given answered_view outcome
  answered = record {
    its_answer = subst (λ o. IsItsAnswer o given) (sym found) fits_it;
    outcome_is = subst (λ o. IsAnsweredBy handing 9 handle given o outcome) (sym found) refl;
    held = subst (λ o. IsHeld (held_in answered_view) (answered_held handing (held_in answering) handle given o)) (sym found) (record {
      own = refl;
      busy = refl;
      window = refl;
      keep = refl;
      open_messages = refl;
      kept = λ source.
          kept_by_row (Some ks) (replaced id_in (entry_given handing a given)) source (8 == source) refl
          ∙ ap (λ s. if s == source then replaced id_in (entry_given handing a given) ((held_in answering).kept source) else (held_in answering).kept source) (sym eight);
      state = refl;
      serves_from = refl;
      last = refl;
    });
    begun = refl;
    pending = refl;
    count = refl;
    room = λ source. same_rows source (8 == source) refl;
    sources = refl;
    settings = record { handed_on = refl; bounds = refl; ends_oldest = refl; max_pending = refl };
  }
    where
      same_rows : (source : ℕ) (b : Bool) → (8 == source) ≡ b → is_some (at (row (Some (replaced id_in (entry_given handing a given) ks))) source) ≡ is_some (at (row (Some ks)) source)
      same_rows source true on = (λ i. is_some {T = slots.Answers} (if on i then Some (record { window = 2; kept = replaced id_in (entry_given handing a given) ks }) else None)) ∙ sym (λ i. is_some {T = slots.Answers} (if on i then Some (record { window = 2; kept = ks }) else None))
      same_rows source false off = (λ i. is_some {T = slots.Answers} (if off i then Some (record { window = 2; kept = replaced id_in (entry_given handing a given) ks }) else None)) ∙ sym (λ i. is_some {T = slots.Answers} (if off i then Some (record { window = 2; kept = ks }) else None))

-- ---- nothing changes where a packet is refused
pub unchanged : (e : EndpointView) → IsAsBefore e e
unchanged e = record {
  held = record { own = refl; busy = refl; window = refl; keep = refl; open_messages = refl; kept = λ source. refl; state = refl; serves_from = refl; last = refl };
  begun = refl;
  pending = refl;
  count = refl;
  room = record { window = refl; rows = λ source. refl; sources = refl };
  settings = record { handed_on = refl; bounds = refl; ends_oldest = refl; max_pending = refl };
}

-- ---- the run
pub below : (n : ℕ) → n ≤ 3 → nat_le 4 n ≡ false
below n few = ⊎_elim (λ (t : nat_le 4 n ≡ true). absurd (let more = leb-true 4 n t in omega (arith, more, few))) (λ (f : nat_le 4 n ≡ false). f) (cases_Bool (nat_le 4 n))

pub more : (pending : PendingCommands) (key : RequestKey) (a : PendingCommand) (n : ℕ) → map.len pending ≤ n → map.len (map.insert pending key a) ≤ n + 1
more pending key a n few = subst (λ l. l ≤ n + 1) (sym (map.len-insert request_keys_total pending key a)) (go (map.contains_key pending key))
  where
    go : (b : Bool) → cond b (map.len pending) (map.len pending + 1) ≤ n + 1
    go true = omega (arith, few)
    go false = omega (arith, few)

fewer : (pending : PendingCommands) (key : RequestKey) (n : ℕ) → map.len pending ≤ n → map.len (map.remove pending key) ≤ n
fewer pending key n few = subst (λ l. l ≤ n) (sym (map.len-remove request_keys_total pending key)) (go (map.contains_key pending key))
  where
    go : (b : Bool) → cond b (map.len pending - 1) (map.len pending) ≤ n
    go true = omega (arith, few)
    go false = few

abbrev pub first_end : EndpointView
first_end = view None map.empty map.empty 0 0 0

abbrev key : ℕ → RequestKey
key own = request_key 8 (id_at (message_of own GetTid))

abbrev pends : ℕ → ℕ → ℕ → PendingCommand
pends own opening moment = command_at (message_at moment (asked own opening)) own (Perform GetTid)

abbrev one_pending : PendingCommands
one_pending = map.insert map.empty (key 0) (pends 0 0 1)

abbrev two_pending : PendingCommands
two_pending = map.insert one_pending (key 1) (pends 1 3 4)

abbrev open_one : assembly.OpenMessages
open_one = open_after map.empty (Ok (packet_for 9 (asked 0 0)))

abbrev open_two : assembly.OpenMessages
open_two = open_after open_one (Ok (packet_for 9 (asked 1 3)))

abbrev kept_one : List Entry
kept_one = take 2 (renewed id_in (waiting (message_at 1 (asked 0 0))) [])

abbrev kept_two : List Entry
kept_two = take 2 (renewed id_in (waiting (message_at 4 (asked 1 3))) kept_one)

abbrev handle : ℕ → CommandHandle
handle own = record { source = 8; id = id_at (message_of own GetTid); number = own }

abbrev one_left : PendingCommands
one_left = map.remove two_pending (key 1)

abbrev none_left : PendingCommands
none_left = map.remove one_left (key 0)

abbrev kept_three : List Entry
kept_three = replaced id_in (entry_given handing (pends 1 3 4) (given_for 1)) kept_two

abbrev kept_four : List Entry
kept_four = replaced id_in (entry_given handing (pends 0 0 1) (given_for 0)) kept_three

abbrev served_one : EndpointView
served_one = view (Some kept_one) one_pending open_one 1 0 1

abbrev served_two : EndpointView
served_two = view (Some kept_two) two_pending open_two 2 0 4

abbrev answered_one : EndpointView
answered_one = view (Some kept_three) one_left open_two 2 0 4

abbrev answered_both : EndpointView
answered_both = view (Some kept_four) none_left open_two 2 0 4

-- the third request asks for a piece of an image. Its requester began anew at endpoint 8, and is its second one
abbrev piece_request : Request
piece_request = request 0 piece_kind (command_data (RequestFirmwareData 0 32))

abbrev third : Asked
third = record (asked_with 0 2009 (message_with 0 (piece_ask 0 32))) { source = 264 }

-- at the device's end its message is one from endpoint 8
abbrev third_here : Asked
third_here = record third { source = 8 }

abbrev third_pending : PendingCommands
third_pending = map.insert none_left (key 0) (command_at (message_at 2010 third_here) 2 (Respond piece_request))

abbrev third_handle : CommandHandle
third_handle = record { source = 8; id = 0; number = 2 }

abbrev served_third : EndpointView
served_third = view (Some (take 2 (renewed id_in (waiting (message_at 2010 third_here)) kept_four))) third_pending (open_after open_two (Ok (packet_for 9 third_here))) 3 0 2010

abbrev restarted : EndpointView
restarted = view None map.empty map.empty 3 3011 2011

abbrev passed_by : EndpointView
passed_by = view None map.empty map.empty 3 3011 2012

-- it has the endpoint ID 10 from now on
abbrev assigned : EndpointView
assigned = let at_nine = view None map.empty map.empty 3 3013 2013 in record at_nine { end = record at_nine.end { own = 10 } }

abbrev goes_out : PendingCommand → ℕ → Outcome
goes_out a n = outcome_of_answer (hands_on handing) 9 8 a.tag a.request (given_for n)

abbrev past_first : List LinkStep
past_first = Opens 0 8 (ask_of GetTid) ∷ []

abbrev past_second : List LinkStep
past_second = Opens 3 8 (ask_of GetTid) ∷ Refuses 2 served_one ∷ Receives 1 0 served_one (taken.Perform (handle 0)) ∷ past_first

abbrev past_answers : List LinkStep
past_answers =
    Answers 6 (handle 0) answered_both (goes_out (pends 0 0 1) 0) ∷ Answers 5 (handle 1) answered_one (goes_out (pends 1 3 4) 1)
    ∷ Receives 4 1 served_two (taken.Perform (handle 1)) ∷ past_second

abbrev past_first_answer : List LinkStep
past_first_answer = Delivers 7 0 1 ∷ past_answers

abbrev past_third : List LinkStep
past_third = Opens 2009 264 (piece_ask 0 32) ∷ Delivers 8 0 0 ∷ past_first_answer

abbrev past_restart : List LinkStep
past_restart = Restarts 2011 restarted ∷ Receives 2010 2 served_third (taken.Respond third_handle) ∷ past_third

abbrev past_assigned : List LinkStep
past_assigned = Passes 2012 [] passed_by (taken.Done (Dropped Short)) ∷ past_restart

abbrev steps : List LinkStep
steps = Assigns 2013 10 assigned ∷ past_assigned

-- ---- bytes come that are no packet
no_packet : HasReceived restarted 2012 [] passed_by (taken.Done (Dropped Short))
no_packet = record {
  accepted = refl;
  step_is = refl;
  command = refl;
  held = record { own = refl; busy = refl; window = refl; keep = refl; open_messages = refl; kept = λ source. refl; state = refl; serves_from = refl; last = refl };
  begun = refl;
  pending = refl;
  count = refl;
  room = record { each = λ source. refl; sources = refl };
  settings = record { handed_on = refl; bounds = refl; ends_oldest = refl; max_pending = refl };
}

same : (P : Asked → Type 0) (q : Asked) → P q → (r : Asked) → Some q ≡ Some r → P r
same P q x r e = subst P (let y : q ≡ r = cc in y) x

abbrev there : List LinkStep → Link
there past = link settings given_for first_end past

-- ---- each call
abbrev reads : (own : ℕ) → Type 0
reads own = request_of (message_of own GetTid) ≡ Ok (request own (kind_of GetTid) [])

reads_0 : reads 0
unfolding request_of
reads_0 = refl

reads_1 : reads 1
unfolding request_of
reads_1 = refl

reads_2 : request_of third.message ≡ Ok piece_request
unfolding request_of
reads_2 = refl

at_2 : request_at third.message ≡ piece_request
unfolding request_of
at_2 = refl

abbrev asks : (own : ℕ) → Type 0
asks own = tasks_of (hands_on handing) (message_of own GetTid) ≡ Perform GetTid ∷ []

asks_0 : asks 0
unfolding request_of command_of
asks_0 = refl

asks_1 : asks 1
unfolding request_of command_of
asks_1 = refl

asks_2 : tasks_of (hands_on handing) third.message ≡ Respond piece_request ∷ []
unfolding request_of command_of
asks_2 = refl

len_one : map.len one_pending ≤ 1
len_one = more map.empty (key 0) (pends 0 0 1) 0 (let l = map.len-empty request_key_cmp PendingCommand in omega (arith, l))

len_none : map.len none_left ≤ 2
len_none = fewer one_left (key 0) 2 (fewer two_pending (key 1) 2 (more one_pending (key 1) (pends 1 3 4) 1 len_one))

one_there : map.get one_pending (key 0) ≡ Some (pends 0 0 1)
one_there = map.get-insert request_keys_total map.empty (key 0) (pends 0 0 1) (key 0)

free_1 : map.get one_pending (key 1) ≡ None
free_1 = map.get-insert request_keys_total map.empty (key 0) (pends 0 0 1) (key 1) ∙ map.get-empty request_key_cmp (key 1)

free_2 : map.get none_left (key 0) ≡ None
free_2 = map.get-remove request_keys_total one_left (key 0) (key 0)

found_1 : pending_at two_pending (handle 1) ≡ Some (pends 1 3 4)
found_1 = just_put one_pending (key 1) (pends 1 3 4)

found_0 : pending_at one_left (handle 0) ≡ Some (pends 0 0 1)
found_0 =
    ap (numbered 0)
    (map.get-remove request_keys_total two_pending (key 1) (key 0) ∙ map.get-insert request_keys_total one_pending (key 1) (pends 1 3 4) (key 0) ∙ one_there)

module _ (spells : WrittenSpells) (read_for : SpelledIsReadFor) where
  first_served : HasReceived first_end 1 (packet_bytes 8 9 0 (message_of 0 GetTid)) served_one (taken.Perform (handle 0))
  first_served = served spells read_for None map.empty map.empty 0 0 0 0 1 (message_of 0 GetTid) (omega arith) (omega arith) (request 0 (kind_of GetTid) []) reads_0 (Perform GetTid) (map.get-empty request_key_cmp (key 0)) (ap (nat_le 4) (map.len-empty request_key_cmp PendingCommand)) refl refl asks_0 (asks_command map.empty (message_at 1 (asked 0 0)) 0)

  second_served : HasReceived served_one 4 (packet_bytes 8 9 1 (message_of 1 GetTid)) served_two (taken.Perform (handle 1))
  second_served = served spells read_for (Some kept_one) one_pending open_one 1 1 1 3 4 (message_of 1 GetTid) (omega arith) (omega arith) (request 1 (kind_of GetTid) []) reads_1 (Perform GetTid) free_1 (below (map.len one_pending) (let l = len_one in omega (arith, l))) refl refl asks_1 (asks_command one_pending (message_at 4 (asked 1 3)) 1)

  third_served : HasReceived answered_both 2010 (packet_bytes 8 9 0 third.message) served_third (taken.Respond third_handle)
  third_served = served spells read_for (Some kept_four) none_left open_two 2 4 0 2009 2010 third.message (omega arith) (omega arith) piece_request reads_2 (Respond piece_request) free_2 (below (map.len none_left) (let l = len_none in omega (arith, l))) refl refl asks_2 (asks_bytes none_left (message_at 2010 third_here) 2 piece_request at_2)

  is_run : IsRun settings given_for first_end past_restart
  unfolding request_of command_of response_of
  is_run = (
    (
      record { own = refl; busy = refl; window = refl; keep = refl; open_messages = refl; kept = λ source. refl; state = refl; serves_from = refl; last = refl },
      record { idle = refl; begun = refl; no_rows = refl; count = refl; settings = record { handed_on = refl; bounds = refl; ends_oldest = refl; max_pending = refl } },
    ),
    (
      (third, refl, refl, third_served),
      (
        short_piece,
        (
          tt,
          (
            tt,
            (
              answered kept_three one_left open_two 2 4 (handle 0) refl (pends 0 0 1) found_0 (given_for 0) refl,
              (
                answered kept_two two_pending open_two 2 4 (handle 1) refl (pends 1 3 4) found_1 (given_for 1) refl,
                (
                  (asked 1 3, refl, refl, second_served),
                  (
                    short,
                    (
                      unchanged served_one,
                      ((asked 0 0, refl, refl, first_served), (short, tt)),
                    ),
                  ),
                ),
              ),
            ),
          ),
        ),
      ),
    ),
  )

-- ---- in time
-- no requester begins anew
abbrev pub all_first : List Happening → Bool
all_first [] = true
all_first (Opened r ∷ past) = nat_lt r.source 256 && all_first past
all_first (_ ∷ past) = all_first past

pub first_each : (log : List Happening) → all_first log ≡ true → (k : ℕ) (r : Asked) → asked_at log k ≡ Some r → r.source < 256
first_each [] t k r is = absurd (cc)
first_each (Opened q ∷ past) t k r is =
    let parts = and_parts (nat_lt q.source 256) (all_first past) t in
    ⊎_elim
    (λ (x : (k ≡ count_of past) × (q ≡ r)). subst (λ (o : Asked). o.source < 256) x.1 (ltb-true q.source 256 parts.0))
    (λ (x : (k ≢ count_of past) × (asked_at past k ≡ Some r)). first_each past parts.1 k r x.1)
    (request_opened q past k r is)
first_each (Delivered moment n ∷ past) t k r is = first_each past t k r is
first_each (Sensed moment id value ∷ past) t k r is = first_each past t k r is
first_each (WentDown moment ∷ past) t k r is = first_each past t k r is

pub none_anew : (log : List Happening) → all_first log ≡ true → (k : ℕ) (r q : Asked) (i : ℕ) → asked_at log k ≡ Some r → asked_at log i ≡ Some q → endpoint_of q.source ≡ endpoint_of r.source → r.source < q.source → q.own % 8 ≢ r.own % 8
none_anew log first k r q i is its same later = absurd (let a = first_each log first k r is in let b = first_each log first i q its in omega (arith, a, b, same, later))

in_order : NeverGoesBack steps
in_order = (omega arith, (omega arith, (omega arith, (omega arith, (omega arith, (omega arith, (omega arith, (omega arith, (omega arith, (omega arith, (omega arith, (omega arith, (omega arith, (omega arith, tt))))))))))))))

are_in_time : AreInTime settings given_for first_end past_restart
unfolding request_of command_of response_of
are_in_time = (
  tt,
  (
    λ r e. same (ComesInTime ℕ 2 1000 1000 (there past_third).world.log 2010 2) third (record { soon = omega arith; in_window = λ arrived. absurd (cc) }) r e,
    (
      tt,
      (
        λ bytes is. record { own = λ r e. same (λ q. (requests_of (over_time settings given_for) (there past_first_answer).world q.source).count ≤ q.own + 8) (asked 0 0) (omega arith) r e; anew = none_anew (there past_first_answer).world.log refl 0 },
        (
          λ bytes is. record { own = λ r e. same (λ q. (requests_of (over_time settings given_for) (there past_answers).world q.source).count ≤ q.own + 8) (asked 1 3) (omega arith) r e; anew = none_anew (there past_answers).world.log refl 1 },
          (
            tt,
            (
              tt,
              (
                λ r e. same (ComesInTime ℕ 2 1000 1000 (there past_second).world.log 4 1) (asked 1 3) (record { soon = omega arith; in_window = λ arrived. absurd (cc) }) r e,
                (
                  tt,
                  (
                    tt,
                    (
                      λ r e. same (ComesInTime ℕ 2 1000 1000 (there past_first).world.log 1 0) (asked 0 0) (record { soon = omega arith; in_window = λ arrived. absurd (cc) }) r e,
                      (tt, tt),
                    ),
                  ),
                ),
              ),
            ),
          ),
        ),
      ),
    ),
  ),
)

-- ---- what the device gives fits
abbrev fits : (own n : ℕ) → Type 0
fits own n = FitsPackets (reply_of handing (given_for n) (message_of own GetTid))

fits_0 : fits 0 0
unfolding request_of command_of
fits_0 = record { some = omega arith; few = omega arith }

fits_1 : fits 1 1
unfolding request_of command_of
fits_1 = record { some = omega arith; few = omega arith }

fits_2 : FitsPackets (reply_of handing (given_for 2) third.message)
unfolding request_of command_of
fits_2 = record { some = omega arith; few = omega arith }

all_fit : (n k : ℕ) (r : Asked) → slice_get (there steps).handed_out n ≡ Some k → asked_at (there steps).world.log k ≡ Some r → FitsPackets (reply_of handing (given_for n) r.message)
unfolding request_of command_of response_of
all_fit zero k r out e = same (λ q. FitsPackets (reply_of handing (given_for 0) q.message)) (asked 0 0) fits_0 r (let at : k ≡ 0 = cc in ap (asked_at (there steps).world.log) (sym at) ∙ e)
all_fit (suc zero) k r out e = same (λ q. FitsPackets (reply_of handing (given_for 1) q.message)) (asked 1 3) fits_1 r (let at : k ≡ 1 = cc in ap (asked_at (there steps).world.log) (sym at) ∙ e)
all_fit (suc (suc zero)) k r out e = same (λ q. FitsPackets (reply_of handing (given_for 2) q.message)) third fits_2 r (let at : k ≡ 2 = cc in ap (asked_at (there steps).world.log) (sym at) ∙ e)
all_fit (suc (suc (suc n))) k r out e = absurd (cc)

from_eight : all_from_requesters 9 (there steps).world.log ≡ true
unfolding request_of command_of response_of
from_eight = refl

rested : all_rest 1000 (there steps).world.log ≡ true
unfolding request_of command_of response_of
rested = refl

is_met : WrittenSpells → SpelledIsReadFor → IsTimelyLink settings given_for first_end steps
is_met spells read_for = record {
  run = (
    (
      (omega arith, omega arith),
      record { own = refl; busy = refl; window = refl; keep = refl; open_messages = refl; kept = λ source. refl; state = refl; serves_from = refl; last = refl },
      record { idle = refl; begun = refl; no_rows = refl; count = refl; settings = record { handed_on = refl; bounds = refl; ends_oldest = refl; max_pending = refl } },
    ),
    ((no_packet, refl), is_run spells read_for),
  );
  order = in_order;
  in_time = (tt, (tt, are_in_time));
  sound = record {
    device = (omega arith, omega arith);
    sources = sources_of 9 (there steps).world.log from_eight;
    fit = all_fit;
    pace = record { within = omega arith; window = inl (omega arith) };
    rested = are_rested 1000 (there steps).world.log rested;
  };
}

pub is_first : IsFirst settings keeping limits 4 first_end
is_first = record {
  new = record {
    held = record { own = refl; busy = refl; window = refl; keep = refl; open_messages = refl; kept = λ source. refl; state = refl; serves_from = refl; last = refl };
    handed_on = refl;
    bounds = refl;
    ends_oldest = refl;
    max_pending = refl;
    idle = refl;
    count = refl;
    begun = refl;
    no_rows = refl;
  };
  busy = refl;
  window = refl;
  keep = refl;
}

-- both answers were taken, each as that of its own request, and the third request is open
first_taken : ((requests_of (over_time settings given_for) (there steps).world 8).each 0).course.progress ≡ Answered (0x01 ∷ 0x00 ∷ 0x00 ∷ 0x02 ∷ 0x00 ∷ 0x00 ∷ [])
unfolding request_of command_of response_of
first_taken = refl

second_taken : ((requests_of (over_time settings given_for) (there steps).world 8).each 1).course.progress ≡ Answered (0x01 ∷ 0x01 ∷ 0x00 ∷ 0x02 ∷ 0x00 ∷ 0x01 ∷ [])
unfolding request_of command_of response_of
second_taken = refl

third_waits : ((requests_of (over_time settings given_for) (there steps).world 264).each 0).course.progress ≡ Waiting
unfolding request_of command_of response_of
third_waits = refl
