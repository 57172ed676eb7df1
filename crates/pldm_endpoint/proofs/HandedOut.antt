-- What an endpoint is after a fresh request had something asked of the device.
use Rattle.std.specs.FinMap as map
use Rattle.std.proofs.Common.{◌≡◌, ℕ, ◌+◌, Bool, true, false, cond, not, ◌<◌, nat_le, ◌&&◌, ◌||◌, ◌==◌, List, [], ◌∷◌, length, Option, Some, None, is_some, option_map, IsSome, if◌then◌else◌, refl, sym, ap, ◌∙◌, subst, arith}
use Rattle.std.specs.Prelude.{take}
use Rattle.std.proofs.lemmas.Bool.{leb-false, leb-true}
use Rattle.pldm_wire.specs.HandingOn.{hands_on}
use Rattle.pldm_wire.specs.Headers.{id_at}
use Rattle.pldm_wire.specs.declared.assigned.TheConstants.{INSTANCE_IDS}
use Rattle.pldm_wire.specs.declared.command.Command.{Command}
use Rattle.pldm_responder.specs.Arrivals.{Whole}
use Rattle.pldm_responder.specs.Asked.{gives, listed}
use Rattle.pldm_responder.specs.Ends.{AreSameRows, ChangesOnlyAnswers, End, GetsRoom, IsSameEnd, count_with, has_row}
use Rattle.pldm_responder.specs.Events.{Message}
use Rattle.pldm_responder.specs.ResponderStates.{Entry, ResponderState, IsHeld, id_in}
use Rattle.pldm_responder.specs.Looking.{end_finished, message_at}
use Rattle.pldm_responder.specs.Performing.{Perform, Respond, Task, tasks_of}
use Rattle.pldm_responder.specs.Recency.{renewed}
use Rattle.pldm_responder.specs.Requested.{Requested}
use Rattle.pldm_responder.specs.Reserving.{IsRoomFor, IsWithinSources, is_past_sources}
use Rattle.pldm_responder.specs.Slots.{Answers, Rows, answers_in, in_front, kept_in, source_count}
use Rattle.pldm_responder.specs.Steps.{arrival_held, message_outcome, performs}
use Rattle.pldm_endpoint.specs.Receiving.{HasServed}
use Rattle.pldm_endpoint.specs.Refusing.{is_full, refused_fresh, refused_while}
use Rattle.pldm_endpoint.specs.RequestKeys.{PendingCommands, numbered, pending_at, request_key_of}
use Rattle.pldm_endpoint.specs.Stepping.{StepHasReply, stepping}
use Rattle.pldm_endpoint.specs.TwoSteps.{ArePending, ArePendingAt, EndpointView, IsAskedBy, IsHandedOn, IsOfCommand, arrival_tasks, asking_step, command_at, command_in, handle_of, held_in, kept_by, pending_by, step_by, task_for, task_in, unasked, waiting}
use Rattle.pldm_endpoint.specs.declared.pending_commands.PendingCommand.{PendingCommand}
use Rattle.pldm_endpoint.specs.declared.step.ReceiveRefusal.{ReceiveRefusal}
use Rattle.pldm_endpoint.specs.declared.step.CommandHandle.{CommandHandle}
use Rattle.pldm_endpoint.specs.declared.step.MessageStep.{MessageStep}
use Rattle.pldm_endpoint.specs.declared.step.MessageStep.TheVariants as message_step
use Rattle.pldm_endpoint.proofs.PendingGlue.{just_put, pending_with}

-- ---- the end gets room for the source, an answer is kept in front, and the request is ended
module _ (old reserved with_room kept finished : End) (moment : ℕ) (r : Requested) (entry : Entry) (same : IsSameEnd reserved old)
    (room : GetsRoom r.source with_room reserved) (keeps : ChangesOnlyAnswers r.source (in_front with_room.rows.window entry) kept with_room)
    (done : finished ≡ end_finished kept moment r) where
  rows_are : finished.rows ≡ kept.rows
  rows_are = ap (λ (e : End). e.rows) done

  window_was : with_room.rows.window ≡ old.rows.window
  window_was = room.gets.window ∙ same.rows.window

  kept_was : (other : ℕ) → kept_in with_room.rows other ≡ kept_in old.rows other
  kept_was other = room.gets.kept other ∙ ap answers_in (same.rows.rows other)

  pub is_in_front : (other : ℕ) → kept_in finished.rows other ≡ (if r.source == other then take old.rows.window (renewed id_in entry (kept_in old.rows other)) else kept_in old.rows other)
  is_in_front other =
      ap (λ rows. kept_in rows other) rows_are
      ∙ keeps.kept other
      ∙ (λ i. if r.source == other then take (window_was i) (renewed id_in entry (kept_was other i)) else kept_was other i)

  pub window_is : finished.rows.window ≡ old.rows.window
  window_is = ap (λ (rows : Rows). rows.window) rows_are ∙ keeps.window ∙ window_was

  pub has_rows : (other : ℕ) → has_row finished.rows other ≡ (has_row old.rows other || r.source == other)
  has_rows other =
      ap (λ rows. has_row rows other) rows_are ∙ keeps.rows other ∙ room.gets.rows other
      ∙ ap (λ t. is_some t || r.source == other) (same.rows.rows other)

  pub sources_are : source_count finished.rows ≡ count_with old.rows r.source
  sources_are =
      ap source_count rows_are ∙ keeps.sources
      ∙ room.gets.sources
      ∙ ap (λ t. cond (is_some t) (source_count reserved.rows) (source_count reserved.rows + 1)) (same.rows.rows r.source)
      ∙ ap (λ n. cond (has_row old.rows r.source) n (n + 1)) same.rows.sources

  pub finished_is : record finished { rows = old.rows } ≡ end_finished old moment r
  finished_is =
      ap (λ (e : End). record e { rows = old.rows }) done
      ∙ ap (λ (e : End). end_finished (record e { rows = old.rows }) moment r) keeps.rest
      ∙ ap (λ (e : End). end_finished (record e { rows = old.rows }) moment r) room.rest
      ∙ ap (λ (e : End). end_finished e moment r) same.same

-- ---- there is room for the source
room_by : (full past : Bool) → past ≡ false → (full && past) ≡ false
room_by true past h = h
room_by false past h = refl

not_past : (rows : Rows) (max source : ℕ) (row : Option Answers) → IsRoomFor rows source row → IsWithinSources rows max row → is_past_sources rows max source ≡ false
not_past rows max source None some within = ap (λ t. not t && nat_le max (source_count rows)) some
not_past rows max source (Some row) room within = room_by (not (has_row rows source)) (nat_le max (source_count rows)) (beyond max (source_count rows) within)
  where
    beyond : (max count : ℕ) → count < max → nat_le max count ≡ false
    beyond max count lt = by_test (nat_le max count) refl
      where
        by_test : (t : Bool) → nat_le max count ≡ t → t ≡ false
        by_test false h = refl
        by_test true h = absurd (omega (arith, lt, leb-true max count h))

pub room_is_within : (new old : Rows) (max source : ℕ) (row : Option Answers) → AreSameRows new old → IsRoomFor new source row → IsWithinSources new max row → is_past_sources old max source ≡ false
room_is_within new old max source row same room within =
    ap (λ r. not (is_some r) && nat_le max (source_count old)) (sym (same.rows source))
    ∙ ap (λ n. not (has_row new source) && nat_le max n) (sym same.sources)
    ∙ not_past new max source row room within

-- ---- what was handed out
-- the step that hands it out
abbrev pub handing_step : Task → CommandHandle → MessageStep
handing_step (Perform command) handle = message_step.Perform handle
handing_step (Respond request) handle = message_step.Respond handle

step_of : (reply : List ℕ) (task : Task) (handle : CommandHandle) → stepping reply (handing_step task handle) ≡ asking_step task handle
step_of reply (Perform command) handle = refl
step_of reply (Respond request) handle = refl

no_reply : (reply : List ℕ) (task : Task) (handle : CommandHandle) → StepHasReply reply (handing_step task handle)
no_reply reply (Perform command) handle = tt
no_reply reply (Respond request) handle = tt

asked_at : (reply : List ℕ) (task : Task) (handle : CommandHandle) (pending : PendingCommands) (tasks : List Task) (a : PendingCommand) → pending_at pending handle ≡ Some a → a.command ≡ command_in task
    → ArePendingAt pending handle tasks → IsAskedBy (stepping reply (handing_step task handle)) pending tasks
asked_at reply (Perform command) handle pending tasks a is named are = (are, subst IsOfCommand (sym is) (subst (λ o. IsSome o) (sym named) refl))
asked_at reply (Respond request) handle pending tasks a is named are = (are, subst IsHandedOn (sym is) named)

pub step_asked : (command : Option Command) (bytes : List ℕ) (handle : CommandHandle)
    → (if is_some command then message_step.Perform handle else message_step.Respond handle) ≡ handing_step (task_in command bytes) handle
step_asked None bytes handle = refl
step_asked (Some command) bytes handle = refl

pub same_command : (command : Option Command) (bytes : List ℕ) → command_in (task_in command bytes) ≡ command
same_command None bytes = refl
same_command (Some command) bytes = refl

past_by : (full past : Bool) (f s n : Option ReceiveRefusal) → full ≡ false → past ≡ false → (if full then f else (if past then s else n)) ≡ n
past_by false false f s n h g = refl
past_by true past f s n h g = cc
past_by false true f s n h g = cc

neither : (full asked : Bool) → full ≡ false → (full && asked) ≡ false
neither false asked h = refl
neither true asked h = cc

module _ (old new : EndpointView) (moment : ℕ) (r : Requested) (command : Option Command) (reply : List ℕ)
    (free : map.get old.pending (request_key_of (message_at moment r)) ≡ None)
    (fresh : performs (held_in old) (message_at moment r) ≡ true) (asked : tasks_of (hands_on old.handed_on) r.bytes ≡ task_in command r.bytes ∷ [])
    (vacant : is_full old ≡ false) (within : is_past_sources old.end.rows old.end.bounds.sources r.source ≡ false)
    (front : (source : ℕ) → kept_in new.end.rows source ≡ (if r.source == source then take old.end.rows.window (renewed id_in (waiting (message_at moment r)) (kept_in old.end.rows source)) else kept_in old.end.rows source))
    (window : new.end.rows.window ≡ old.end.rows.window) (has : (source : ℕ) → has_row new.end.rows source ≡ (has_row old.end.rows source || r.source == source))
    (sources : source_count new.end.rows ≡ count_with old.end.rows r.source) (rest : record new.end { rows = old.end.rows } ≡ end_finished old.end moment r)
    (pending_is : new.pending ≡ map.insert old.pending (request_key_of (message_at moment r)) (command_at (message_at moment r) old.count (task_in command r.bytes)))
    (count_is : new.count ≡ old.count + 1) (handed_is : new.handed_on ≡ old.handed_on) (most_is : new.max_pending ≡ old.max_pending) where
  abbrev m : Message
  m = message_at moment r

  abbrev task : Task
  task = task_in command r.bytes

  tasks_are : arrival_tasks old.handed_on (held_in old) (Whole m) ≡ task ∷ []
  tasks_are = ap (λ t. if t then tasks_of (hands_on old.handed_on) r.bytes else []) fresh ∙ asked

  accepted_is : refused_while old m (map.get old.pending (request_key_of m)) ≡ None
  accepted_is =
      ap (refused_while old m) free
      ∙ ap (λ t. if t then refused_fresh old m else None) fresh
      ∙ past_by (is_full old && _) (is_past_sources old.end.rows old.end.bounds.sources r.source) _ _ None (neither (is_full old) _ vacant) within

  found : listed (option_map task_for (numbered old.count (map.get new.pending (request_key_of m)))) ≡ arrival_tasks old.handed_on (held_in old) (Whole m)
  found =
      ap (λ pending. listed (option_map task_for (numbered old.count (map.get pending (request_key_of m))))) pending_is
      ∙ ap (λ o. listed (option_map task_for o)) (just_put old.pending (request_key_of m) (command_at m old.count task))
      ∙ ap (λ c. task_in c r.bytes ∷ []) (same_command command r.bytes)
      ∙ sym tasks_are

  pub handed_out : HasServed old moment r new reply (handing_step task (handle_of m old.count))
  handed_out = record {
    accepted = accepted_is;
    step_is = step_of reply task (handle_of m old.count) ∙ sym (ap (step_by (message_outcome (gives (hands_on old.handed_on) unasked) (held_in old) m) old.count (Some m)) tasks_are);
    some = no_reply reply task (handle_of m old.count);
    command = asked_at reply task (handle_of m old.count) new.pending (arrival_tasks old.handed_on (held_in old) (Whole m)) (command_at m old.count task)
        (ap (λ pending. numbered old.count (map.get pending (request_key_of m))) pending_is ∙ just_put old.pending (request_key_of m) (command_at m old.count task)) refl found;
    held = subst (λ (h : ResponderState (Unit {0})). IsHeld (held_in new) (record h { open_messages = (end_finished old.end moment r).open_messages; last = moment }))
        (sym (ap (λ tasks. kept_by tasks m (arrival_held (gives (hands_on old.handed_on) unasked) (held_in old) (Whole m)) (held_in old)) tasks_are)) (record {
          own = ap (λ (e : End). e.own) rest;
          busy = ap (λ (e : End). e.busy) rest;
          window = window;
          keep = ap (λ (e : End). e.keep) rest;
          open_messages = ap (λ (e : End). e.open_messages) rest;
          kept = front;
          state = refl;
          serves_from = ap (λ (e : End). e.serves_from) rest;
          last = ap (λ (e : End). e.last) rest;
        });
    begun = ap (λ (e : End). e.begun) rest;
    pending = pending_is ∙ sym (ap (pending_by old.pending old.count (Some m)) tasks_are);
    count = count_is ∙ sym (ap (λ (tasks : List Task). old.count + length tasks) tasks_are);
    room = record {
      each = λ source. has source ∙ sym (ap (λ t. has_row old.end.rows source || t && r.source == source) fresh);
      sources = sources ∙ sym (ap (λ t. if t then count_with old.end.rows r.source else source_count old.end.rows) fresh);
    };
    settings = record { handed_on = handed_is; bounds = ap (λ (e : End). e.bounds) rest; ends_oldest = ap (λ (e : End). e.ends_oldest) rest; max_pending = most_is };
  }

-- ---- there is room for one command more
or_parts : (a b : Bool) → (a || b) ≡ false → a ≡ false
or_parts true b h = h
or_parts false b h = refl

pub room_for_one : (e : EndpointView) → is_full e ≡ false → map.len e.pending < e.max_pending
room_for_one e vacant = leb-false e.max_pending (map.len e.pending) (or_parts (nat_le e.max_pending (map.len e.pending)) _ vacant)

pub pending_out : (old : EndpointView) (new : End) (moment : ℕ) (r : Requested) (command : Option Command)
    → tasks_of (hands_on old.handed_on) r.bytes ≡ task_in command r.bytes ∷ [] → id_at r.bytes < INSTANCE_IDS → map.get old.pending (request_key_of (message_at moment r)) ≡ None → is_full old ≡ false
    → ((source : ℕ) → kept_in new.rows source ≡ (if r.source == source then take old.end.rows.window (renewed id_in (waiting (message_at moment r)) (kept_in old.end.rows source)) else kept_in old.end.rows source))
    → ArePending old.end old.handed_on old.pending old.count old.max_pending
    → ArePending new old.handed_on (map.insert old.pending (request_key_of (message_at moment r)) (command_at (message_at moment r) old.count (task_in command r.bytes))) (old.count + 1) old.max_pending
pending_out old new moment r command asked range free vacant front are =
    let m = message_at moment r in
    pending_with old.handed_on old.end new old.pending old.count old.max_pending old.end.rows.window (request_key_of m) (command_at m old.count (task_in command r.bytes)) (waiting m)
    (record { instance = range; task = asked ∙ ap (λ c. task_in c r.bytes ∷ []) (sym (same_command command r.bytes)); id = refl; before = omega arith }) refl
    free (room_for_one old vacant) front are
