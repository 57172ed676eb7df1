-- What an endpoint is after a fresh request was refused by its code.
use Rattle.std.specs.FinMap as map
use Rattle.std.proofs.Common.{◌≡◌, ℕ, ◌+◌, ◌<◌, Bool, true, false, ◌&&◌, ◌||◌, ◌==◌, List, [], length, Option, Some, None, if◌then◌else◌, refl, sym, ap, ◌∙◌, subst, arith}
use Rattle.std.specs.Prelude.{take}
use Rattle.pldm_wire.specs.HandingOn.{hands_on}
use Rattle.pldm_responder.specs.Answering.{answering}
use Rattle.pldm_responder.specs.Arrivals.{Whole, way_back}
use Rattle.pldm_responder.specs.Asked.{gives}
use Rattle.pldm_responder.specs.Ends.{End, count_with, has_row}
use Rattle.pldm_responder.specs.Events.{Message}
use Rattle.pldm_responder.specs.ResponderStates.{ResponderState, IsHeld, id_in}
use Rattle.pldm_responder.specs.Looking.{end_finished, message_at}
use Rattle.pldm_responder.specs.Performing.{Task, reply, tasks_of}
use Rattle.pldm_responder.specs.Recency.{renewed}
use Rattle.pldm_responder.specs.Requested.{Requested}
use Rattle.pldm_responder.specs.Reserving.{is_past_sources}
use Rattle.pldm_responder.specs.Slots.{kept_in, source_count}
use Rattle.pldm_responder.specs.Steps.{arrival_held, message_outcome, performs}
use Rattle.pldm_responder.specs.declared.outcome.MessageOutcome.TheVariants.{Answered}
use Rattle.pldm_responder.proofs.ServedRequests.{performed_outcome}
use Rattle.pldm_endpoint.specs.Receiving.{HasServed, IsRefusedBy}
use Rattle.pldm_endpoint.specs.Refusing.{asks_some, is_full, refused_fresh, refused_while}
use Rattle.pldm_endpoint.specs.RequestKeys.{request_key_of}
use Rattle.pldm_endpoint.specs.TwoSteps.{EndpointView, arrival_tasks, held_in, kept_by, pending_by, step_by, unasked}
use Rattle.pldm_endpoint.specs.declared.step.MessageStep.TheVariants.{Done}
use Rattle.pldm_endpoint.specs.declared.step.ReceiveRefusal.{ReceiveRefusal}
use Rattle.pldm_endpoint.proofs.TasksRead.{asks_nothing, refused_changes}

by_sources : (full some past : Bool) (f s : Option ReceiveRefusal) → some ≡ false → past ≡ false → (if full && some then f else (if past then s else None)) ≡ None
by_sources true true past f s h g = cc
by_sources true false true f s h g = cc
by_sources true false false f s h g = refl
by_sources false some true f s h g = cc
by_sources false some false f s h g = refl

where_done : {A : Type 0} (of p : Bool) (x y : A) → p ≡ true → (if of then x else y) ≡ (if of && p then x else y)
where_done true true x y h = refl
where_done true false x y h = cc
where_done false p x y h = refl

module _ (old new : EndpointView) (moment : ℕ) (r : Requested) (code : ℕ) (answer : List ℕ)
    (free : map.get old.pending (request_key_of (message_at moment r)) ≡ None)
    (fresh : performs (held_in old) (message_at moment r) ≡ true) (refused : IsRefusedBy old.handed_on code r.bytes)
    (within : is_past_sources old.end.rows old.end.bounds.sources r.source ≡ false) (some : 0 < length answer)
    (answer_is : answer ≡ reply (gives (hands_on old.handed_on) unasked) tt r.bytes)
    (front : (source : ℕ) → kept_in new.end.rows source ≡ (if r.source == source then take old.end.rows.window (renewed id_in (record { moment = moment; bytes = r.bytes; answer = answer }) (kept_in old.end.rows source)) else kept_in old.end.rows source))
    (window : new.end.rows.window ≡ old.end.rows.window) (has : (source : ℕ) → has_row new.end.rows source ≡ (has_row old.end.rows source || r.source == source))
    (sources : source_count new.end.rows ≡ count_with old.end.rows r.source) (rest : record new.end { rows = old.end.rows } ≡ end_finished old.end moment r)
    (pending_is : new.pending ≡ old.pending) (count_is : new.count ≡ old.count) (handed_is : new.handed_on ≡ old.handed_on) (most_is : new.max_pending ≡ old.max_pending) where
  abbrev m : Message
  m = message_at moment r

  none_asked : tasks_of (hands_on old.handed_on) r.bytes ≡ []
  none_asked = asks_nothing old.handed_on code r.bytes unasked refused

  tasks_are : arrival_tasks old.handed_on (held_in old) (Whole m) ≡ []
  tasks_are = ap (λ t. if t then tasks_of (hands_on old.handed_on) r.bytes else []) fresh ∙ none_asked

  accepted_is : refused_while old m (map.get old.pending (request_key_of m)) ≡ None
  accepted_is =
      ap (refused_while old m) free
      ∙ ap (λ t. if t then refused_fresh old m else None) fresh
      ∙ by_sources (is_full old) (asks_some (tasks_of (hands_on old.handed_on) r.bytes)) (is_past_sources old.end.rows old.end.bounds.sources r.source) _ _ (ap asks_some none_asked) within

  outcome_is : message_outcome (gives (hands_on old.handed_on) unasked) (held_in old) m ≡ answering answer (Answered true false (way_back old.end.own m))
  outcome_is =
      performed_outcome (gives (hands_on old.handed_on) unasked) (held_in old) m fresh
      ∙ (λ i. answering (sym answer_is i) (Answered true (refused_changes old.handed_on code r.bytes unasked refused i) (way_back old.end.own m)))

  pub refused_by_code : HasServed old moment r new answer (Done (Answered true false (way_back old.end.own m)))
  refused_by_code = record {
    accepted = accepted_is;
    step_is = sym (ap (step_by (message_outcome (gives (hands_on old.handed_on) unasked) (held_in old) m) old.count (Some m)) tasks_are ∙ ap (λ outcome. step_by outcome old.count (Some m) []) outcome_is);
    some = some;
    command = tasks_are;
    held = subst (λ (h : ResponderState (Unit {0})). IsHeld (held_in new) (record h { open_messages = (end_finished old.end moment r).open_messages; last = moment }))
        (sym (ap (λ tasks. kept_by tasks m (arrival_held (gives (hands_on old.handed_on) unasked) (held_in old) (Whole m)) (held_in old)) tasks_are)) (record {
          own = ap (λ (e : End). e.own) rest;
          busy = ap (λ (e : End). e.busy) rest;
          window = window;
          keep = ap (λ (e : End). e.keep) rest;
          open_messages = ap (λ (e : End). e.open_messages) rest;
          kept = λ source.
              front source
              ∙ ap (λ bytes. if r.source == source then take old.end.rows.window (renewed id_in (record { moment = moment; bytes = r.bytes; answer = bytes }) (kept_in old.end.rows source)) else kept_in old.end.rows source) answer_is
              ∙ where_done (r.source == source) (performs (held_in old) m) _ _ fresh;
          state = refl;
          serves_from = ap (λ (e : End). e.serves_from) rest;
          last = ap (λ (e : End). e.last) rest;
        });
    begun = ap (λ (e : End). e.begun) rest;
    pending = pending_is ∙ sym (ap (pending_by old.pending old.count (Some m)) tasks_are);
    count = count_is ∙ plus_none old.count ∙ sym (ap (λ (tasks : List Task). old.count + length tasks) tasks_are);
    room = record {
      each = λ source. has source ∙ sym (ap (λ t. has_row old.end.rows source || t && r.source == source) fresh);
      sources = sources ∙ sym (ap (λ t. if t then count_with old.end.rows r.source else source_count old.end.rows) fresh);
    };
    settings = record { handed_on = handed_is; bounds = ap (λ (e : End). e.bounds) rest; ends_oldest = ap (λ (e : End). e.ends_oldest) rest; max_pending = most_is };
  }
    where
      plus_none : (n : ℕ) → n ≡ n + 0
      plus_none n = omega arith
