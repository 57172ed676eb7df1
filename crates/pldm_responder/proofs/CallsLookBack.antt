-- What a responder holds and gives is what looking back over the list of its calls says.
use Rattle.std.proofs.Common.{◌≡◌, ℕ, ◌+◌, Bool, true, false, List, ◌∷◌, Option, Some, None, Result, Ok, Err, refl, sym, ap, ◌∙◌, subst, lit≤}
use Rattle.std.specs.Prelude.{not, ◌&&◌, ◌==◌, is_some, map, take, option_map, if◌then◌else◌}
use Rattle.std.specs.List.{take-map}
use Rattle.std.proofs.Math.Seq.{take-nil}
use Rattle.mctp_packet.specs.Packets.{Packet}
use Rattle.mctp_packet.specs.declared.reason.Reason.{Reason}
use Rattle.mctp_packet.specs.declared.TheConstants.{MAX_PACKETS, NULL_EID}
use Rattle.mctp_assembly.specs.Histories as histories
use Rattle.mctp_assembly.specs.Laws as assembly
use Rattle.mctp_assembly.specs.Steps as steps
use Rattle.pldm_wire.specs.Headers.{id_at}
use Rattle.pldm_wire.specs.declared.restart_policy.RestartPolicy.{RestartPolicy}
use Rattle.pldm_platform.specs.Changes.{changed_or}
use Rattle.pldm_responder.specs.Arrivals.{Arrival, Drop, Part, Whole, fed_arrival, passed_arrival, arrival, request_packet, packets_back}
use Rattle.pldm_responder.specs.Calls as calls
use Rattle.pldm_responder.specs.Calls.{Call, Received, Sensed, with_packet, fed, looked_back, arrived, with_arrival, events, last_moment, outcome}
use Rattle.pldm_responder.specs.Events.{Message, Event, Came, Restarted, Place, busy_until, id_of, is_copy_of, is_fresh, is_kept, is_refused, origin, recent}
use Rattle.pldm_responder.specs.ResponderStates.{Entry, ResponderState, id_in}
use Rattle.pldm_responder.specs.Laws.{entry_at, kept_to, IsLeftBy, ReceivedLooksBack, SensedLooksBack, RestartedLooksBack, AssignedLooksBack, EndedLooksBack, UpdatedLooksBack, PutIsUpdated, NewLooksBack, SameIsLeft, KeptWhereFresh}
use Rattle.pldm_responder.specs.Performing.{Rules, reply, next, changes, busy_reply, performed, reply_at, answered_by}
use Rattle.pldm_responder.specs.Recency.{of_number, renewed}
use Rattle.pldm_responder.specs.Steps.{repeats, restarted_held, copied_packets, open_after, kept_for, served, message_outcome, entry_of, kept_after, state_after, arrival_outcome, arrival_held, received_outcome, received_held}
use Rattle.pldm_responder.specs.declared.outcome.Outcome.TheVariants.{Answered}
use Rattle.pldm_responder.proofs.NoIdFallsOut.{recent_apart}
use Rattle.pldm_responder.proofs.RecentFirst.{found_in_map, renewed_in_map, front_renewed}

-- ---- what a packet brings
module _ (looks : assembly.FeedLooksBack) where
  pub passed_brings : (open_messages : steps.OpenMessages) (packets : List histories.Call) (moment : ℕ) (read : Result Packet Reason) → histories.IsLeftBy open_messages packets → passed_arrival (steps.answer open_messages) moment read ≡ passed_arrival (looked_back packets) moment read
  passed_brings open_messages packets moment (Ok p) left =
      ap (fed_arrival p.route moment) (looks MAX_PACKETS open_messages packets p (lit≤ tt) left).0
  passed_brings open_messages packets moment (Err reason) left = refl

  passed_opens : (open_messages : steps.OpenMessages) (packets : List histories.Call) (read : Result Packet Reason) → histories.IsLeftBy open_messages packets → histories.IsLeftBy (open_after open_messages read) (with_packet read packets)
  passed_opens open_messages packets (Ok p) left = (looks MAX_PACKETS open_messages packets p (lit≤ tt) left).1
  passed_opens open_messages packets (Err reason) left = left

-- ---- what a message is answered and leaves
module _ {S : Type 0} (device : Rules S) (own : ℕ) (busy : RestartPolicy) (window keep : ℕ) (start : S) where
  -- what these events leave, with any open messages and last moment
  abbrev pub left_by : steps.OpenMessages → ℕ → List (Event S) → ResponderState S
  left_by open_messages last h = record {
    own = own;
    busy = busy;
    keep = keep;
    window = window;
    open_messages = open_messages;
    kept = kept_to device busy window keep start h;
    state = performed device busy window keep start h;
    serves_from = busy_until keep h;
    last = last;
  }

  -- the answer that is kept where this is the origin
  abbrev pub entry_if : Option (Place S) → Option Entry
  entry_if o = option_map (entry_at device busy window keep start) o

  -- the kept answer of an instance ID is that to its origin
  pub entry_is : (h : List (Event S)) (source id : ℕ) → of_number id_in id (kept_to device busy window keep start h source) ≡ entry_if (origin busy window keep h source id)
  entry_is h source id = found_in_map id_of id_in (entry_at device busy window keep start) (λ _. refl) id (take window (recent busy window keep h source))

  pub repeats_origin : (m : Message) (o : Option (Place S)) → repeats keep m (entry_if o) ≡ is_copy_of keep m o
  repeats_origin m None = refl
  repeats_origin m (Some place) = refl

  -- t for a copy
  served_by : (t : Bool) (open_messages : steps.OpenMessages) (last : ℕ) (h : List (Event S)) (m : Message) (first : List ℕ)
      → served device (left_by open_messages last h) m (if t then Some (packets_back own m first) else None)
      ≡ (if t then Answered false false (packets_back own m (if t then first else reply device (performed device busy window keep start h) m.bytes))
      else Answered true (changes device (performed device busy window keep start h) m.bytes) (packets_back own m (if t then first else reply device (performed device busy window keep start h) m.bytes)))
  served_by true open_messages last h m first = refl
  served_by false open_messages last h m first = refl

  served_is : (open_messages : steps.OpenMessages) (last : ℕ) (h : List (Event S)) (m : Message) (o : Option (Place S))
      → served device (left_by open_messages last h) m (copied_packets own keep m (entry_if o))
      ≡ (if is_copy_of keep m o then Answered false false (packets_back own m (answered_by device busy window keep start h m o))
      else Answered true (changes device (performed device busy window keep start h) m.bytes) (packets_back own m (answered_by device busy window keep start h m o)))
  served_is open_messages last h m None = refl
  served_is open_messages last h m (Some place) =
      served_by (is_copy_of keep m (Some place)) open_messages last h m (reply_at device busy window keep start place)

  message_is : (open_messages : steps.OpenMessages) (last : ℕ) (h : List (Event S)) (m : Message) → message_outcome device (left_by open_messages last h) m ≡ calls.answer_expected device own busy window keep start h m
  message_is open_messages last h m =
      ap (λ o. if is_refused busy keep h m then Answered false false (packets_back own m (busy_reply m.bytes)) else o)
      (ap (λ e. served device (left_by open_messages last h) m (copied_packets own keep m e)) (entry_is h m.source (id_at m.bytes)) ∙ served_is open_messages last h m (origin busy window keep h m.source (id_at m.bytes)))

  arrival_is : (open_messages : steps.OpenMessages) (last : ℕ) (h : List (Event S)) (a : Arrival) → arrival_outcome device (left_by open_messages last h) a ≡ calls.outcome_expected device own busy window keep start h a
  arrival_is open_messages last h (Drop reason) = refl
  arrival_is open_messages last h Part = refl
  arrival_is open_messages last h (Whole m) = message_is open_messages last h m

  -- a message is performed where it is fresh
  pub copies_is : (h : List (Event S)) (m : Message) → repeats keep m (of_number id_in (id_at m.bytes) (kept_to device busy window keep start h m.source)) ≡ is_copy_of keep m (origin busy window keep h m.source (id_at m.bytes))
  copies_is h m = ap (repeats keep m) (entry_is h m.source (id_at m.bytes)) ∙ repeats_origin m (origin busy window keep h m.source (id_at m.bytes))

  -- the newest answer is put in front, and what is past the window falls out
  kept_where : (place : Place S) (h : List (Event S)) (source : ℕ) (b : Bool)
      → (if b then take window (renewed id_in (entry_at device busy window keep start place) (kept_to device busy window keep start h source)) else kept_to device busy window keep start h source)
      ≡ map (entry_at device busy window keep start) (take window (if b then renewed id_of place (recent busy window keep h source) else recent busy window keep h source))
  kept_where place h source false = refl
  kept_where place h source true =
      ap (take window) (renewed_in_map id_of id_in (entry_at device busy window keep start) (λ _. refl) place (take window (recent busy window keep h source)))
      ∙ take-map (entry_at device busy window keep start) window (renewed id_of place (take window (recent busy window keep h source)))
      ∙ ap (map (entry_at device busy window keep start)) (front_renewed id_of window place (recent busy window keep h source) (recent_apart busy window keep h source))

  kept_is : (open_messages : steps.OpenMessages) (last : ℕ) (h : List (Event S)) (m : Message) (source : ℕ)
      → kept_after device (left_by open_messages last h) m source ≡ kept_to device busy window keep start (Came m ∷ h) source
  kept_is open_messages last h m source =
      ap (λ r. if m.source == source && (not (is_refused busy keep h m) && not r) then take window (renewed id_in (entry_of device (left_by open_messages last h) m) (kept_to device busy window keep start h source)) else kept_to device busy window keep start h source) (copies_is h m)
      ∙ kept_where (record { before = h; message = m }) h source (m.source == source && is_fresh busy window keep h m)

  state_is : (open_messages : steps.OpenMessages) (last : ℕ) (h : List (Event S)) (m : Message) → state_after device (left_by open_messages last h) m ≡ performed device busy window keep start (Came m ∷ h)
  state_is open_messages last h m =
      ap (λ r. if not (is_refused busy keep h m) && not r then next device (performed device busy window keep start h) m.bytes else performed device busy window keep start h) (copies_is h m)

  -- what is held but for the open messages and the last moment
  record Leaves (held : ResponderState S) (h : List (Event S)) : Type 0 where
    endpoint : held.own ≡ own
    refusing : held.busy ≡ busy
    keeping : held.keep ≡ keep
    windows : held.window ≡ window
    kept : (source : ℕ) → held.kept source ≡ kept_to device busy window keep start h source
    state : held.state ≡ performed device busy window keep start h
    serves_from : held.serves_from ≡ busy_until keep h

  arrival_leaves : (open_messages : steps.OpenMessages) (last : ℕ) (h : List (Event S)) (a : Arrival) → Leaves (arrival_held device (left_by open_messages last h) a) (with_arrival a h)
  arrival_leaves open_messages last h (Drop reason) = record { endpoint = refl; refusing = refl; keeping = refl; windows = refl; kept = λ source. refl; state = refl; serves_from = refl }
  arrival_leaves open_messages last h Part = record { endpoint = refl; refusing = refl; keeping = refl; windows = refl; kept = λ source. refl; state = refl; serves_from = refl }
  arrival_leaves open_messages last h (Whole m) =
      record { endpoint = refl; refusing = refl; keeping = refl; windows = refl; kept = kept_is open_messages last h m; state = state_is open_messages last h m; serves_from = refl }

  pub held_is : (held : ResponderState S) (before : List (Call S)) → IsLeftBy device own busy window keep start held before → held ≡ left_by held.open_messages held.last (events own before)
  held_is held before left =
      λ i. record {
        own = left.endpoint i;
        busy = left.refusing i;
        keep = left.keeping i;
        window = left.windows i;
        open_messages = held.open_messages;
        kept = λ source. left.kept source i;
        state = left.state i;
        serves_from = left.serves_from i;
        last = held.last;
      }

  with_leaves : (held : ResponderState S) (open_messages : steps.OpenMessages) (moment : ℕ) (bytes : List ℕ) (before : List (Call S)) → Leaves held (events own (Received moment bytes ∷ before)) → histories.IsLeftBy open_messages (fed own (Received moment bytes ∷ before))
      → IsLeftBy device own busy window keep start (record held { open_messages = open_messages; last = moment }) (Received moment bytes ∷ before)
  with_leaves held open_messages moment bytes before left opens = record {
    endpoint = left.endpoint;
    refusing = left.refusing;
    keeping = left.keeping;
    windows = left.windows;
    open_messages = opens;
    kept = left.kept;
    state = left.state;
    serves_from = left.serves_from;
    last = refl;
  }

  module _ (looks : assembly.FeedLooksBack) where
    left_received : (open_messages : steps.OpenMessages) (last : ℕ) (before : List (Call S)) (moment : ℕ) (bytes : List ℕ) → histories.IsLeftBy open_messages (fed own before)
        → (received_outcome device (left_by open_messages last (events own before)) moment bytes ≡ outcome device own busy window keep start before moment bytes)
        × IsLeftBy device own busy window keep start (received_held device (left_by open_messages last (events own before)) moment bytes) (Received moment bytes ∷ before)
    left_received open_messages last before moment bytes left =
        let brings = passed_brings looks open_messages (fed own before) moment (request_packet own bytes) left in
        let h = events own before in (
          ap (arrival_outcome device (left_by open_messages last h)) brings ∙ arrival_is open_messages last h (arrived own before moment bytes),
          with_leaves (arrival_held device (left_by open_messages last h) (arrival (steps.answer open_messages) own moment bytes)) (open_after open_messages (request_packet own bytes)) moment bytes before
              (subst (λ a. Leaves (arrival_held device (left_by open_messages last h) a) (with_arrival (arrived own before moment bytes) h)) (sym brings) (arrival_leaves open_messages last h (arrived own before moment bytes)))
              (passed_opens looks open_messages (fed own before) (request_packet own bytes) left),
        )

module _ {S : Type 0} (device : Rules S) where
  pub received_looks_back : assembly.FeedLooksBack → ReceivedLooksBack device
  received_looks_back looks own busy window keep start held before moment bytes left =
      let same = held_is device own busy window keep start held before left in
      let step = left_received device own busy window keep start looks held.open_messages held.last before moment bytes left.open_messages in (
        ap (λ x. received_outcome device x moment bytes) same ∙ step.0,
        subst (λ x. IsLeftBy device own busy window keep start (received_held device x moment bytes) (Received moment bytes ∷ before)) (sym same) step.1,
      )

  pub sensed_looks_back : SensedLooksBack device
  sensed_looks_back own busy window keep start held before id value left = record {
    endpoint = left.endpoint;
    refusing = left.refusing;
    keeping = left.keeping;
    windows = left.windows;
    open_messages = left.open_messages;
    kept = left.kept;
    state = ap (λ s. changed_or s (device.sensed s id value)) left.state;
    serves_from = left.serves_from;
    last = left.last;
  }

  pub updated_looks_back : UpdatedLooksBack device
  updated_looks_back own busy window keep start held before state left = record {
    endpoint = left.endpoint;
    refusing = left.refusing;
    keeping = left.keeping;
    windows = left.windows;
    open_messages = left.open_messages;
    kept = left.kept;
    state = refl;
    serves_from = left.serves_from;
    last = left.last;
  }

  pub restarted_looks_back : assembly.NewLooksBack → RestartedLooksBack device
  restarted_looks_back looks own busy window keep start held before moment left = record {
    endpoint = left.endpoint;
    refusing = left.refusing;
    keeping = left.keeping;
    windows = left.windows;
    open_messages = looks MAX_PACKETS;
    kept = λ source. sym (ap (map (entry_at device busy window keep start)) (take-nil {A = Place S} window));
    state = left.state;
    serves_from = ap (λ k. moment + k) left.keeping;
    last = refl;
  }

  -- t where there was no endpoint ID before
  assigned_kept : (t : Bool) (busy : RestartPolicy) (window keep : ℕ) (start : S) (held : ResponderState S) (moment : ℕ) (h : List (Event S)) (source : ℕ) → held.kept source ≡ kept_to device busy window keep start h source
      → (if t then held else restarted_held held moment).kept source ≡ kept_to device busy window keep start (if t then h else Restarted moment ∷ h) source
  assigned_kept true busy window keep start held moment h source kept = kept
  assigned_kept false busy window keep start held moment h source kept = sym (ap (map (entry_at device busy window keep start)) (take-nil {A = Place S} window))

  assigned_state : (t : Bool) (busy : RestartPolicy) (window keep : ℕ) (start : S) (held : ResponderState S) (moment : ℕ) (h : List (Event S)) → held.state ≡ performed device busy window keep start h
      → (if t then held else restarted_held held moment).state ≡ performed device busy window keep start (if t then h else Restarted moment ∷ h)
  assigned_state true busy window keep start held moment h state = state
  assigned_state false busy window keep start held moment h state = state

  assigned_serves : (t : Bool) (keep : ℕ) (held : ResponderState S) (moment : ℕ) (h : List (Event S)) → held.keep ≡ keep → held.serves_from ≡ busy_until keep h
      → (if t then held else restarted_held held moment).serves_from ≡ busy_until keep (if t then h else Restarted moment ∷ h)
  assigned_serves true keep held moment h keeping serves = serves
  assigned_serves false keep held moment h keeping serves = ap (λ k. moment + k) keeping

  -- what an assignment leaves of the settings
  same_settings : (t : Bool) (held : ResponderState S) (moment : ℕ) → ((if t then held else restarted_held held moment).busy ≡ held.busy) × ((if t then held else restarted_held held moment).window ≡ held.window) × ((if t then held else restarted_held held moment).keep ≡ held.keep)
  same_settings true held moment = (refl, refl, refl)
  same_settings false held moment = (refl, refl, refl)

  pub assigned_looks_back : assembly.NewLooksBack → AssignedLooksBack device
  assigned_looks_back looks own busy window keep start held before moment eid left =
      let same = same_settings (held.own == NULL_EID) held moment in
      let h = events own before in
      record {
        endpoint = refl;
        refusing = same.0 ∙ left.refusing;
        windows = same.1 ∙ left.windows;
        keeping = same.2 ∙ left.keeping;
        open_messages = looks MAX_PACKETS;
        kept = λ source. ap (λ o. (if o == NULL_EID then held else restarted_held held moment).kept source) left.endpoint ∙ assigned_kept (own == NULL_EID) busy window keep start held moment h source (left.kept source);
        state = ap (λ o. (if o == NULL_EID then held else restarted_held held moment).state) left.endpoint ∙ assigned_state (own == NULL_EID) busy window keep start held moment h left.state;
        serves_from = ap (λ o. (if o == NULL_EID then held else restarted_held held moment).serves_from) left.endpoint ∙ assigned_serves (own == NULL_EID) keep held moment h left.keeping left.serves_from;
        last = refl;
      }

  pub ended_looks_back : assembly.ForgetLooksBack → EndedLooksBack device
  ended_looks_back looks own busy window keep start held before key left = record {
    endpoint = left.endpoint;
    refusing = left.refusing;
    keeping = left.keeping;
    windows = left.windows;
    open_messages = looks MAX_PACKETS held.open_messages (fed own before) key left.open_messages;
    kept = left.kept;
    state = left.state;
    serves_from = left.serves_from;
    last = left.last;
  }

  pub new_looks_back : assembly.NewLooksBack → NewLooksBack device
  new_looks_back looks own busy window keep start = record {
    endpoint = refl;
    refusing = refl;
    keeping = refl;
    windows = refl;
    open_messages = looks MAX_PACKETS;
    kept = λ source. sym (ap (map (entry_at device busy window keep start)) (take-nil {A = Place S} window));
    state = refl;
    serves_from = refl;
    last = refl;
  }

  pub same_is_left : SameIsLeft device
  same_is_left own busy window keep start new held before same left = record {
    endpoint = same.own ∙ left.endpoint;
    refusing = same.busy ∙ left.refusing;
    keeping = same.keep ∙ left.keeping;
    windows = same.window ∙ left.windows;
    open_messages = subst (λ x. histories.IsLeftBy x (fed own before)) (sym same.open_messages) left.open_messages;
    kept = λ source. same.kept source ∙ left.kept source;
    state = same.state ∙ left.state;
    serves_from = same.serves_from ∙ left.serves_from;
    last = same.last ∙ left.last;
  }

  entry_some : {A B : Type 0} (f : A → B) (o : Option A) → is_some (option_map f o) ≡ is_some o
  entry_some f None = refl
  entry_some f (Some place) = refl

  pub kept_where_fresh : KeptWhereFresh device
  kept_where_fresh own busy window keep start held before left =
      let h = events own before in
      let kept : (source id : ℕ) → is_some (kept_for held source id) ≡ is_kept busy window keep h source id = λ source id. ap (λ es. is_some (of_number id_in id es)) (left.kept source) ∙ ap is_some (entry_is device own busy window keep start h source id) ∙ entry_some (entry_at device busy window keep start) (origin busy window keep h source id) in
      (kept, λ count counts. record { pairs = counts.pairs; each = λ source id. sym (kept source id) ∙ counts.each source id; once = counts.once; all = counts.all })

-- ---- a platform that is put in the place of another
pub put_is_updated : {P S : Type 0} (state_of : P → S) → PutIsUpdated state_of
put_is_updated state_of station platform = record {
  own = refl;
  busy = refl;
  window = refl;
  keep = refl;
  open_messages = refl;
  kept = λ source. refl;
  state = refl;
  serves_from = refl;
  last = refl;
}
