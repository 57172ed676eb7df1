-- The rule where an answer is kept for each instance ID of a source: no window, and in the busy time each request is
-- refused. A window of all instance IDs is this rule.
use Rattle.std.specs.Prelude.{ℕ, List, [], ◌∷◌, Bool, true, false, ◌&&◌, ◌||◌, not, Option, Some, None, if◌then◌else◌}
use Rattle.pldm_wire.specs.Headers.{id_at}
use Rattle.pldm_platform.specs.Changes.{changed_or}
use Rattle.pldm_responder.specs.Arrivals.{Arrival, Drop, Part, Whole, packets_back}
use Rattle.pldm_responder.specs.Calls.{Call, arrived, events}
use Rattle.pldm_responder.specs.Events.{Message, Event, Came, Set, Restarted, Changed, Place, is_busy, is_copy_of, is_of}
use Rattle.pldm_responder.specs.Performing.{Rules, busy_reply, changes, next, reply}
use Rattle.pldm_responder.specs.declared.outcome.Outcome.{Outcome}
use Rattle.pldm_responder.specs.declared.outcome.Outcome.TheVariants.{Dropped, Partial, Answered}

-- the latest fresh message of a source and an instance ID since the last restart
abbrev pub origin : {S : Type 0} → ℕ → List (Event S) → ℕ → ℕ → Option (Place S)
origin keep [] source id = None
origin keep (Set _ _ ∷ events) source id = origin keep events source id
origin keep (Restarted _ ∷ events) source id = None
origin keep (Changed _ ∷ events) source id = origin keep events source id
origin keep (Came m ∷ events) source id =
    if is_of m source id
    && (not (is_busy keep events m.moment) && not (is_copy_of keep m (origin keep events m.source (id_at m.bytes))))
    then Some (record { before = events; message = m })
    else origin keep events source id

abbrev pub is_copy : {S : Type 0} → ℕ → List (Event S) → Message → Bool
is_copy keep events m = is_copy_of keep m (origin keep events m.source (id_at m.bytes))

-- neither busy nor a copy
abbrev pub is_fresh : {S : Type 0} → ℕ → List (Event S) → Message → Bool
is_fresh keep events m = not (is_busy keep events m.moment) && not (is_copy keep events m)

-- whether a fresh message of this source and this instance ID came since the last restart
abbrev pub has_fresh : {S : Type 0} → ℕ → List (Event S) → ℕ → ℕ → Bool
has_fresh keep [] source id = false
has_fresh keep (Set _ _ ∷ events) source id = has_fresh keep events source id
has_fresh keep (Restarted _ ∷ events) source id = false
has_fresh keep (Changed _ ∷ events) source id = has_fresh keep events source id
has_fresh keep (Came m ∷ events) source id =
    is_of m source id && is_fresh keep events m || has_fresh keep events source id

module _ {S : Type 0} (device : Rules S) (keep : ℕ) (start : S) where
  -- the platform's state: each fresh message is performed once, each reading set, and each change from outside put, in
  -- order
  abbrev pub performed : List (Event S) → S
  performed [] = start
  performed (Came m ∷ events) =
      if is_fresh keep events m then next device (performed events) m.bytes else performed events
  performed (Set id value ∷ events) = changed_or (performed events) (device.sensed (performed events) id value)
  performed (Restarted _ ∷ events) = performed events
  performed (Changed state ∷ events) = state

  -- the reply of the message at a place, where it is performed there
  abbrev pub reply_at : Place S → List ℕ
  reply_at place = reply device (performed place.before) place.message.bytes

  abbrev pub answered_by : List (Event S) → Message → Option (Place S) → List ℕ
  answered_by events m None = reply device (performed events) m.bytes
  answered_by events m (Some place) =
      if is_copy_of keep m (Some place) then reply_at place else reply device (performed events) m.bytes

  -- what a message is answered while the responder serves: its own reply where it is fresh, else its origin's
  abbrev pub answered : List (Event S) → Message → List ℕ
  answered events m = answered_by events m (origin keep events m.source (id_at m.bytes))

module _ {S : Type 0} (device : Rules S) (own keep : ℕ) (start : S) where
  -- the outcome that is expected to a message after these events: busy, a copy, or fresh
  abbrev pub answer_expected : List (Event S) → Message → Outcome
  answer_expected events m =
      if is_busy keep events m.moment then Answered false false (packets_back own m (busy_reply m.bytes))
      else (if is_copy keep events m
      then Answered false false (packets_back own m (answered device keep start events m))
      else Answered true (changes device (performed device keep start events) m.bytes)
      (packets_back own m (answered device keep start events m)))

  -- the same, of what a packet brings
  abbrev pub outcome_expected : List (Event S) → Arrival → Outcome
  outcome_expected events (Drop reason) = Dropped reason
  outcome_expected events Part = Partial
  outcome_expected events (Whole m) = answer_expected events m

  -- the outcome of bytes that are received at a moment after these calls
  abbrev pub outcome : List (Call S) → ℕ → List ℕ → Outcome
  outcome calls moment bytes = outcome_expected (events own calls) (arrived own calls moment bytes)
