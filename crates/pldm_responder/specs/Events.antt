-- What reached a responder, the newest first, and which message repeats which: the instance ID distinguishes a new
-- request from a retry (DSP0240, "PLDM message fields"). A message is a copy where the latest fresh one of its source
-- and instance ID has the same bytes and came less than the keeping time before, and fewer than `window` other instance
-- IDs of that source had a fresh one since; else it is fresh.
use Rattle.std.specs.Prelude.{ℕ, ◌+◌, ℤ, List, [], ◌∷◌, take, Bool, true, false, ◌&&◌, ◌||◌, not, ◌==◌, nat_lt, bytes_eq, Option, Some, None, is_some, Result, Ok, Err, if◌then◌else◌}
use Rattle.mctp_packet.specs.declared.reason.Reason.{Reason}
use Rattle.pldm_wire.specs.CommandReading.{command_of}
use Rattle.pldm_wire.specs.Headers.{id_at}
use Rattle.pldm_wire.specs.Requests.{Request, request_of}
use Rattle.pldm_wire.specs.HandingOn.{hands_on}
use Rattle.pldm_wire.specs.Settings.{reads_set}
use Rattle.pldm_wire.specs.declared.restart_policy.RestartPolicy.{RestartPolicy}
use Rattle.pldm_wire.specs.declared.restart_policy.RestartPolicy.TheVariants.{All, Sets}
use Rattle.pldm_wire.specs.declared.pass_through.PassThrough.{PassThrough}
use Rattle.pldm_responder.specs.Recency.{of_number, renewed}

-- a whole message with a good header: the endpoint that it came from, the tag of its packets, the moment of the last of
-- them in milliseconds, and its bytes
pub record Message : Type 0 where
  pub source : ℕ
  pub tag : ℕ
  pub moment : ℕ
  pub bytes : List ℕ

-- a message, a reading that was set, a restart at a moment, or a change from outside that left the platform in a state
pub data Event (S : Type 0) : Type 0 where
  Came : Message → Event S
  Set : ℕ → ℤ → Event S
  Restarted : ℕ → Event S
  Changed : S → Event S

-- a message, and what had come before it
pub record Place (S : Type 0) : Type 0 where
  pub before : List (Event S)
  pub message : Message

-- ---- the busy time after a restart

-- the moment from which the responder serves again after its last restart, 0 where it never restarted
abbrev pub busy_until : {S : Type 0} → ℕ → List (Event S) → ℕ
busy_until keep [] = 0
busy_until keep (Came m ∷ events) = busy_until keep events
busy_until keep (Set id value ∷ events) = busy_until keep events
busy_until keep (Restarted moment ∷ events) = moment + keep
busy_until keep (Changed state ∷ events) = busy_until keep events

abbrev pub is_busy : {S : Type 0} → ℕ → List (Event S) → ℕ → Bool
is_busy keep events moment = nat_lt moment (busy_until keep events)

-- a request sets something: its command does, or it is handed on as bytes and may do so
abbrev pub sets_in : PassThrough → Result Request Reason → Bool
sets_in handed (Ok request) =
    hands_on handed request.kind || reads_set (command_of request.kind request.rest)
sets_in handed (Err reason) = false

-- whether a request is refused in the busy time
abbrev pub refuses_bytes : RestartPolicy → List ℕ → Bool
refuses_bytes All bytes = true
refuses_bytes (Sets handed) bytes = sets_in handed (request_of bytes)

-- m is answered with ERROR_NOT_READY
abbrev pub is_refused : {S : Type 0} → RestartPolicy → ℕ → List (Event S) → Message → Bool
is_refused busy keep events m = refuses_bytes busy m.bytes && is_busy keep events m.moment

-- ---- copies

-- m has this source and this instance ID
abbrev pub is_of : Message → ℕ → ℕ → Bool
is_of m source id = m.source == source && id_at m.bytes == id

-- the instance ID of the message at a place
abbrev pub id_of : {S : Type 0} → Place S → ℕ
id_of place = id_at place.message.bytes

-- m repeats the message at this place within the keeping time
abbrev pub is_copy_of : {S : Type 0} → ℕ → Message → Option (Place S) → Bool
is_copy_of keep m None = false
is_copy_of keep m (Some place) = bytes_eq m.bytes place.message.bytes && nat_lt m.moment (place.message.moment + keep)

-- of these places, which have the newest first, that of an instance ID, if it is among the `window` newest
abbrev pub origin_among : {S : Type 0} → ℕ → List (Place S) → ℕ → Option (Place S)
origin_among window places id = of_number id_of id (take window places)

module _ {S : Type 0} (busy : RestartPolicy) (window keep : ℕ) where
  -- m is neither refused in the busy time nor a copy, where these are the recent fresh messages of its source
  abbrev pub is_fresh_after : List (Place S) → List (Event S) → Message → Bool
  is_fresh_after places events m =
      not (is_refused busy keep events m) && not (is_copy_of keep m (origin_among window places (id_at m.bytes)))

  -- the recent fresh messages of a source: since the last restart, of each instance ID the latest, the newest first
  abbrev pub recent : List (Event S) → ℕ → List (Place S)
  recent [] source = []
  recent (Set _ _ ∷ events) source = recent events source
  recent (Restarted _ ∷ events) source = []
  recent (Changed _ ∷ events) source = recent events source
  recent (Came m ∷ events) source =
      if m.source == source && is_fresh_after (recent events m.source) events m
      then renewed id_of (record { before = events; message = m }) (recent events source)
      else recent events source

  -- the latest fresh message of a source and an instance ID, if that is among the source's `window` latest
  abbrev pub origin : List (Event S) → ℕ → ℕ → Option (Place S)
  origin events source id = origin_among window (recent events source) id

  abbrev pub is_copy : List (Event S) → Message → Bool
  is_copy events m = is_copy_of keep m (origin events m.source (id_at m.bytes))

  -- neither refused in the busy time nor a copy
  abbrev pub is_fresh : List (Event S) → Message → Bool
  is_fresh events m = is_fresh_after (recent events m.source) events m

  -- whether an answer is kept for this source and this instance ID: whether it has an origin
  abbrev pub is_kept : List (Event S) → ℕ → ℕ → Bool
  is_kept events source id = is_some (origin events source id)
