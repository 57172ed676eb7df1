-- What a responder holds after any list of calls, read by looking back over the list.
use Rattle.std.specs.Prelude.{◌≡◌, ◌≤◌, ℕ, ℤ, Bool, true, List, [], ◌∷◌, map, take, Some, is_some, Ok}
use Rattle.mctp_packet.specs.Packets.{packet, written}
use Rattle.mctp_packet.specs.Refusals.{refusal}
use Rattle.mctp_packet.specs.declared.TheConstants.{NULL_EID}
use Rattle.mctp_packet.specs.declared.reason.Reason.{Reason}
use Rattle.mctp_packet.specs.Pieces.{packets, written_packets}
use Rattle.mctp_packet.specs.declared.packet.Route.{Route}
use Rattle.mctp_assembly.specs.Histories as assembly
use Rattle.mctp_assembly.specs.declared.key.Key.{Key}
use Rattle.pldm_wire.specs.Kinds.{TypeAndCommand}
use Rattle.pldm_wire.specs.Messages.{IsResponse}
use Rattle.pldm_wire.specs.Requests.{Request, request_of}
use Rattle.pldm_wire.specs.declared.assigned.TheConstants.{ERROR_NOT_READY}
use Rattle.pldm_wire.specs.declared.assigned.TheConstants.{INSTANCE_IDS}
use Rattle.pldm_wire.specs.declared.restart_policy.RestartPolicy.{RestartPolicy}
use Rattle.pldm_wire.specs.declared.restart_policy.RestartPolicy.TheVariants.{All}
use Rattle.pldm_responder.specs.EachId as each_id
use Rattle.pldm_responder.specs.Events.{Event, Message, Place, busy_until, is_copy, is_fresh, is_kept, origin, recent}
use Rattle.pldm_responder.specs.Performing.{Rules, answered, performed, reply_at, busy_reply}
use Rattle.pldm_responder.specs.Calls.{Call, Received, Sensed, Restart, Updated, Ended, Assigned, fed, events, last_moment, outcome}
use Rattle.pldm_responder.specs.ResponderStates.{Entry, ResponderState, IsHeld, held_at_first}
use Rattle.pldm_responder.specs.Counts.{CountsKept, CountsPairs}
use Rattle.pldm_responder.specs.OpenOrder.{ended_held}
use Rattle.pldm_responder.specs.ResponderViews.{ResponderView, held_of, with_platform}
use Rattle.pldm_responder.specs.declared.outcome.Outcome.TheVariants.{Dropped}
use Rattle.pldm_responder.specs.Steps.{kept_for, received_commands, received_outcome, received_held, sensed_held, restarted_held, assigned_held, updated_held}

module _ {S : Type 0} (device : Rules S) (busy : RestartPolicy) (window keep : ℕ) (start : S) where
  -- the answer that is kept to the message at a place
  abbrev pub entry_at : Place S → Entry
  entry_at place = record {
    moment = place.message.moment;
    bytes = place.message.bytes;
    answer = reply_at device busy window keep start place;
  }

  -- the answers that are kept to a source: those to the latest fresh messages of its `window` latest instance IDs
  abbrev pub kept_to : List (Event S) → ℕ → List Entry
  kept_to events source = map entry_at (take window (recent busy window keep events source))

-- what is held is what the calls leave of a responder with this endpoint ID, busy time, window, keeping time and first
-- state
pub record IsLeftBy {S : Type 0}
    (device : Rules S) (own : ℕ) (busy : RestartPolicy) (window keep : ℕ) (start : S) (held : ResponderState S)
    (calls : List (Call S)) : Type 0 where
  pub endpoint : held.own ≡ own
  pub refusing : held.busy ≡ busy
  pub windows : held.window ≡ window
  pub keeping : held.keep ≡ keep
  pub open_messages : assembly.IsLeftBy held.open_messages (fed own calls)
  pub kept : (source : ℕ) → held.kept source ≡ kept_to device busy window keep start (events own calls) source
  pub state : held.state ≡ performed device busy window keep start (events own calls)
  pub serves_from : held.serves_from ≡ busy_until keep (events own calls)
  pub last : held.last ≡ last_moment calls

module _ {S : Type 0} (device : Rules S) where
  -- bytes that are received give what looking back over all calls says, and leave what the longer list leaves
  abbrev pub ReceivedLooksBack : Type 0
  ReceivedLooksBack =
      (own : ℕ) (busy : RestartPolicy) (window keep : ℕ) (start : S)
      (held : ResponderState S) (calls : List (Call S)) (moment : ℕ) (bytes : List ℕ)
      → IsLeftBy device own busy window keep start held calls
      → (received_outcome device held moment bytes ≡ outcome device own busy window keep start calls moment bytes)
      × IsLeftBy device own busy window keep start (received_held device held moment bytes) (Received moment bytes ∷ calls)

  -- a reading leaves what the longer list leaves
  abbrev pub SensedLooksBack : Type 0
  SensedLooksBack =
      (own : ℕ) (busy : RestartPolicy) (window keep : ℕ) (start : S) (held : ResponderState S) (calls : List (Call S)) (id : ℕ) (value : ℤ)
      → IsLeftBy device own busy window keep start held calls
      → IsLeftBy device own busy window keep start (sensed_held device held id value) (Sensed id value ∷ calls)

  -- a change from outside leaves what the longer list leaves
  abbrev pub UpdatedLooksBack : Type 0
  UpdatedLooksBack =
      (own : ℕ) (busy : RestartPolicy) (window keep : ℕ) (start : S) (held : ResponderState S) (calls : List (Call S)) (state : S)
      → IsLeftBy device own busy window keep start held calls
      → IsLeftBy device own busy window keep start (updated_held held state) (Updated state ∷ calls)

  -- a restart leaves what the longer list leaves
  abbrev pub RestartedLooksBack : Type 0
  RestartedLooksBack =
      (own : ℕ) (busy : RestartPolicy) (window keep : ℕ) (start : S) (held : ResponderState S) (calls : List (Call S)) (moment : ℕ)
      → IsLeftBy device own busy window keep start held calls
      → IsLeftBy device own busy window keep start (restarted_held held moment) (Restart moment ∷ calls)

  -- so does another endpoint ID that is assigned
  abbrev pub AssignedLooksBack : Type 0
  AssignedLooksBack =
      (own : ℕ) (busy : RestartPolicy) (window keep : ℕ) (start : S) (held : ResponderState S) (calls : List (Call S)) (moment eid : ℕ)
      → IsLeftBy device own busy window keep start held calls
      → IsLeftBy device eid busy window keep start (assigned_held held moment eid) (Assigned moment own ∷ calls)

  -- while it has no endpoint ID it drops each packet, as a packet that is for nobody, and nothing is performed
  abbrev pub DropsWithoutEid : Type 0
  DropsWithoutEid =
      (held : ResponderState S) (moment : ℕ) (bytes : List ℕ) → held.own ≡ NULL_EID
      → (reason : Reason) × (refusal (Some NULL_EID) bytes ≡ Some reason)
      × (received_outcome device held moment bytes ≡ Dropped reason) × (received_commands held moment bytes ≡ [])

  -- an open message that ends leaves what the longer list leaves: to its sender it is a lost packet
  abbrev pub EndedLooksBack : Type 0
  EndedLooksBack =
      (own : ℕ) (busy : RestartPolicy) (window keep : ℕ) (start : S) (held : ResponderState S) (calls : List (Call S)) (key : Key)
      → IsLeftBy device own busy window keep start held calls
      → IsLeftBy device own busy window keep start (ended_held (Some key) held) (Ended key ∷ calls)

  -- a new responder holds what the empty list leaves
  abbrev pub NewLooksBack : Type 0
  NewLooksBack =
      (own : ℕ) (busy : RestartPolicy) (window keep : ℕ) (start : S)
      → IsLeftBy device own busy window keep start (held_at_first own busy window keep start) []

  -- what holds the same is left by the same calls
  abbrev pub SameIsLeft : Type 0
  SameIsLeft =
      (own : ℕ) (busy : RestartPolicy) (window keep : ℕ) (start : S) (new held : ResponderState S) (calls : List (Call S))
      → IsHeld new held → IsLeftBy device own busy window keep start held calls → IsLeftBy device own busy window keep start new calls

  -- an answer is kept for each source and instance ID that has an origin, and for no other
  abbrev pub KeptWhereFresh : Type 0
  KeptWhereFresh =
      (own : ℕ) (busy : RestartPolicy) (window keep : ℕ) (start : S) (held : ResponderState S) (calls : List (Call S))
      → IsLeftBy device own busy window keep start held calls
      → ((source id : ℕ)
      → is_some (kept_for held source id) ≡ is_kept busy window keep (events own calls) source id)
      × ((count : ℕ) → CountsKept (kept_for held) count
      → CountsPairs (is_kept busy window keep (events own calls)) count)

-- a platform that is put in the place of another, or was changed in its place, is a change from outside to its state
abbrev pub PutIsUpdated : {P S : Type 0} → (P → S) → Type 0
PutIsUpdated {P} {S} state_of =
    (station : ResponderView P S) (platform : P)
    → IsHeld (held_of (with_platform state_of station platform)) (updated_held (held_of station) (state_of platform))

-- the answer to a request while the responder is busy is one packet, with SOM and EOM: a response of the request's
-- instance ID and kind with completion code ERROR_NOT_READY and no data, and with no other code
abbrev pub BusyAnswersAreOnePacket : Type 0
BusyAnswersAreOnePacket =
    (route : Route) (bytes : List ℕ) (request : Request) → request_of bytes ≡ Ok request
    → (packets route (busy_reply bytes) ≡ packet route true true 0 (busy_reply bytes) ∷ [])
    × (written_packets route (busy_reply bytes) ≡ written (packet route true true 0 (busy_reply bytes)) ∷ [])
    × IsResponse (busy_reply bytes) request.id request.kind ERROR_NOT_READY []
    × ((id : ℕ) (kind : TypeAndCommand) (code : ℕ) (rest : List ℕ)
    → IsResponse (busy_reply bytes) id kind code rest → code ≡ ERROR_NOT_READY)

-- pairs that pass a test are counted in one way only
abbrev pub OneCount : Type 0
OneCount = (test : ℕ → ℕ → Bool) (m n : ℕ) → CountsPairs test m → CountsPairs test n → m ≡ n

-- with a window of all instance IDs none falls out of it
pub record NoIdFallsOut (S : Type 0) (window keep : ℕ) (events : List (Event S)) : Type 0 where
  pub origin : (source id : ℕ) → origin All window keep events source id ≡ each_id.origin keep events source id
  pub copy : (m : Message) → is_copy All window keep events m ≡ each_id.is_copy keep events m
  pub fresh : (m : Message) → is_fresh All window keep events m ≡ each_id.is_fresh keep events m
  pub kept : (source id : ℕ) → is_kept All window keep events source id ≡ each_id.has_fresh keep events source id

abbrev pub AllIdsAreNoWindow : Type 0 → Type 0
AllIdsAreNoWindow S =
    (window keep : ℕ) (events : List (Event S)) → INSTANCE_IDS ≤ window → NoIdFallsOut S window keep events

-- and what is performed, answered and owed is what it is without one
abbrev pub AllIdsPerformAlike : {S : Type 0} → Rules S → Type 0
AllIdsPerformAlike {S} device =
    (window keep : ℕ) (start : S) (events : List (Event S)) → INSTANCE_IDS ≤ window
    → (performed device All window keep start events ≡ each_id.performed device keep start events)
    × ((m : Message)
    → answered device All window keep start events m ≡ each_id.answered device keep start events m)
    × ((own : ℕ) (calls : List (Call S)) (moment : ℕ) (bytes : List ℕ)
    → outcome device own All window keep start calls moment bytes
    ≡ each_id.outcome device own keep start calls moment bytes)
