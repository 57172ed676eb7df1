-- What a responder owes, read by looking back over the list of all its calls, the newest first.
use Rattle.std.specs.Prelude.{ℕ, ℤ, ◌==◌, true, false, List, [], ◌∷◌, Result, Ok, Err, if◌then◌else◌}
use Rattle.mctp_packet.specs.Packets.{Packet}
use Rattle.mctp_packet.specs.declared.TheConstants.{NULL_EID}
use Rattle.mctp_packet.specs.declared.reason.Reason.{Reason}
use Rattle.mctp_assembly.specs.Histories as assembly
use Rattle.mctp_assembly.specs.Keys.{key_of}
use Rattle.mctp_assembly.specs.Rows as rows
use Rattle.mctp_assembly.specs.declared.fed.Fed.{Fed}
use Rattle.mctp_assembly.specs.declared.key.Key.{Key}
use Rattle.pldm_wire.specs.declared.restart_policy.RestartPolicy.{RestartPolicy}
use Rattle.pldm_responder.specs.Events.{Message, Event, Came, Set, Restarted, Changed, is_copy, is_refused}
use Rattle.pldm_responder.specs.Performing.{Rules, changes, busy_reply, performed, answered}
use Rattle.pldm_responder.specs.Arrivals.{Arrival, Drop, Part, Whole, arrival, request_packet, packets_back}
use Rattle.pldm_responder.specs.declared.outcome.Outcome.{Outcome}
use Rattle.pldm_responder.specs.declared.outcome.Outcome.TheVariants.{Dropped, Partial, Answered}

-- bytes that were received at a moment, a reading that was set, a restart at a moment, a change from outside that left
-- the platform in a state, an open message that ended so that another had room, or another endpoint ID that was
-- assigned at a moment to an end which had this one before, the null one where it had none
pub data Call (S : Type 0) : Type 0 where
  Received : (moment : ℕ) → (bytes : List ℕ) → Call S
  Sensed : (id : ℕ) → (value : ℤ) → Call S
  Restart : (moment : ℕ) → Call S
  Updated : (state : S) → Call S
  Ended : (key : Key) → Call S
  Assigned : (moment : ℕ) → (before : ℕ) → Call S

-- a packet that passes comes to assembly
abbrev pub with_packet : Result Packet Reason → List assembly.Call → List assembly.Call
with_packet (Ok p) packets = assembly.feed p ∷ packets
with_packet (Err reason) packets = packets

-- `own` is the endpoint ID that the end has after the calls, the null one where none was assigned yet: no packet is
-- addressed to it then

-- the packets that came to assembly since the last restart or assignment, and the keys that were forgotten
abbrev pub fed : {S : Type 0} → ℕ → List (Call S) → List assembly.Call
fed own [] = []
fed own (Received moment bytes ∷ calls) = with_packet (request_packet own bytes) (fed own calls)
fed own (Sensed id value ∷ calls) = fed own calls
fed own (Restart moment ∷ calls) = []
fed own (Updated state ∷ calls) = fed own calls
fed own (Ended key ∷ calls) = assembly.forget key ∷ fed own calls
fed own (Assigned moment before ∷ calls) = []

-- what a packet gives after those of its key that came before
abbrev pub looked_back : List assembly.Call → Packet → Fed
looked_back packets p = rows.next (assembly.since (key_of p) packets) p

-- what bytes bring at this moment, after these calls
abbrev pub arrived : {S : Type 0} → ℕ → List (Call S) → ℕ → List ℕ → Arrival
arrived own calls moment bytes = arrival (looked_back (fed own calls)) own moment bytes

abbrev pub with_arrival : {S : Type 0} → Arrival → List (Event S) → List (Event S)
with_arrival (Drop reason) events = events
with_arrival Part events = events
with_arrival (Whole m) events = Came m ∷ events

-- an end that gets another endpoint ID restarts; one that had none before performed nothing, and serves as before
abbrev pub with_assigned : {S : Type 0} → ℕ → ℕ → List (Event S) → List (Event S)
with_assigned moment before events = if before == NULL_EID then events else Restarted moment ∷ events

-- the whole messages with good headers, the readings, the restarts and the changes from outside
abbrev pub events : {S : Type 0} → ℕ → List (Call S) → List (Event S)
events own [] = []
events own (Received moment bytes ∷ calls) = with_arrival (arrived own calls moment bytes) (events own calls)
events own (Sensed id value ∷ calls) = Set id value ∷ events own calls
events own (Restart moment ∷ calls) = Restarted moment ∷ events own calls
events own (Updated state ∷ calls) = Changed state ∷ events own calls
events own (Ended key ∷ calls) = events own calls
events own (Assigned moment before ∷ calls) = with_assigned moment before (events before calls)

-- the moment of the last call that had one, 0 where none had
abbrev pub last_moment : {S : Type 0} → List (Call S) → ℕ
last_moment [] = 0
last_moment (Received moment bytes ∷ calls) = moment
last_moment (Sensed id value ∷ calls) = last_moment calls
last_moment (Restart moment ∷ calls) = moment
last_moment (Updated state ∷ calls) = last_moment calls
last_moment (Ended key ∷ calls) = last_moment calls
last_moment (Assigned moment before ∷ calls) = moment

module _ {S : Type 0} (device : Rules S) (own : ℕ) (busy : RestartPolicy) (window keep : ℕ) (start : S) where
  -- the outcome that is expected to a message after these events: refused as busy, a copy, or fresh
  abbrev pub answer_expected : List (Event S) → Message → Outcome
  answer_expected events m =
      if is_refused busy keep events m then Answered false false (packets_back own m (busy_reply m.bytes))
      else (if is_copy busy window keep events m
      then Answered false false (packets_back own m (answered device busy window keep start events m))
      else Answered true (changes device (performed device busy window keep start events) m.bytes)
      (packets_back own m (answered device busy window keep start events m)))

  -- the same, of what a packet brings
  abbrev pub outcome_expected : List (Event S) → Arrival → Outcome
  outcome_expected events (Drop reason) = Dropped reason
  outcome_expected events Part = Partial
  outcome_expected events (Whole m) = answer_expected events m

  -- the outcome of bytes that are received at a moment after these calls
  abbrev pub outcome : List (Call S) → ℕ → List ℕ → Outcome
  outcome calls moment bytes = outcome_expected (events own calls) (arrived own calls moment bytes)
