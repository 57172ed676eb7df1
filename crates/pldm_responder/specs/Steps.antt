-- One call of a responder over what it holds.
use Rattle.std.specs.FinMap as map
use Rattle.std.specs.Prelude.{ℕ, ◌+◌, ℤ, List, [], take, Bool, true, false, ◌&&◌, ◌==◌, not, nat_lt, bytes_eq, Option, Some, None, Result, Ok, Err, if◌then◌else◌}
use Rattle.mctp_packet.specs.Packets.{Packet}
use Rattle.mctp_packet.specs.declared.TheConstants.{NULL_EID}
use Rattle.mctp_packet.specs.declared.reason.Reason.{Reason}
use Rattle.mctp_assembly.specs.Steps as assembly
use Rattle.pldm_wire.specs.Headers.{id_at}
use Rattle.pldm_wire.specs.Kinds.{TypeAndCommand}
use Rattle.pldm_wire.specs.declared.command.Command.{Command}
use Rattle.pldm_platform.specs.Changes.{changed_or}
use Rattle.pldm_responder.specs.Events.{Message, refuses_bytes}
use Rattle.pldm_responder.specs.ResponderStates.{Entry, ResponderState, id_in}
use Rattle.pldm_responder.specs.Performing.{Rules, Task, reply, next, changes, busy_reply, commands_of, tasks_of}
use Rattle.pldm_responder.specs.Arrivals.{Arrival, Drop, Part, Whole, arrival, passed_arrival, request_packet, packets_back}
use Rattle.pldm_responder.specs.Recency.{of_number, renewed}
use Rattle.pldm_responder.specs.declared.outcome.Outcome.{Outcome}
use Rattle.pldm_responder.specs.declared.outcome.Outcome.TheVariants.{Dropped, Partial, Answered}

-- m repeats the message of this kept answer within the keeping time
abbrev pub repeats : ℕ → Message → Option Entry → Bool
repeats keep m None = false
repeats keep m (Some e) = bytes_eq m.bytes e.bytes && nat_lt m.moment (e.moment + keep)

-- the packets of this kept answer, where m repeats its message
abbrev pub copied_packets : ℕ → ℕ → Message → Option Entry → Option (List (List ℕ))
copied_packets own keep m None = None
copied_packets own keep m (Some e) =
    if repeats keep m (Some e) then Some (packets_back own m e.answer) else None

module _ {S : Type 0} (held : ResponderState S) where
  -- the answer that is kept for a source and an instance ID
  abbrev pub kept_for : ℕ → ℕ → Option Entry
  kept_for source id = of_number id_in id (held.kept source)

  -- the kept answer of m's source and instance ID
  abbrev pub entry_for : Message → Option Entry
  entry_for m = kept_for m.source (id_at m.bytes)

  -- m is refused in the busy time
  abbrev pub refuses_now : Message → Bool
  refuses_now m = refuses_bytes held.busy m.bytes && nat_lt m.moment held.serves_from

  -- m is performed: it is not refused in the busy time, and no copy
  abbrev pub performs : Message → Bool
  performs m = not (refuses_now m) && not (repeats held.keep m (entry_for m))

  -- what these bytes bring
  abbrev pub received_arrival : ℕ → List ℕ → Arrival
  received_arrival moment bytes = arrival (assembly.answer held.open_messages) held.own moment bytes

  -- what an arrival asks, where `asks` says what the bytes of a fresh message do
  abbrev pub arrival_asks : {A : Type 0} → (List ℕ → List A) → Arrival → List A
  arrival_asks asks (Drop reason) = []
  arrival_asks asks Part = []
  arrival_asks asks (Whole m) = if performs m then asks m.bytes else []

  -- the commands that the platform performs for an arrival: that of a fresh message, where it carries one
  abbrev pub arrival_commands : Arrival → List Command
  arrival_commands a = arrival_asks commands_of a

  -- the commands that it performs for bytes that are received at a moment
  abbrev pub received_commands : ℕ → List ℕ → List Command
  received_commands moment bytes = arrival_commands (received_arrival moment bytes)

  -- what is asked for bytes of a device that these requests are handed on to as bytes
  abbrev pub received_tasks : (TypeAndCommand → Bool) → ℕ → List ℕ → List Task
  received_tasks hands_on moment bytes = arrival_asks (tasks_of hands_on) (received_arrival moment bytes)

  -- what is held after a restart: no kept answers and no open messages
  abbrev pub restarted_held : ℕ → ResponderState S
  restarted_held moment = record held {
    open_messages = map.empty;
    kept = λ source. [];
    serves_from = moment + held.keep;
    last = moment;
  }

  -- what is held once another endpoint ID was assigned: what a restart leaves; where it had none before, it held
  -- nothing and serves as before
  abbrev pub assigned_held : ℕ → ℕ → ResponderState S
  assigned_held moment eid = record (if held.own == NULL_EID then held else restarted_held moment) {
    own = eid;
    open_messages = map.empty;
    last = moment;
  }

  -- what is held after a change from outside, which left the platform in this state
  abbrev pub updated_held : S → ResponderState S
  updated_held state = record held { state = state }

-- a packet that passes comes to assembly
abbrev pub open_after : assembly.OpenMessages → Result Packet Reason → assembly.OpenMessages
open_after open_messages (Ok p) = assembly.after open_messages p
open_after open_messages (Err reason) = open_messages

module _ {S : Type 0} (device : Rules S) (held : ResponderState S) where
  -- a copy, or fresh
  abbrev pub served : Message → Option (List (List ℕ)) → Outcome
  served m (Some packets) = Answered false false packets
  served m None =
      Answered true (changes device held.state m.bytes) (packets_back held.own m (reply device held.state m.bytes))

  -- the outcome of a message: busy, a copy, or fresh
  abbrev pub message_outcome : Message → Outcome
  message_outcome m =
      if refuses_now held m then Answered false false (packets_back held.own m (busy_reply m.bytes))
      else served m (copied_packets held.own held.keep m (entry_for held m))

  abbrev pub entry_of : Message → Entry
  entry_of m = record { moment = m.moment; bytes = m.bytes; answer = reply device held.state m.bytes }

  -- what is kept for each source after m: a fresh one's answer comes first, and what is past the window falls out
  abbrev pub kept_after : Message → ℕ → List Entry
  kept_after m source =
      if m.source == source && performs held m
      then take held.window (renewed id_in (entry_of m) (held.kept source))
      else held.kept source

  abbrev pub state_after : Message → S
  state_after m = if performs held m then next device held.state m.bytes else held.state

  abbrev pub arrival_outcome : Arrival → Outcome
  arrival_outcome (Drop reason) = Dropped reason
  arrival_outcome Part = Partial
  arrival_outcome (Whole m) = message_outcome m

  -- what is held after an arrival, but for the open messages and the moment
  abbrev pub arrival_held : Arrival → ResponderState S
  arrival_held (Drop reason) = held
  arrival_held Part = held
  arrival_held (Whole m) = record held { kept = kept_after m; state = state_after m }

  -- the outcome of bytes that are received at a moment
  abbrev pub received_outcome : ℕ → List ℕ → Outcome
  received_outcome moment bytes = arrival_outcome (received_arrival held moment bytes)

  -- what is held after a packet that passed, or one that did not, but for the moment
  abbrev pub passed_held : ℕ → Result Packet Reason → ResponderState S
  passed_held moment read =
      record (arrival_held (passed_arrival (assembly.answer held.open_messages) moment read)) {
        open_messages = open_after held.open_messages read;
      }

  -- what is held after bytes that are received
  abbrev pub received_held : ℕ → List ℕ → ResponderState S
  received_held moment bytes = record (passed_held moment (request_packet held.own bytes)) { last = moment }

  -- what is held after a reading: a refused one changes nothing
  abbrev pub sensed_held : ℕ → ℤ → ResponderState S
  sensed_held id value = record held { state = changed_or held.state (device.sensed held.state id value) }
