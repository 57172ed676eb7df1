-- What happens on a line, as contracts speak of it.
use Rattle.std.specs.Prelude.{ℕ, List}
use Rattle.mctp_packet.specs.Pieces.{written_packets}
use Rattle.mctp_packet.specs.declared.reason.Reason.{Reason}
use Rattle.mctp_serial.specs.declared.fault.SerialFault.{SerialFault}
use Rattle.pldm_line.specs.declared.events.Event.{Event}
use Rattle.pldm_line.specs.declared.events.Event.TheVariants as event

-- an event, with its moment in milliseconds and its bytes
pub data Seen : Type 0 where
  -- bytes after a flag were no frame
  NoFrame : SerialFault → Seen
  -- a packet of these bytes came
  Came : (moment : ℕ) → (packet : List ℕ) → Seen
  -- the packet that just came was dropped, and no control message was answered
  Dropped : Reason → Seen
  -- these packets, the answer to a request, were sent
  Sent : (moment : ℕ) → (packets : List (List ℕ)) → Seen
  -- this packet, the answer to a control message, was sent
  SentControl : (moment : ℕ) → (packet : List ℕ) → Seen

-- what a watcher sees of an event
abbrev pub seen_of : Event → Seen
seen_of (event.NoFrame fault) = NoFrame fault
seen_of (event.Came moment packet) = Came moment packet.now
seen_of (event.Dropped reason) = Dropped reason
seen_of (event.Sent moment route message) = Sent moment (written_packets route message.now)
seen_of (event.SentControl moment packet) = SentControl moment packet.now
