-- What a watcher of a line sees of the bytes that come, with a reading of the clock for each packet.
use Rattle.std.specs.Prelude.{ℕ, List, [], ◌∷◌, ◌++◌, Option, None, Some}
use Rattle.mctp_control.specs.Dropped.{control_reply}
use Rattle.mctp_control.specs.declared.control_responder.ControlResponder.{ControlResponder}
use Rattle.mctp_packet.specs.declared.reason.Reason.{Reason}
use Rattle.mctp_serial.specs.Readings.{Reading, events_in}
use Rattle.mctp_serial.specs.declared.reader.FrameEvent.{FrameEvent}
use Rattle.mctp_serial.specs.declared.reader.FrameEvent.TheVariants as frame
use Rattle.pldm_line.specs.Events.{Seen, NoFrame, Came, Dropped, Sent, SentControl}
use Rattle.pldm_line.specs.Serving.{Answerers, moment_after, packet_after}
use Rattle.pldm_responder.specs.Performing.{Rules}
use Rattle.pldm_responder.specs.Steps.{received_outcome}
use Rattle.pldm_responder.specs.declared.outcome.Outcome.{Outcome}
use Rattle.pldm_responder.specs.declared.outcome.Outcome.TheVariants as outcome

-- a packet that the responder dropped, with the answer where it was a control message that is answered
abbrev pub drop_seen : ℕ → Reason → Option (List ℕ) → List Seen
drop_seen moment reason None = Dropped reason ∷ []
drop_seen moment reason (Some reply) = SentControl moment reply ∷ []

-- what became of a packet, of which this came at the responder: of a part of a message nothing is seen
abbrev pub outcome_seen : ControlResponder → ℕ → List ℕ → Outcome → List Seen
outcome_seen control moment packet (outcome.Dropped reason) =
    drop_seen moment reason (control_reply control moment reason packet)
outcome_seen control moment packet outcome.Partial = []
outcome_seen control moment packet (outcome.Answered fresh changed packets) = Sent moment packets ∷ []

module _ {S : Type 0} (device : Rules S) where
  -- a packet came at a moment, and then what became of it
  abbrev pub packet_seen : Answerers S → ℕ → List ℕ → List Seen
  packet_seen a moment packet =
      Came moment packet ∷ outcome_seen a.control moment packet (received_outcome device a.held moment packet)

  -- what is seen of frames, with a reading for each packet
  abbrev pub frames_seen : Answerers S → List FrameEvent → List ℕ → List Seen
  frames_seen a [] readings = []
  frames_seen a (frame.Nothing ∷ events) readings = frames_seen a events readings
  frames_seen a (frame.Dropped fault ∷ events) readings = NoFrame fault ∷ frames_seen a events readings
  frames_seen a (frame.Packet packet ∷ events) [] = []
  frames_seen a (frame.Packet packet ∷ events) (reading ∷ readings) =
      packet_seen a (moment_after a.held.last reading) packet.items
      ++ frames_seen (packet_after device a (moment_after a.held.last reading) packet.items) events readings

  -- what is seen of bytes
  abbrev pub bytes_seen : Answerers S → Reading → List ℕ → List ℕ → List Seen
  bytes_seen a reading bytes readings = frames_seen a (events_in reading bytes) readings
