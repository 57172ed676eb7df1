-- What a device that is served over a serial line writes of the bytes that come and of the clock's readings.
use Rattle.std.specs.Prelude.{ℕ, ◌==◌, max, min, List, [], ◌∷◌, ◌++◌, Option, None, Some, if◌then◌else◌}
use Rattle.std.specs.List.{flat_map}
use Rattle.mctp_control.specs.Dropped.{control_left, control_reply}
use Rattle.mctp_control.specs.declared.control_responder.ControlResponder.{ControlResponder}
use Rattle.mctp_packet.specs.declared.TheConstants.{MAX_MOMENT}
use Rattle.mctp_serial.specs.Frames.{frame}
use Rattle.mctp_serial.specs.Readings.{Reading, events_in}
use Rattle.mctp_serial.specs.declared.reader.FrameEvent.{FrameEvent}
use Rattle.mctp_serial.specs.declared.reader.FrameEvent.TheVariants.{Nothing, Packet, Dropped}
use Rattle.mctpctl_input.specs.CaptureLine.{TimedPacket}
use Rattle.pldm_responder.specs.ResponderStates.{ResponderState}
use Rattle.pldm_responder.specs.Performing.{Rules}
use Rattle.pldm_responder.specs.Steps.{assigned_held, received_commands, received_held, received_outcome}
use Rattle.pldm_responder.specs.declared.outcome.Outcome.{Outcome}
use Rattle.pldm_responder.specs.declared.outcome.Outcome.TheVariants as outcome
use Rattle.pldm_wire.specs.declared.command.Command.{Command}

-- the packets of what came
abbrev pub packets_of : List FrameEvent → List (List ℕ)
packets_of [] = []
packets_of (Nothing ∷ seen) = packets_of seen
packets_of (Packet packet ∷ seen) = packet.items ∷ packets_of seen
packets_of (Dropped fault ∷ seen) = packets_of seen

-- the packets whose frames end in the bytes
abbrev pub packets_in : Reading → List ℕ → List (List ℕ)
packets_in reading bytes = packets_of (events_in reading bytes)

-- the latest of the readings so far, and no later than the greatest moment
abbrev pub moment_after : ℕ → ℕ → ℕ
moment_after last reading = max last (min reading MAX_MOMENT)

-- packets at their moments, a reading for each
abbrev pub timed : ℕ → List ℕ → List (List ℕ) → List TimedPacket
timed last [] packets = []
timed last (reading ∷ readings) [] = []
timed last (reading ∷ readings) (packet ∷ packets) =
    record { moment = moment_after last reading; bytes = packet } ∷ timed (moment_after last reading) readings packets

-- what answers on a line: the responder, by what it holds, and the control responder
pub record Answerers (S : Type 0) : Type 0 where
  pub held : ResponderState S
  pub control : ControlResponder

abbrev pub answerers : {S : Type 0} → ResponderState S → ControlResponder → Answerers S
answerers held control = record { held = held; control = control }

abbrev pub frames_if : Option (List ℕ) → List ℕ
frames_if None = []
frames_if (Some packet) = frame packet

-- the frames of the answer to a packet at a moment, of which this came at the responder
abbrev pub frames_of : ControlResponder → ℕ → List ℕ → Outcome → List ℕ
frames_of control moment packet (outcome.Dropped reason) = frames_if (control_reply control moment reason packet)
frames_of control moment packet outcome.Partial = []
frames_of control moment packet (outcome.Answered fresh changed packets) = flat_map frame packets

-- the responder gets the endpoint ID that the control responder has, where that is another than its own
abbrev pub with_eid : {S : Type 0} → ResponderState S → ℕ → Option ℕ → ResponderState S
with_eid held moment None = held
with_eid held moment (Some eid) = if held.own == eid then held else assigned_held held moment eid

-- both have one endpoint ID
abbrev pub in_step : {S : Type 0} → ResponderState S → ℕ → ControlResponder → Answerers S
in_step held moment control = answerers (with_eid held moment control.eid) control

-- what answers after a packet at a moment, of which this came at the responder, which then holds this
abbrev pub answerers_after : {S : Type 0} → ResponderState S → ℕ → ControlResponder → List ℕ → Outcome → Answerers S
answerers_after held moment control packet (outcome.Dropped reason) =
    in_step held moment (control_left control moment reason packet)
answerers_after held moment control packet outcome.Partial = answerers held control
answerers_after held moment control packet (outcome.Answered fresh changed packets) = answerers held control

module _ {S : Type 0} (device : Rules S) where
  -- the frames of the answer to a packet at a moment
  abbrev pub packet_frames : Answerers S → ℕ → List ℕ → List ℕ
  packet_frames a moment packet = frames_of a.control moment packet (received_outcome device a.held moment packet)

  -- what answers after a packet at a moment: the responder comes first
  abbrev pub packet_after : Answerers S → ℕ → List ℕ → Answerers S
  packet_after a moment packet =
      answerers_after (received_held device a.held moment packet) moment a.control packet
      (received_outcome device a.held moment packet)

  -- what answers after packets at their moments
  abbrev pub packets_after : Answerers S → List TimedPacket → Answerers S
  packets_after a [] = a
  packets_after a (packet ∷ packets) = packets_after (packet_after a packet.moment packet.bytes) packets

  -- the frames of the answers to packets at their moments
  abbrev pub answers : Answerers S → List TimedPacket → List ℕ
  answers a [] = []
  answers a (packet ∷ packets) =
      packet_frames a packet.moment packet.bytes ++ answers (packet_after a packet.moment packet.bytes) packets

  -- the commands that the platform performs for packets at their moments, the newest first
  abbrev pub commands : Answerers S → List TimedPacket → List Command
  commands a [] = []
  commands a (packet ∷ packets) =
      commands (packet_after a packet.moment packet.bytes) packets
      ++ received_commands a.held packet.moment packet.bytes

  -- the packets whose frames end in the bytes, at their moments
  abbrev pub came : Answerers S → Reading → List ℕ → List ℕ → List TimedPacket
  came a reading bytes readings = timed a.held.last readings (packets_in reading bytes)
