-- What is written of what happens on a line: a capture of its packets, and a line of text for each drop.
use Rattle.std.specs.Fmt.{decimal}
use Rattle.std.specs.Io.KnownBytes.{Appends}
use Rattle.std.specs.List.{flat_map}
use Rattle.std.specs.Prelude.{◌≡◌, ◌⊎◌, ℕ, Bool, false, true, List, [], ◌∷◌, ◌++◌, codes, Option, None, Some}
use Rattle.hex.specs.Hex.{encode_lower}
use Rattle.mctp_packet.specs.Reasons.{name_of as name_of_reason}
use Rattle.mctp_packet.specs.declared.reason.Reason.{Reason}
use Rattle.mctp_serial.specs.SerialFaults.{name_of}
use Rattle.mctp_serial.specs.declared.fault.SerialFault.{SerialFault}
use Rattle.mctpctl_input.specs.Ports.{has_failed, inner_of}
use Rattle.mctpctl_input.specs.declared.port.Port.{Port}
use Rattle.pldm_line.specs.Events.{Seen, NoFrame, Came, Dropped, Sent, SentControl}
use Rattle.pldm_line.specs.declared.log.Log.{Log}
use Rattle.pldm_line.specs.declared.log.TextLog.{TextLog}

-- a packet of a capture: its moment in milliseconds, a space, its bytes in lower-case hex
abbrev pub capture_line : ℕ → List ℕ → List ℕ
capture_line moment packet = decimal moment ++ 32 ∷ (encode_lower packet ++ 10 ∷ [])

-- packets that were sent at a moment
abbrev pub capture_lines : ℕ → List (List ℕ) → List ℕ
capture_lines moment packets = flat_map (capture_line moment) packets

-- what an event adds to the capture
abbrev pub capture_text : Seen → List ℕ
capture_text (NoFrame fault) = []
capture_text (Came moment packet) = capture_line moment packet
capture_text (Dropped reason) = []
capture_text (Sent moment packets) = capture_lines moment packets
capture_text (SentControl moment packet) = capture_line moment packet

abbrev pub drop_line : Reason → List ℕ
drop_line reason = codes "mctpctl: drop " ++ (name_of_reason reason ++ 10 ∷ [])

abbrev pub no_frame_line : SerialFault → List ℕ
no_frame_line fault = codes "mctpctl: no frame: " ++ (name_of fault ++ 10 ∷ [])

-- what an event adds to the drops
abbrev pub drop_text : Seen → List ℕ
drop_text (NoFrame fault) = no_frame_line fault
drop_text (Came moment packet) = []
drop_text (Dropped reason) = drop_line reason
drop_text (Sent moment packets) = []
drop_text (SentControl moment packet) = []

-- what the writer behind a port holds, and whether the port has failed, where there is a port
abbrev pub port_contents : {W : Type 0} → (W → Option (List ℕ)) → Option (Port W) → Option (List ℕ)
port_contents contents None = None
port_contents contents (Some port) = contents (inner_of port)

abbrev pub port_failed : {W : Type 0} → Option (Port W) → Bool
port_failed None = false
port_failed (Some port) = has_failed port

-- what a text makes of a log of texts. While the log works, the text is added whole. The log fails where its port does;
-- where it fails over a port that has not, there was no memory, and nothing was written. What has failed stays as it
-- is, and so does a log without a port, and every log at an empty text.
pub record AddsText {W : Type 0} (contents : W → Option (List ℕ)) (old : TextLog W) (text : List ℕ) (new : TextLog W)
    : Type 0 where
  pub added : new.failed ≡ false → Appends (port_contents contents old.port) (port_contents contents new.port) text
  pub works : new.failed ≡ false → port_failed new.port ≡ port_failed old.port
  pub fails : old.failed ≡ false → new.failed ≡ true → (port_failed new.port ≡ true) ⊎ (new.port ≡ old.port)
  pub stays : old.failed ≡ true → new ≡ old
  pub no_port : old.port ≡ None → new ≡ old
  pub no_text : text ≡ [] → new ≡ old

-- what an event makes of a log: its texts are added
abbrev pub AddsEvent :
    {N T : Type 0} → (N → Option (List ℕ)) → (T → Option (List ℕ)) → Log N T → Seen → Log N T → Type 0
AddsEvent drops captured old event new =
    AddsText drops old.drops (drop_text event) new.drops
    × AddsText captured old.capture (capture_text event) new.capture

-- what is written, and whether it has failed
abbrev pub drops_contents : {N T : Type 0} → (N → Option (List ℕ)) → Log N T → Option (List ℕ)
drops_contents contents log = port_contents contents log.drops.port

abbrev pub capture_contents : {N T : Type 0} → (T → Option (List ℕ)) → Log N T → Option (List ℕ)
capture_contents contents log = port_contents contents log.capture.port

abbrev pub drops_failed : {N T : Type 0} → Log N T → Bool
drops_failed log = log.drops.failed

abbrev pub capture_failed : {N T : Type 0} → Log N T → Bool
capture_failed log = log.capture.failed
