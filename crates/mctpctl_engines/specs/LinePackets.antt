-- Which packet the bytes of a line spell, or the words that say why they spell none.
use Rattle.std.specs.Prelude.{ℕ, List, Option, None, Some, Result, Ok, Err}
use Rattle.mctp_packet.specs.Packets.{Packet}
use Rattle.mctp_packet.specs.Reading.{reading}
use Rattle.mctp_packet.specs.declared.reason.Reason.{Reason}
use Rattle.mctpctl_input.specs.Bindings.{packet_of}
use Rattle.mctpctl_input.specs.FrameFaults.{name_of}
use Rattle.mctpctl_input.specs.declared.binding.Binding.{Binding}
use Rattle.mctpctl_input.specs.declared.frame_fault.FrameFault.{FrameFault}
use Rattle.mctpctl_texts.specs.ShownLines.{drop_text, no_frame_text}

abbrev pub or_drop : Result Packet Reason → Result Packet (List ℕ)
or_drop (Ok p) = Ok p
or_drop (Err reason) = Err (drop_text reason)

abbrev pub or_no_frame : Result (List ℕ) FrameFault → Result Packet (List ℕ)
or_no_frame (Ok bytes) = or_drop (reading None bytes)
or_no_frame (Err fault) = Err (no_frame_text (name_of fault))

-- with a binding they are a frame, else the bytes of a packet
abbrev pub packet_on : Option Binding → List ℕ → Result Packet (List ℕ)
packet_on None bytes = or_drop (reading None bytes)
packet_on (Some binding) bytes = or_no_frame (packet_of binding bytes)
