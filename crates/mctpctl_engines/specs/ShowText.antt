-- What `mctpctl show` writes of a capture, by looking back over all packets that came. Each endpoint that packets
-- go to has an assembler of its own. `binding` says which frames stand on the lines, if they are not bare packets.
use Rattle.std.specs.Prelude.{ℕ, ◌==◌, nat_lt, Bool, if◌then◌else◌, List, [], ◌∷◌, length, take}
use Rattle.std.specs.Prelude.{Option, Result, Ok, Err}
use Rattle.line_words.specs.TextLines.{lines_of}
use Rattle.mctp_assembly.specs.Histories.{Call, feed, since}
use Rattle.mctp_assembly.specs.Keys.{key_of}
use Rattle.mctp_assembly.specs.Rows.{next}
use Rattle.mctp_assembly.specs.declared.fed.Fed.{Fed}
use Rattle.mctp_packet.specs.Packets.{Packet}
use Rattle.mctpctl_input.specs.declared.binding.Binding.{Binding}
use Rattle.mctpctl_engines.specs.LinePackets.{packet_on}
use Rattle.mctpctl_engines.specs.MessageForms.{Message, whole_message, with_read}
use Rattle.mctpctl_input.specs.CaptureLine.{TimedPacket}
use Rattle.mctpctl_engines.specs.CaptureRuns.{capture_step}
use Rattle.mctpctl_engines.specs.LineRuns.{Written, lines_written}
use Rattle.mctpctl_texts.specs.ShownLines.{shown_text}
use Rattle.mctpctl_input.specs.declared.faults.LineKind.{LineKind}
use Rattle.mctpctl_input.specs.declared.limits.TheConstants.{MAX_INPUT}

-- the moment of the newest packet, 0 before the first
abbrev pub last_seen : List TimedPacket → ℕ
last_seen [] = 0
last_seen (packet ∷ before) = packet.moment

-- one packet more for the assembler of a destination, if it goes there
abbrev pub fed_more : ℕ → Result Packet (List ℕ) → List Call → List Call
fed_more destination (Err words) calls = calls
fed_more destination (Ok p) calls = if p.route.destination == destination then feed p ∷ calls else calls

-- what came for a destination, the newest first
abbrev pub fed_to : Option Binding → ℕ → List TimedPacket → List Call
fed_to binding destination [] = []
fed_to binding destination (packet ∷ before) =
    fed_more destination (packet_on binding packet.bytes) (fed_to binding destination before)

-- what a packet gives after those of its destination, source, tag and tag owner
abbrev pub gives_after : Option Binding → List TimedPacket → Packet → Fed
gives_after binding seen p = next (since (key_of p) (fed_to binding p.route.destination seen)) p

abbrev pub seen_with : List TimedPacket → ℕ → List ℕ → List TimedPacket
seen_with seen moment bytes = record { moment = moment; bytes = bytes } ∷ seen

-- the whole messages that the packets completed, the newest first
abbrev pub messages_of : Option Binding → List TimedPacket → List Message
messages_of binding [] = []
messages_of binding (packet ∷ before) =
    with_read (λ messages m. m ∷ messages) (messages_of binding before) (packet_on binding packet.bytes)
    (gives_after binding before)

-- `line` says how the line of a whole message is written, after those before it
module _ (binding : Option Binding) (line : List Message → Message → List ℕ) where
  abbrev pub seen_text : List TimedPacket → ℕ → List ℕ → List ℕ
  seen_text seen moment bytes =
      shown_text (λ route body. line (messages_of binding seen) (whole_message route body)) moment
      (packet_on binding bytes) (gives_after binding seen)

  -- what one line gives, by looking back over all packets that came
  abbrev pub seen_step : List TimedPacket → List ℕ → Result (List ℕ × List TimedPacket) LineKind
  seen_step = capture_step last_seen seen_text seen_with

  -- the run over a capture's bytes, of which there are more where it is cut
  abbrev pub seen_run : Bool → List ℕ → Written
  seen_run is_cut text = lines_written seen_step is_cut 1 [] (lines_of text)

  -- the run over all that a reader gives: the bytes past the limit are not looked at
  abbrev pub show_text : List ℕ → Written
  show_text all = seen_run (nat_lt MAX_INPUT (length all)) (take MAX_INPUT all)
