-- What one line of a capture gives, where a packet that came gives a text.
use Rattle.std.specs.Prelude.{ℕ, List, [], Option, None, Some, Result, Ok, Err}
use Rattle.mctpctl_input.specs.CaptureLine.{TimedPacket, capture_of}
use Rattle.mctpctl_input.specs.declared.faults.LineKind.{LineKind}

-- of what is known of the packets that came before, `last` is the moment of the last one, `gives` says what is written
-- of bytes that come at a moment, and `with` puts them to it
module _ {M : Type 0} (last : M → ℕ) (gives : M → ℕ → List ℕ → List ℕ) (with : M → ℕ → List ℕ → M) where
  -- a line that is skipped gives no text
  abbrev pub packet_step : M → Result (Option TimedPacket) LineKind → Result (List ℕ × M) LineKind
  packet_step before (Err kind) = Err kind
  packet_step before (Ok None) = Ok ([], before)
  packet_step before (Ok (Some packet)) =
      Ok (gives before packet.moment packet.bytes, with before packet.moment packet.bytes)

  -- what one line gives
  abbrev pub capture_step : M → List ℕ → Result (List ℕ × M) LineKind
  capture_step before line = packet_step before (capture_of line (last before))
