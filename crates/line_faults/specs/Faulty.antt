-- The frames in the bytes of one direction of a line, and what becomes of each.
use Rattle.std.specs.Prelude.{ℕ, ◌+◌, ◌%◌, ◌^◌, List, Option, None, Some}
use Rattle.line_faults.specs.Fates.{fate_of}
use Rattle.line_faults.specs.declared.fate.Fate.{Fate}
use Rattle.line_faults.specs.declared.fate.LineFaults.{LineFaults}
use Rattle.line_faults.specs.declared.faulty.FaultyPacket.{FaultyPacket}
use Rattle.mctp_serial.specs.Readings.{Reading, idle, step}
use Rattle.mctp_serial.specs.declared.reader.FrameEvent.{FrameEvent}
use Rattle.mctp_serial.specs.declared.reader.FrameEvent.TheVariants.{Nothing, Packet, Dropped}

-- the faults of a direction, where its reader of frames stands, and the number of its next frame
pub record FaultyState : Type 0 where
  pub faults : LineFaults
  pub reading : Reading
  pub number : ℕ

-- nothing has come; its first frame has this number
abbrev pub begun : LineFaults → ℕ → FaultyState
begun faults number = record { faults = faults; reading = idle; number = number }

-- a packet, and what becomes of its frame
pub record Passed : Type 0 where
  pub packet : List ℕ
  pub fate : Fate

abbrev pub passed_by : FaultyPacket → Passed
passed_by p = record { packet = p.packet.items; fate = p.fate }

-- what becomes of an event, whose frame would have this number
abbrev pub passed_at : LineFaults → ℕ → FrameEvent → Option Passed
passed_at faults number Nothing = None
passed_at faults number (Packet packet) = Some (record { packet = packet.items; fate = fate_of faults number })
passed_at faults number (Dropped fault) = None

-- the number of the next frame: the other direction has the ones between
abbrev pub number_after : ℕ → FrameEvent → ℕ
number_after number Nothing = number
number_after number (Packet packet) = (number + 2) % 2 ^ 64
number_after number (Dropped fault) = number

-- what a byte gives
abbrev pub passed : FaultyState → ℕ → Option Passed
passed f byte = passed_at f.faults f.number (step f.reading byte).event

-- what is left after it
abbrev pub left : FaultyState → ℕ → FaultyState
left f byte = record {
  faults = f.faults;
  reading = (step f.reading byte).next;
  number = number_after f.number (step f.reading byte).event;
}
