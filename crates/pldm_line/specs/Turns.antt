-- What a line that asks does turn by turn, by looking back over the turns, the newest first.
use Rattle.std.specs.List.{flat_map}
use Rattle.std.specs.Prelude.{◌≡◌, ◌⊎◌, ℕ, ◌+◌, Bool, true, false, nat_le, nat_lt, ◌&&◌, length}
use Rattle.std.specs.Prelude.{List, [], ◌∷◌, ◌++◌, Option, None, Some, if◌then◌else◌}
use Rattle.mctp_packet.specs.declared.TheConstants.{MAX_PACKET_BYTES}
use Rattle.mctp_serial.specs.Frames.{frame}
use Rattle.mctp_serial.specs.Readings.{Reading, after, idle, step}
use Rattle.pldm_line.specs.declared.quiet.Quiet.{Quiet}
use Rattle.pldm_line.specs.declared.quiet.TheConstants.{END_MS, END_READS}
use Rattle.pldm_line.specs.Serving.{moment_after, packets_in}
use Rattle.pldm_requester.specs.Steps.{RequesterState, Memo, again_at, got_at, paced_at_first, received_held, ticked_held, at_hand}
use Rattle.pldm_requester.specs.declared.pace.Pace.{Pace}
use Rattle.pldm_requester.specs.declared.results.Got.TheVariants.{Partial}
use Rattle.pldm_requester.specs.declared.timing.Timing.{Timing}

-- the bytes that a read gave, and the reading of the clock after it
pub record Turn : Type 0 where
  pub bytes : List ℕ
  pub clock : ℕ

-- what the requester holds, where the reader of frames stands, and the reads of 0 bytes in a row
pub record Asking : Type 0 where
  pub held : RequesterState
  pub reading : Reading
  pub quiet : Quiet

abbrev pub quiet_from : ℕ → Quiet
quiet_from moment = record { since = moment; reads = 0 }

abbrev pub one_more : Quiet → Quiet
one_more quiet = record quiet { reads = if nat_lt quiet.reads END_READS then quiet.reads + 1 else quiet.reads }

-- reads of 0 bytes count from the last one that gave bytes, and anew once they took so long
abbrev pub quiet_after : Bool → Quiet → ℕ → Quiet
quiet_after false quiet moment = quiet_from moment
quiet_after true quiet moment =
    if nat_le (quiet.since + END_MS) moment then quiet_from moment else one_more quiet

-- so many that took less are the end of the line
abbrev pub is_end : Quiet → Bool
is_end quiet = nat_le END_READS quiet.reads

abbrev pub is_none : List ℕ → Bool
is_none [] = true
is_none (byte ∷ bytes) = false

-- the frame of a packet, where it has one
abbrev pub framed : List ℕ → List ℕ
framed packet =
    if nat_le 1 (length packet) && nat_le (length packet) MAX_PACKET_BYTES then frame packet else []

abbrev pub memo_frames : Option Memo → List ℕ
memo_frames None = []
memo_frames (Some memo) = flat_map framed memo.packets

-- the frames of the packets of these requests
abbrev pub frames_of : RequesterState → List ℕ → List ℕ
frames_of held numbers = flat_map (λ number. memo_frames (at_hand held number)) numbers

-- what is held after packets that came at a moment
abbrev pub received : RequesterState → ℕ → List (List ℕ) → RequesterState
received held moment [] = held
received held moment (packet ∷ packets) = received (received_held held moment packet) moment packets

-- one of these packets is a part of a message whose others are to come: it has to be kept
abbrev pub WantsMemory : RequesterState → ℕ → List (List ℕ) → Type 0
WantsMemory held moment [] = ⊥
WantsMemory held moment (packet ∷ packets) =
    (got_at held packet ≡ Partial) ⊎ WantsMemory (received_held held moment packet) moment packets

-- a byte was read at a moment, and where it ended the frame of a packet, that came: what is held of more bytes is that
-- of the rest of them
pub record HearsByte (h : RequesterState) (r : Reading) (moment byte : ℕ) (h1 : RequesterState) (r1 : Reading)
    : Type 0 where
  pub held :
      (bytes : List ℕ) → received h moment (packets_in r (byte ∷ bytes)) ≡ received h1 moment (packets_in r1 bytes)
  pub wants :
      (bytes : List ℕ) → WantsMemory h1 moment (packets_in r1 bytes) → WantsMemory h moment (packets_in r (byte ∷ bytes))
  pub reading : (step r byte).next ≡ r1

abbrev pub at_first : ℕ → ℕ → Timing → Pace → Asking
at_first own device timing pace =
    record { held = paced_at_first own device timing pace; reading = idle; quiet = quiet_from 0 }

module _ (a : Asking) (turn : Turn) where
  -- the latest of the readings so far
  abbrev pub moment_of : ℕ
  moment_of = moment_after a.held.last turn.clock

  -- what is held once the packets came whose frames end in the bytes
  abbrev pub heard : RequesterState
  heard = received a.held moment_of (packets_in a.reading turn.bytes)

  -- the frames that go out: those of the requests that the requester then sends again
  abbrev pub sent_frames : List ℕ
  sent_frames = frames_of heard (again_at heard moment_of)

  abbrev pub after_turn : Asking
  after_turn = record {
    held = ticked_held heard moment_of;
    reading = after a.reading turn.bytes;
    quiet = quiet_after (is_none turn.bytes) a.quiet moment_of;
  }

abbrev pub after_turns : Asking → List Turn → Asking
after_turns a [] = a
after_turns a (turn ∷ turns) = after_turn (after_turns a turns) turn

-- what was read, which readings the clock gave, and what was written
abbrev pub bytes_read : List Turn → List ℕ
bytes_read [] = []
bytes_read (turn ∷ turns) = bytes_read turns ++ turn.bytes

abbrev pub readings : List Turn → List ℕ
readings [] = []
readings (turn ∷ turns) = readings turns ++ turn.clock ∷ []

abbrev pub all_sent : Asking → List Turn → List ℕ
all_sent a [] = []
all_sent a (turn ∷ turns) = all_sent a turns ++ sent_frames (after_turns a turns) turn
