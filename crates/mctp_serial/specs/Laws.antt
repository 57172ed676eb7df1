-- Laws over the definitions alone.
use Rattle.std.specs.Prelude.{◌≡◌, ℕ, ◌<◌, List, [], ◌∷◌, ◌++◌, Bool, true, false}
use Rattle.mctp_serial.specs.CheckLaws.{AreBytes}
use Rattle.mctp_serial.specs.Frames.{HasFrame, frame}
use Rattle.mctp_serial.specs.Readings.{Reading, idle, opened, high, low, packet_of, step, after, events_in}
use Rattle.mctp_serial.specs.declared.TheConstants.{FLAG}

-- what is written is read back, by a reader that waits for a frame
abbrev pub ReadsBack : Type 0
ReadsBack =
    (packet rest : List ℕ) → HasFrame packet
    → (events_in idle (frame packet ++ rest) ≡ packet_of packet ∷ events_in opened rest)
    × (events_in opened (frame packet ++ rest) ≡ packet_of packet ∷ events_in opened rest)

-- a packet is reported only where the bytes end with its frame
abbrev pub OnlyFramesAreReported : Type 0
OnlyFramesAreReported =
    (bytes packet : List ℕ) (byte : ℕ)
    → AreBytes bytes → byte < 256 → (step (after idle bytes) byte).event ≡ packet_of packet
    → HasFrame packet × ((before : List ℕ) × (bytes ++ byte ∷ [] ≡ before ++ frame packet))

-- in whatever pieces the bytes come
abbrev pub PiecesJoin : Type 0
PiecesJoin =
    (reading : Reading) (a b : List ℕ)
    → (events_in reading (a ++ b) ≡ events_in reading a ++ events_in (after reading a) b)
    × (after reading (a ++ b) ≡ after (after reading a) b)

-- three flags open a frame wherever the reader stands
abbrev pub ThreeFlagsOpen : Type 0
ThreeFlagsOpen = (reading : Reading) → after reading (FLAG ∷ FLAG ∷ FLAG ∷ []) ≡ opened

-- the next byte is one of the check sequence
abbrev pub is_at_check : Reading → Bool
is_at_check (high bytes) = true
is_at_check (low bytes first) = true
is_at_check reading = false

-- one flag opens a frame where the next byte is not one of the check sequence
abbrev pub OneFlagOpens : Type 0
OneFlagOpens = (reading : Reading) → is_at_check reading ≡ false → after reading (FLAG ∷ []) ≡ opened
