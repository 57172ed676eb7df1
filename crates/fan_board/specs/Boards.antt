-- The state of a fan board, and what the board does by itself while time passes.
use Rattle.std.specs.Prelude.{ℕ, ◌+◌, ◌-◌, ◌*◌, ◌/◌, ◌==◌, List, [], ◌∷◌, count_by, min, max, if◌then◌else◌}
use Rattle.fan_board.specs.declared.board.TheConstants.{COLDEST, HOTTEST, FIRST_DEGREES, SECOND}

pub record BoardState : Type 0 where
  -- the speeds of its fans in percent, that of the first fan first
  pub speeds : List ℕ
  -- degrees Celsius
  pub degrees : ℕ
  -- the moment in milliseconds up to which the degrees are worked out
  pub since : ℕ
  -- how many transfers went over its bus since the last that failed
  pub transfers : ℕ

-- a new board: its two fans stand still, at the moment 0
abbrev pub board_at_first : BoardState
board_at_first = record { speeds = 0 ∷ 0 ∷ []; degrees = FIRST_DEGREES; since = 0; transfers = 0 }

-- degrees Celsius after these seconds, with fans at these speeds: each second brings one more for each fan that stands
-- still, and one less where all turn
abbrev pub degrees_after : List ℕ → ℕ → ℕ → ℕ
degrees_after speeds degrees seconds =
    let still = count_by (λ speed. speed == 0) speeds in
    if still == 0 then max (degrees - seconds) COLDEST else min (degrees + still * seconds) HOTTEST

-- the whole seconds from one moment to another, none where the other is not later
abbrev pub seconds_from : ℕ → ℕ → ℕ
seconds_from since now = (now - since) / SECOND

-- the board once the time up to a moment has passed: the degrees follow the whole seconds, and the rest of a second
-- counts later
abbrev pub board_at : BoardState → ℕ → BoardState
board_at board now = record {
  speeds = board.speeds;
  degrees = degrees_after board.speeds board.degrees (seconds_from board.since now);
  since = board.since + seconds_from board.since now * SECOND;
  transfers = board.transfers;
}
