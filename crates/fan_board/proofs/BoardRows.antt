-- What the definitions of the board say of states, moments and commands that are written out.
use Rattle.std.proofs.Common.{◌≡◌, ℕ, ℤ, pos, negsuc, List, [], ◌∷◌, refl}
use Rattle.pldm_wire.specs.EffecterNumbers.{two_numbers}
use Rattle.pldm_wire.specs.Numbers.{sized}
use Rattle.pldm_wire.specs.declared.answer.Answer.{Answer}
use Rattle.pldm_wire.specs.declared.answer.Answer.TheVariants as answers
use Rattle.pldm_wire.specs.declared.command.Command.{Command}
use Rattle.pldm_wire.specs.declared.command.Command.TheVariants.{GetTid, GetPldmTypes, GetSensorReading, SetNumericEffecterValue, GetNumericEffecterValue}
use Rattle.pldm_wire.specs.declared.size.Size.TheVariants.{Uint8}
use Rattle.fan_board.specs.BoardCommands.{board_after, board_answer}
use Rattle.fan_board.specs.Boards.{BoardState, board_at, board_at_first}

abbrev state : List ℕ → ℕ → ℕ → ℕ → BoardState
state speeds degrees since transfers =
    record { speeds = speeds; degrees = degrees; since = since; transfers = transfers }

abbrev set_fan : ℕ → ℤ → Command
set_fan effecter percent = SetNumericEffecterValue effecter (sized Uint8 percent)

abbrev read_degrees : Command
read_degrees = GetSensorReading 1 0

abbrev degrees_answered : ℕ → Answer
degrees_answered degrees = answers.GetSensorReading 0 0 1 1 1 (sized Uint8 (pos degrees))

-- ---- time: the board begins with two still fans and 30 degrees

nothing_passes : board_at board_at_first 999 ≡ state (0 ∷ 0 ∷ []) 30 0 0
nothing_passes = refl

-- the rest of a second counts later
two_still_fans : board_at board_at_first 1999 ≡ state (0 ∷ 0 ∷ []) 32 1000 0
two_still_fans = refl

later : board_at (board_at board_at_first 1999) 2001 ≡ board_at board_at_first 2001
later = refl

one_still_fan : board_at (state (60 ∷ 0 ∷ []) 32 1000 1) 11000 ≡ state (60 ∷ 0 ∷ []) 42 11000 1
one_still_fan = refl

both_turn : board_at (state (60 ∷ 60 ∷ []) 42 13000 0) 33000 ≡ state (60 ∷ 60 ∷ []) 22 33000 0
both_turn = refl

hottest : board_at (state (0 ∷ 0 ∷ []) 90 0 0) 60000 ≡ state (0 ∷ 0 ∷ []) 100 60000 0
hottest = refl

coldest : board_at (state (1 ∷ 100 ∷ []) 30 0 0) 60000 ≡ state (1 ∷ 100 ∷ []) 20 60000 0
coldest = refl

earlier_moment : board_at (state (0 ∷ 0 ∷ []) 32 1000 0) 500 ≡ state (0 ∷ 0 ∷ []) 32 1000 0
earlier_moment = refl

-- ---- three good transfers and one that fails

first_transfer : board_after board_at_first 1000 (set_fan 1 (pos 60)) ≡ state (60 ∷ 0 ∷ []) 32 1000 1
first_transfer = refl

second_transfer : board_answer (state (60 ∷ 0 ∷ []) 32 1000 1) 11000 read_degrees ≡ degrees_answered 42
second_transfer = refl

third_transfer :
    board_after (state (60 ∷ 0 ∷ []) 42 11000 2) 12000 (set_fan 2 (pos 60)) ≡ state (60 ∷ 60 ∷ []) 43 12000 3
third_transfer = refl

fourth_transfer : board_answer (state (60 ∷ 60 ∷ []) 43 12000 3) 13000 read_degrees ≡ answers.Refused 1
fourth_transfer = refl

after_the_fourth : board_after (state (60 ∷ 60 ∷ []) 43 12000 3) 13000 read_degrees ≡ state (60 ∷ 60 ∷ []) 42 13000 0
after_the_fourth = refl

-- no speed is set
fourth_sets_nothing :
    board_after (state (60 ∷ 60 ∷ []) 43 12000 3) 12000 (set_fan 1 (pos 0)) ≡ state (60 ∷ 60 ∷ []) 43 12000 0
fourth_sets_nothing = refl

speed_answered :
    board_answer (state (60 ∷ 40 ∷ []) 43 12000 1) 12000 (GetNumericEffecterValue 2)
    ≡ answers.GetNumericEffecterValue 1 (two_numbers (sized Uint8 (pos 40)) (sized Uint8 (pos 40)))
speed_answered = refl

-- ---- commands that take no transfer: even where the next one fails, they are answered so, and leave the board

abbrev board : BoardState
board = state (60 ∷ 60 ∷ []) 43 12000 3

terminus_id : board_answer board 12000 GetTid ≡ answers.GetTid 5
terminus_id = refl

terminus_id_leaves : board_after board 12000 GetTid ≡ board
terminus_id_leaves = refl

no_sensor : board_answer board 12000 (GetSensorReading 2 0) ≡ answers.Refused 128
no_sensor = refl

no_effecter : board_answer board 12000 (GetNumericEffecterValue 3) ≡ answers.Refused 128
no_effecter = refl

effecter_zero : board_answer board 12000 (set_fan 0 (pos 50)) ≡ answers.Refused 128
effecter_zero = refl

effecter_is_told_first : board_answer board 12000 (set_fan 3 (pos 101)) ≡ answers.Refused 128
effecter_is_told_first = refl

too_fast : board_answer board 12000 (set_fan 1 (pos 101)) ≡ answers.Refused 2
too_fast = refl

too_fast_leaves : board_after board 12000 (set_fan 1 (pos 101)) ≡ board
too_fast_leaves = refl

below_zero : board_answer board 12000 (set_fan 1 (negsuc 0)) ≡ answers.Refused 2
below_zero = refl

full_speed :
    board_after (state (60 ∷ 60 ∷ []) 43 12000 0) 12000 (set_fan 1 (pos 100))
    ≡ state (100 ∷ 60 ∷ []) 43 12000 1
full_speed = refl

other_command : board_answer board 12000 GetPldmTypes ≡ answers.Refused 5
other_command = refl
