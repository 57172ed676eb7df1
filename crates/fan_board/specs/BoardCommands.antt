-- What a fan board answers to a command, and what the command leaves.
use Rattle.std.specs.Prelude.{ℕ, ◌+◌, ◌-◌, ◌==◌, nat_le, ℤ, pos, nat_abs, int_le, Bool, false, ◌&&◌, List, [], ◌∷◌, length, Result, Ok, Err, if◌then◌else◌, slice_index, slice_set}
use Rattle.pldm_wire.specs.EffecterNumbers.{two_numbers}
use Rattle.pldm_wire.specs.Numbers.{SizedNumber, sized}
use Rattle.pldm_wire.specs.Requests.{Request}
use Rattle.pldm_wire.specs.declared.answer.Answer.{Answer}
use Rattle.pldm_wire.specs.declared.answer.Answer.TheVariants as answers
use Rattle.pldm_wire.specs.declared.assigned.TheConstants.{ERROR, ERROR_INVALID_DATA, ERROR_INVALID_LENGTH, ERROR_UNSUPPORTED_PLDM_CMD, SUCCESS}
use Rattle.pldm_wire.specs.declared.command.Command.{Command}
use Rattle.pldm_wire.specs.declared.command.Command.TheVariants.{GetTid, GetSensorReading, SetNumericEffecterValue, GetNumericEffecterValue}
use Rattle.pldm_wire.specs.declared.size.Size.TheVariants.{Uint8}
use Rattle.pldm_responder.specs.Performing.{Response}
use Rattle.fan_board.specs.Boards.{BoardState, board_at}
use Rattle.fan_board.specs.declared.board.BoardFault.{BoardFault}
use Rattle.fan_board.specs.declared.board.BoardFault.TheVariants.{Bus, UnknownId, NoSpeed, UnknownCommand}
use Rattle.fan_board.specs.declared.board.TheConstants.{TID, THERMOMETER, FULL_SPEED, FANS, GOOD_TRANSFERS, SENSOR_ENABLED, EFFECTER_ENABLED, NORMAL, INVALID_ID, GET_TRANSFERS}

-- ---- what a command asks for

-- effecters 1 to FANS are the fans
abbrev pub is_fan : ℕ → Bool
is_fan effecter = nat_le 1 effecter && nat_le effecter FANS

-- a speed in percent
abbrev pub is_speed : ℤ → Bool
is_speed percent = int_le (pos 0) percent && int_le percent FULL_SPEED

-- a command takes a transfer over the board's bus where it reads the thermometer, sets the speed of a fan or reads one
abbrev pub takes_transfer : Command → Bool
takes_transfer (GetSensorReading sensor rearm) = sensor == THERMOMETER
takes_transfer (SetNumericEffecterValue effecter number) = is_fan effecter && is_speed number.value
takes_transfer (GetNumericEffecterValue effecter) = is_fan effecter
takes_transfer _ = false

-- the answer to a command that takes none: the terminus ID, or why the command is refused
abbrev pub answer_without_transfer : Command → Answer
answer_without_transfer GetTid = answers.GetTid TID
answer_without_transfer (GetSensorReading sensor rearm) = answers.Refused INVALID_ID
answer_without_transfer (SetNumericEffecterValue effecter number) =
    answers.Refused (if is_fan effecter then ERROR_INVALID_DATA else INVALID_ID)
answer_without_transfer (GetNumericEffecterValue effecter) = answers.Refused INVALID_ID
answer_without_transfer _ = answers.Refused ERROR_UNSUPPORTED_PLDM_CMD

-- ---- a transfer

-- the next transfer fails, after so many good ones
abbrev pub is_bus_failing : BoardState → Bool
is_bus_failing board = nat_le GOOD_TRANSFERS board.transfers

-- what is in a byte, as a number of the data size uint8
abbrev pub byte_number : ℕ → SizedNumber
byte_number byte = sized Uint8 (pos byte)

-- the speed of the fan with this effecter ID
abbrev pub speed_of : List ℕ → ℕ → ℕ
speed_of speeds effecter = slice_index speeds (effecter - 1)

-- the answer to a command whose transfer is good
abbrev pub answer_over_bus : BoardState → Command → Answer
answer_over_bus board (GetSensorReading sensor rearm) =
    answers.GetSensorReading SENSOR_ENABLED 0 NORMAL NORMAL NORMAL (byte_number board.degrees)
answer_over_bus board (SetNumericEffecterValue effecter number) = answers.SetNumericEffecterValue
answer_over_bus board (GetNumericEffecterValue effecter) =
    let speed = byte_number (speed_of board.speeds effecter) in
    answers.GetNumericEffecterValue EFFECTER_ENABLED (two_numbers speed speed)
answer_over_bus board other = answer_without_transfer other

-- the speeds that a good transfer leaves
abbrev pub speeds_over_bus : List ℕ → Command → List ℕ
speeds_over_bus speeds (SetNumericEffecterValue effecter number) =
    slice_set speeds (effecter - 1) (nat_abs number.value)
speeds_over_bus speeds _ = speeds

-- the speeds that a transfer leaves: one that fails sets none
abbrev pub speeds_left : BoardState → Command → List ℕ
speeds_left board command = if is_bus_failing board then board.speeds else speeds_over_bus board.speeds command

-- the board after a transfer, which is counted; after one that failed the count begins anew
abbrev pub transferred : BoardState → BoardState
transferred board = record {
  speeds = board.speeds;
  degrees = board.degrees;
  since = board.since;
  transfers = if is_bus_failing board then 0 else board.transfers + 1;
}

-- the board with fans at these speeds
abbrev pub with_speeds : List ℕ → BoardState → BoardState
with_speeds speeds board =
    record { speeds = speeds; degrees = board.degrees; since = board.since; transfers = board.transfers }

-- ---- a command, where no time passes

abbrev pub answer_now : BoardState → Command → Answer
answer_now board command =
    if takes_transfer command
    then (if is_bus_failing board then answers.Refused ERROR else answer_over_bus board command)
    else answer_without_transfer command

abbrev pub left_now : BoardState → Command → BoardState
left_now board command =
    if takes_transfer command then with_speeds (speeds_left board command) (transferred board) else board

-- ---- a command at a moment

abbrev pub board_answer : BoardState → ℕ → Command → Answer
board_answer board now command = answer_now (board_at board now) command

abbrev pub board_after : BoardState → ℕ → Command → BoardState
board_after board now command = left_now (board_at board now) command

-- ---- faults

-- the completion code that reports a fault
abbrev pub code_of : BoardFault → ℕ
code_of Bus = ERROR
code_of UnknownId = INVALID_ID
code_of NoSpeed = ERROR_INVALID_DATA
code_of UnknownCommand = ERROR_UNSUPPORTED_PLDM_CMD

-- the answer to a command that gave this
abbrev pub answer_of : Result Answer BoardFault → Answer
answer_of (Ok answer) = answer
answer_of (Err fault) = answers.Refused (code_of fault)

-- the place of the fan with this effecter ID among the speeds
abbrev pub fan_of : ℕ → Result ℕ BoardFault
fan_of effecter = if is_fan effecter then Ok (effecter - 1) else Err UnknownId

-- ---- a request of PLDM type 63

-- what the board responds to a request that is handed on to it as bytes: how many transfers were good since one failed
abbrev pub board_response : BoardState → Request → Response
board_response board request =
    if request.kind.command == GET_TRANSFERS
    then (if length request.rest == 0 then record { code = SUCCESS; rest = board.transfers ∷ [] }
    else record { code = ERROR_INVALID_LENGTH; rest = [] })
    else record { code = ERROR_UNSUPPORTED_PLDM_CMD; rest = [] }
