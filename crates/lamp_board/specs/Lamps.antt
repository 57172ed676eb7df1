-- A lamp: its state is its level, a number of percent with the data size uint8. What it answers to each command in a
-- state, and the state that follows; and the laws of a platform, which they keep.
use Rattle.std.specs.Prelude.{◌≡◌, ℕ, ◌==◌, ℤ, pos, int_le, Bool, true, false, ◌&&◌, List, [], ◌∷◌, Result, Ok, Err, if◌then◌else◌, refl}
use Rattle.pldm_wire.specs.Answers.{IsAnswerTo}
use Rattle.pldm_wire.specs.Commands.{kind_of, sets}
use Rattle.pldm_wire.specs.EffecterNumbers.{two_numbers}
use Rattle.pldm_wire.specs.Kinds.{TypeAndCommand, of_type}
use Rattle.pldm_wire.specs.Numbers.{SizedNumber, sized}
use Rattle.pldm_wire.specs.Sizes.{size_code}
use Rattle.pldm_wire.specs.declared.answer.Answer.{Answer}
use Rattle.pldm_wire.specs.declared.answer.Answer.TheVariants as answers
use Rattle.pldm_wire.specs.declared.assigned.TheConstants.{PLATFORM, ERROR_INVALID_DATA, ERROR_UNSUPPORTED_PLDM_CMD, GET_NUMERIC_EFFECTER_VALUE, GET_SENSOR_READING, SET_NUMERIC_EFFECTER_VALUE}
use Rattle.pldm_wire.specs.declared.command.Command.{Command}
use Rattle.pldm_wire.specs.declared.command.Command.TheVariants.{GetTid, GetPldmTypes, GetSensorReading, SetNumericEffecterValue, GetNumericEffecterValue}
use Rattle.pldm_wire.specs.declared.size.Size.TheVariants.{Uint8}
use Rattle.pldm_platform.specs.Changes.{changed_or}
use Rattle.pldm_platform.specs.declared.platform.ReadingFault.{ReadingFault}
use Rattle.pldm_platform.specs.declared.platform.ReadingFault.TheVariants.{NoSuchSensor, OutOfSize}
use Rattle.pldm_platform.specs.declared.refusals.TheConstants.{INVALID_EFFECTER_ID, INVALID_SENSOR_ID}
use Rattle.lamp_board.specs.declared.lighting.TheConstants.{TID, EFFECTER, SENSOR, FULL_LEVEL, SENSOR_ENABLED, NORMAL, EFFECTER_ENABLED}

-- a number of percent
abbrev pub is_level : ℤ → Bool
is_level value = int_le (pos 0) value && int_le value FULL_LEVEL

-- the same of a number that comes with its data size
abbrev pub is_level_number : SizedNumber → Bool
is_level_number number = size_code number.size == size_code Uint8 && is_level number.value

-- types 0 and 2, messaging control and platform monitoring (DSP0240, "GetPLDMTypes command")
abbrev pub types : List ℕ
types = 5 ∷ 0 ∷ 0 ∷ 0 ∷ 0 ∷ 0 ∷ 0 ∷ 0 ∷ []

-- the level that an effecter is set to, or the completion code that refuses it (DSP0248, "SetNumericEffecterValue
-- command")
abbrev pub level_set : ℕ → SizedNumber → Result SizedNumber ℕ
level_set effecter number =
    if effecter == EFFECTER
    then (if is_level_number number then Ok number else Err ERROR_INVALID_DATA)
    else Err INVALID_EFFECTER_ID

-- the answer to that
abbrev pub set_result : Result SizedNumber ℕ → Answer
set_result (Ok level) = answers.SetNumericEffecterValue
set_result (Err code) = answers.Refused code

-- the reading of a sensor (DSP0248, "GetSensorReading command")
abbrev pub reading : ℕ → SizedNumber → Answer
reading sensor level =
    if sensor == SENSOR
    then answers.GetSensorReading SENSOR_ENABLED 0 NORMAL NORMAL NORMAL level
    else answers.Refused INVALID_SENSOR_ID

-- the values of an effecter: no other one is pending (DSP0248, "GetNumericEffecterValue command")
abbrev pub values : ℕ → SizedNumber → Answer
values effecter level =
    if effecter == EFFECTER
    then answers.GetNumericEffecterValue EFFECTER_ENABLED (two_numbers level level)
    else answers.Refused INVALID_EFFECTER_ID

abbrev pub lamp_answer : SizedNumber → Command → Answer
lamp_answer level GetTid = answers.GetTid TID
lamp_answer level GetPldmTypes = answers.GetPldmTypes types
lamp_answer level (GetSensorReading sensor rearm) = reading sensor level
lamp_answer level (SetNumericEffecterValue effecter number) = set_result (level_set effecter number)
lamp_answer level (GetNumericEffecterValue effecter) = values effecter level
lamp_answer level _ = answers.Refused ERROR_UNSUPPORTED_PLDM_CMD

-- a command that sets leaves the level that it set, any other the one that was there
abbrev pub lamp_after : SizedNumber → Command → SizedNumber
lamp_after level (SetNumericEffecterValue effecter number) = changed_or level (level_set effecter number)
lamp_after level _ = level

-- the level that a reading of the sensor stands for
abbrev pub lamp_sensed : SizedNumber → ℕ → ℤ → Result SizedNumber ReadingFault
lamp_sensed level id value =
    if id == SENSOR
    then (if is_level value then Ok (sized Uint8 value) else Err OutOfSize)
    else Err NoSuchSensor

-- ---- the laws

pub lamp_reads_only :
    (level : SizedNumber) (command : Command) → sets command ≡ false → lamp_after level command ≡ level
lamp_reads_only level (SetNumericEffecterValue effecter number) asks = cc
lamp_reads_only level _ asks = refl

refused_set :
    (level : SizedNumber) (outcome : Result SizedNumber ℕ) (code : ℕ)
    → set_result outcome ≡ answers.Refused code → changed_or level outcome ≡ level
refused_set level (Ok changed) code refused = cc
refused_set level (Err refusal) code refused = refl

pub lamp_refusal :
    (level : SizedNumber) (command : Command) (code : ℕ)
    → lamp_answer level command ≡ answers.Refused code → lamp_after level command ≡ level
lamp_refusal level (SetNumericEffecterValue effecter number) code refused =
    refused_set level (level_set effecter number) code refused
lamp_refusal level _ code refused = refl

-- either answer is one to the command
either :
    (t : Bool) (kind : TypeAndCommand) (one other : Answer)
    → IsAnswerTo kind one → IsAnswerTo kind other → IsAnswerTo kind (if t then one else other)
either true kind one other is also = is
either false kind one other is also = also

set_answers :
    (outcome : Result SizedNumber ℕ) → IsAnswerTo (of_type PLATFORM SET_NUMERIC_EFFECTER_VALUE) (set_result outcome)
set_answers (Ok level) = refl
set_answers (Err code) = tt

pub lamp_answers : (level : SizedNumber) (command : Command) → IsAnswerTo (kind_of command) (lamp_answer level command)
lamp_answers level GetTid = refl
lamp_answers level GetPldmTypes = refl
lamp_answers level (GetSensorReading sensor rearm) =
    either (sensor == SENSOR) (of_type PLATFORM GET_SENSOR_READING) _ _ refl tt
lamp_answers level (SetNumericEffecterValue effecter number) = set_answers (level_set effecter number)
lamp_answers level (GetNumericEffecterValue effecter) =
    either (effecter == EFFECTER) (of_type PLATFORM GET_NUMERIC_EFFECTER_VALUE) _ _ refl tt
lamp_answers level _ = tt
