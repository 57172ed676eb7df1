-- Every constant of the source, a second time: the board's own numbers, and the standard's.
use Rattle.std.proofs.Common.{◌≡◌, false, pos, refl}
use Rattle.fan_board.specs.declared.TheConstants.{OWN, KEEP, BOUNDS, COMMANDS, OEM}
use Rattle.fan_board.specs.declared.board.TheConstants.{TID, THERMOMETER, COLDEST, HOTTEST, FIRST_DEGREES, FULL_SPEED, FANS, GET_TRANSFERS, GOOD_TRANSFERS, SECOND, SENSOR_ENABLED, EFFECTER_ENABLED, NORMAL, INVALID_ID}

endpoint_id : OWN ≡ 10
endpoint_id = refl

keeping_time_in_milliseconds : KEEP ≡ 1000
keeping_time_in_milliseconds = refl

sources_with_kept_answers : BOUNDS.sources ≡ 2
sources_with_kept_answers = refl

open_messages : BOUNDS.open_messages ≡ 2
open_messages = refl

commands_at_a_time : COMMANDS ≡ 1
commands_at_a_time = refl

-- type 63 alone, OEM, by its bit
types_handed_on : OEM.pldm_types ≡ 9223372036854775808
types_handed_on = refl

no_unknown_commands_handed_on : OEM.unknown_commands ≡ false
no_unknown_commands_handed_on = refl

command_for_transfers : GET_TRANSFERS ≡ 1
command_for_transfers = refl

terminus_id : TID ≡ 5
terminus_id = refl

thermometer : THERMOMETER ≡ 1
thermometer = refl

least_degrees : COLDEST ≡ 20
least_degrees = refl

greatest_degrees : HOTTEST ≡ 100
greatest_degrees = refl

degrees_at_first : FIRST_DEGREES ≡ 30
degrees_at_first = refl

greatest_speed_in_percent : FULL_SPEED ≡ pos 100
greatest_speed_in_percent = refl

fans : FANS ≡ 2
fans = refl

good_transfers_before_one_fails : GOOD_TRANSFERS ≡ 3
good_transfers_before_one_fails = refl

milliseconds_of_a_second : SECOND ≡ 1000
milliseconds_of_a_second = refl

-- DSP0248, "GetSensorReading command", sensorOperationalState: enabled
enabled_sensor : SENSOR_ENABLED ≡ 0
enabled_sensor = refl

-- the same, presentState: Normal
normal_reading : NORMAL ≡ 1
normal_reading = refl

-- DSP0248, "GetNumericEffecterValue command", effecterOperationalState: enabled-noUpdatePending
enabled_effecter : EFFECTER_ENABLED ≡ 1
enabled_effecter = refl

-- DSP0248, INVALID_SENSOR_ID and INVALID_EFFECTER_ID, which are one number
invalid_id : INVALID_ID ≡ 128
invalid_id = refl
