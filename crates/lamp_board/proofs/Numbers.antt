-- Every constant of the source, a second time: the lamp's own numbers, and the standard's states.
use Rattle.std.proofs.Common.{◌≡◌, pos, refl}
use Rattle.lamp_board.specs.declared.lighting.TheConstants.{TID, EFFECTER, SENSOR, FULL_LEVEL, SENSOR_ENABLED, NORMAL, EFFECTER_ENABLED}

terminus_id : TID ≡ 1
terminus_id = refl

effecter_of_the_level : EFFECTER ≡ 1
effecter_of_the_level = refl

sensor_of_the_level : SENSOR ≡ 1
sensor_of_the_level = refl

greatest_level_in_percent : FULL_LEVEL ≡ pos 100
greatest_level_in_percent = refl

-- DSP0248, "GetSensorReading command", sensorOperationalState: enabled
enabled_sensor : SENSOR_ENABLED ≡ 0
enabled_sensor = refl

-- the same, presentState: Normal
normal_reading : NORMAL ≡ 1
normal_reading = refl

-- DSP0248, "GetNumericEffecterValue command", effecterOperationalState: enabled-noUpdatePending
enabled_effecter : EFFECTER_ENABLED ≡ 1
enabled_effecter = refl
