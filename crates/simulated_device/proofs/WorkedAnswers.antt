-- What a device answers to each command, and the state that follows, computed from the definitions.
use Rattle.std.proofs.Common.{◌≡◌, ℕ, List, [], ◌∷◌, pos, replicate, refl}
use Rattle.pldm_wire.specs.EffecterNumbers.{two_numbers}
use Rattle.pldm_wire.specs.Numbers.{SizedNumber, sized}
use Rattle.pldm_wire.specs.declared.answer.Answer.TheVariants as answers
use Rattle.pldm_wire.specs.declared.command.Command.TheVariants.{SetTid, GetTid, GetPldmVersion, GetPldmTypes, GetPldmCommands, GetSensorReading, GetStateSensorReadings, SetNumericEffecterValue, GetNumericEffecterValue, SetStateEffecterStates, GetStateEffecterStates, GetPdrRepositoryInfo}
use Rattle.pldm_wire.specs.declared.size.Size.TheVariants.{Uint8, Sint16}
use Rattle.pldm_wire.specs.declared.state_fields.SetStateField.{SetStateField}
use Rattle.simulated_device.specs.BaseAnswers.{types, base_commands, platform_commands}
use Rattle.simulated_device.specs.DeviceAnswers.{answer, after}
use Rattle.simulated_device.specs.Devices.{Device}
use Rattle.simulated_device.specs.StateEffecters.{fields_of_states}

abbrev with_values : SizedNumber → List ℕ → Device
with_values value states = record {
  tid = 1;
  base_versions = 0x00 ∷ 0xf0 ∷ 0xf0 ∷ 0xf1 ∷ [];
  platform_versions = 0x00 ∷ 0xf2 ∷ 0xf1 ∷ 0xf1 ∷ [];
  update_time = replicate 13 7;
  oem_update_time = replicate 13 8;
  numeric_sensors = (1, record { present = 1; previous = 2; event = 3; reading = sized Uint8 (pos 40) }) ∷ [];
  state_sensors = (3, (record { operational = 0; present = 1; previous = 2; event = 3 } ∷ [])) ∷ [];
  numeric_effecters = (1, record { min = pos 0; max = pos 100; value = value }) ∷ [];
  state_effecters = (2, fields_of_states ((1 ∷ 2 ∷ []) ∷ (1 ∷ 2 ∷ []) ∷ []) states) ∷ [];
  records = [];
}

abbrev device : Device
device = with_values (sized Uint8 (pos 10)) (1 ∷ 1 ∷ [])

abbrev set_state : ℕ → ℕ → SetStateField
set_state set_request state = record { set_request = set_request; state = state }

terminus_id : (answer device GetTid ≡ answers.GetTid 1) × (answer device (SetTid 0) ≡ answers.Refused 0x02)
    × (answer device (SetTid 255) ≡ answers.Refused 0x02) × (answer device (SetTid 254) ≡ answers.SetTid)
terminus_id = (refl, refl, refl, refl)

versions : (answer device (GetPldmVersion 9 1 0) ≡ answers.GetPldmVersion 0 (0x00 ∷ 0xf0 ∷ 0xf0 ∷ 0xf1 ∷ []))
    × (answer device (GetPldmVersion 0 1 2) ≡ answers.GetPldmVersion 0 (0x00 ∷ 0xf2 ∷ 0xf1 ∷ 0xf1 ∷ []))
    × (answer device (GetPldmVersion 0 2 1) ≡ answers.Refused 0x81) × (answer device (GetPldmVersion 0 0 1) ≡ answers.Refused 0x80)
    × (answer device (GetPldmVersion 0 1 1) ≡ answers.Refused 0x83)
versions = (refl, refl, refl, refl, refl)

pldm_types : answer device GetPldmTypes ≡ answers.GetPldmTypes (5 ∷ replicate 7 0)
unfolding types
pldm_types = refl

commands : (answer device (GetPldmCommands 0 []) ≡ answers.GetPldmCommands (0x3e ∷ replicate 31 0))
    × (answer device (GetPldmCommands 2 []) ≡ answers.GetPldmCommands
    (0 ∷ 0 ∷ 2 ∷ 0 ∷ 2 ∷ 0 ∷ 6 ∷ 6 ∷ 0 ∷ 0 ∷ 3 ∷ replicate 21 0))
    × (answer device (GetPldmCommands 1 []) ≡ answers.Refused 0x83)
unfolding base_commands platform_commands
commands = (refl, refl, refl)

numeric_sensor : (answer device (GetSensorReading 1 255) ≡ answers.GetSensorReading 0 0 1 2 3 (sized Uint8 (pos 40)))
    × (answer device (GetSensorReading 3 0) ≡ answers.Refused 0x80)
numeric_sensor = (refl, refl)

state_sensor : (answer device (GetStateSensorReadings 3 0)
    ≡ answers.GetStateSensorReadings (record { operational = 0; present = 1; previous = 2; event = 3 } ∷ []))
    × (answer device (GetStateSensorReadings 1 0) ≡ answers.Refused 0x80)
state_sensor = (refl, refl)

numeric_effecter_set : (answer device (SetNumericEffecterValue 1 (sized Uint8 (pos 100))) ≡ answers.SetNumericEffecterValue)
    × (after device (SetNumericEffecterValue 1 (sized Uint8 (pos 100))) ≡ with_values (sized Uint8 (pos 100)) (1 ∷ 1 ∷ []))
numeric_effecter_set = (refl, refl)

numeric_effecter_refused : (answer device (SetNumericEffecterValue 1 (sized Uint8 (pos 101))) ≡ answers.Refused 0x02)
    × (after device (SetNumericEffecterValue 1 (sized Uint8 (pos 101))) ≡ device)
    × (answer device (SetNumericEffecterValue 1 (sized Sint16 (pos 10))) ≡ answers.Refused 0x02)
    × (answer device (SetNumericEffecterValue 2 (sized Uint8 (pos 10))) ≡ answers.Refused 0x80)
numeric_effecter_refused = (refl, refl, refl, refl)

numeric_effecter_read : (answer device (GetNumericEffecterValue 1)
    ≡ answers.GetNumericEffecterValue 1 (two_numbers (sized Uint8 (pos 10)) (sized Uint8 (pos 10))))
    × (answer device (GetNumericEffecterValue 2) ≡ answers.Refused 0x80)
numeric_effecter_read = (refl, refl)

-- a state that a field cannot take refuses all, and a field that is left alone may have any state
all_or_nothing : (answer device (SetStateEffecterStates 2 (set_state 1 2 ∷ set_state 1 3 ∷ [])) ≡ answers.Refused 0x81)
    × (after device (SetStateEffecterStates 2 (set_state 1 2 ∷ set_state 1 3 ∷ [])) ≡ device)
    × (answer device (SetStateEffecterStates 2 (set_state 1 2 ∷ set_state 0 9 ∷ [])) ≡ answers.SetStateEffecterStates)
    × (after device (SetStateEffecterStates 2 (set_state 1 2 ∷ set_state 0 9 ∷ [])) ≡ with_values (sized Uint8 (pos 10)) (2 ∷ 1 ∷ []))
all_or_nothing = (refl, refl, refl, refl)

state_effecter_refused : (answer device (SetStateEffecterStates 2 (set_state 1 2 ∷ [])) ≡ answers.Refused 0x02)
    × (answer device (SetStateEffecterStates 2 (set_state 1 3 ∷ set_state 2 1 ∷ [])) ≡ answers.Refused 0x02)
    × (answer device (SetStateEffecterStates 1 (set_state 1 2 ∷ [])) ≡ answers.Refused 0x80)
state_effecter_refused = (refl, refl, refl)

state_effecter_read : (answer device (GetStateEffecterStates 2) ≡ answers.GetStateEffecterStates
    (record { operational = 1; pending = 1; present = 1 } ∷ record { operational = 1; pending = 1; present = 1 } ∷ []))
    × (answer device (GetStateEffecterStates 3) ≡ answers.Refused 0x80)
state_effecter_read = (refl, refl)

repository : answer device GetPdrRepositoryInfo ≡ answers.GetPdrRepositoryInfo 0 (replicate 13 7) (replicate 13 8) 0 0 0 0
repository = refl
