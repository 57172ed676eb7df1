-- The fields of composite state sensors and effecters (DSP0248) in the structs that cross to C: the
-- first of eight places, as many as the count says.
use Rattle.std.specs.Prelude.{ℕ, nat_le, ◌&&◌, Bool, List, map, take, Option, Some, None, if◌then◌else◌}
use Rattle.pldm_wire.specs.declared.limits.TheConstants.{MAX_STATES}
use Rattle.pldm_wire.specs.declared.state_fields.SetStateField.{SetStateField}
use Rattle.pldm_wire.specs.declared.state_fields.SensorStateField.{SensorStateField}
use Rattle.pldm_wire.specs.declared.state_fields.EffecterStateField.{EffecterStateField}
use Rattle.needleoat_forms.specs.declared.states.SetState.{SetState}
use Rattle.needleoat_forms.specs.declared.states.SensorState.{SensorState}
use Rattle.needleoat_forms.specs.declared.states.EffecterState.{EffecterState}

-- 1 to 8
abbrev pub is_count : ℕ → Bool
is_count count = nat_le 1 count && nat_le count MAX_STATES

-- each field on its own, from C and to C

abbrev pub set_field : SetState → SetStateField
set_field s = record { set_request = s.set_request; state = s.state }

abbrev pub set_state : SetStateField → SetState
set_state f = record { set_request = f.set_request; state = f.state }

abbrev pub sensor_field : SensorState → SensorStateField
sensor_field s =
    record { operational = s.operational; present = s.present; previous = s.previous; event = s.event }

abbrev pub sensor_state : SensorStateField → SensorState
sensor_state f =
    record { operational = f.operational; present = f.present; previous = f.previous; event = f.event }

abbrev pub effecter_field : EffecterState → EffecterStateField
effecter_field s = record { operational = s.operational; pending = s.pending; present = s.present }

abbrev pub effecter_state : EffecterStateField → EffecterState
effecter_state f = record { operational = f.operational; pending = f.pending; present = f.present }

-- the first fields

abbrev pub first_sets : ℕ → List SetState → List SetStateField
first_sets count states = map set_field (take count states)

abbrev pub first_sensor_states : ℕ → List SensorState → List SensorStateField
first_sensor_states count states = map sensor_field (take count states)

abbrev pub first_effecter_states : ℕ → List EffecterState → List EffecterStateField
first_effecter_states count states = map effecter_field (take count states)

-- the same, where their count is one

abbrev pub sets_in : ℕ → List SetState → Option (List SetStateField)
sets_in count states = if is_count count then Some (first_sets count states) else None

abbrev pub sensor_states_in : ℕ → List SensorState → Option (List SensorStateField)
sensor_states_in count states = if is_count count then Some (first_sensor_states count states) else None

abbrev pub effecter_states_in : ℕ → List EffecterState → Option (List EffecterStateField)
effecter_states_in count states = if is_count count then Some (first_effecter_states count states) else None
