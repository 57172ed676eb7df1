-- The first fields of a room that begins with some fields are these fields.
use Rattle.std.proofs.Common.{◌≡◌, List, [], ◌∷◌, ◌++◌, length, map, refl, ap}
use Rattle.pldm_wire.specs.declared.state_fields.SetStateField.{SetStateField}
use Rattle.pldm_wire.specs.declared.state_fields.SensorStateField.{SensorStateField}
use Rattle.pldm_wire.specs.declared.state_fields.EffecterStateField.{EffecterStateField}
use Rattle.needleoat_forms.specs.declared.states.SetState.{SetState}
use Rattle.needleoat_forms.specs.declared.states.SensorState.{SensorState}
use Rattle.needleoat_forms.specs.declared.states.EffecterState.{EffecterState}
use Rattle.needleoat_forms.specs.States.{set_state, sensor_state, effecter_state}
use Rattle.needleoat_forms.specs.States.{first_sets, first_sensor_states, first_effecter_states}

pub first_sets_append : (fields : List SetStateField) (rest : List SetState)
    → first_sets (length fields) (map set_state fields ++ rest) ≡ fields
first_sets_append [] rest = refl
first_sets_append (field ∷ fields) rest =
    ap (λ (xs : List SetStateField). field ∷ xs) (first_sets_append fields rest)

pub first_sensor_states_append : (fields : List SensorStateField) (rest : List SensorState)
    → first_sensor_states (length fields) (map sensor_state fields ++ rest) ≡ fields
first_sensor_states_append [] rest = refl
first_sensor_states_append (field ∷ fields) rest =
    ap (λ (xs : List SensorStateField). field ∷ xs) (first_sensor_states_append fields rest)

pub first_effecter_states_append : (fields : List EffecterStateField) (rest : List EffecterState)
    → first_effecter_states (length fields) (map effecter_state fields ++ rest) ≡ fields
first_effecter_states_append [] rest = refl
first_effecter_states_append (field ∷ fields) rest =
    ap (λ (xs : List EffecterStateField). field ∷ xs) (first_effecter_states_append fields rest)
