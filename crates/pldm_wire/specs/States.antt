-- The fields of composite state sensors and effecters (DSP0248).
use Rattle.std.specs.Prelude.{ℕ, ◌≤◌, nat_le, Bool, ◌&&◌, List, [], ◌∷◌, length}
use Rattle.pldm_wire.specs.declared.limits.TheConstants.{MAX_STATES}
use Rattle.pldm_wire.specs.declared.state_fields.SetStateField.{SetStateField}
use Rattle.pldm_wire.specs.declared.state_fields.SensorStateField.{SensorStateField}
use Rattle.pldm_wire.specs.declared.state_fields.EffecterStateField.{EffecterStateField}

-- a composite sensor or effecter has at least one field, and at most so many
abbrev pub IsComposite : {A : Type 0} → List A → Type 0
IsComposite fields = (1 ≤ length fields) × (length fields ≤ MAX_STATES)

-- the same as a test
abbrev pub is_composite : {A : Type 0} → List A → Bool
is_composite fields = nat_le 1 (length fields) && nat_le (length fields) MAX_STATES

-- the bytes of each field, in order

abbrev pub set_bytes : SetStateField → List ℕ
set_bytes field = field.set_request ∷ field.state ∷ []

abbrev pub sensor_bytes : SensorStateField → List ℕ
sensor_bytes field = field.operational ∷ field.present ∷ field.previous ∷ field.event ∷ []

abbrev pub effecter_bytes : EffecterStateField → List ℕ
effecter_bytes field = field.operational ∷ field.pending ∷ field.present ∷ []

-- the fields that stand in these bytes, one after another; too few bytes for a field are none

abbrev pub sets_in : List ℕ → List SetStateField
sets_in (set_request ∷ state ∷ bytes) = record { set_request = set_request; state = state } ∷ sets_in bytes
sets_in _ = []

abbrev pub sensor_states_in : List ℕ → List SensorStateField
sensor_states_in (operational ∷ present ∷ previous ∷ event ∷ bytes) =
    record { operational = operational; present = present; previous = previous; event = event } ∷ sensor_states_in bytes
sensor_states_in _ = []

abbrev pub effecter_states_in : List ℕ → List EffecterStateField
effecter_states_in (operational ∷ pending ∷ present ∷ bytes) =
    record { operational = operational; pending = pending; present = present } ∷ effecter_states_in bytes
effecter_states_in _ = []
