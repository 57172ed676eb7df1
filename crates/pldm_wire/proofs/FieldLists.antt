-- How many fields stand in bytes, and that fields are read from their bytes and back.
use Rattle.std.proofs.Common.{◌≡◌, ℕ, ◌-◌, ◌*◌, ◌/◌, List, [], ◌∷◌, length, refl, ap, arith}
use Rattle.std.specs.List.{flat_map}
use Rattle.pldm_wire.specs.States.{set_bytes, sensor_bytes, effecter_bytes, sets_in, sensor_states_in, effecter_states_in}
use Rattle.pldm_wire.specs.declared.state_fields.SetStateField.{SetStateField}
use Rattle.pldm_wire.specs.declared.state_fields.SensorStateField.{SensorStateField}
use Rattle.pldm_wire.specs.declared.state_fields.EffecterStateField.{EffecterStateField}

pub length-sets_in : (bytes : List ℕ) → length (sets_in bytes) ≡ length bytes / 2
length-sets_in [] = omega arith
length-sets_in (a ∷ []) = omega arith
length-sets_in (a ∷ b ∷ bytes) = omega (arith, length-sets_in bytes)

pub length-sensor_states_in : (bytes : List ℕ) → length (sensor_states_in bytes) ≡ length bytes / 4
length-sensor_states_in [] = omega arith
length-sensor_states_in (a ∷ []) = omega arith
length-sensor_states_in (a ∷ b ∷ []) = omega arith
length-sensor_states_in (a ∷ b ∷ c ∷ []) = omega arith
length-sensor_states_in (a ∷ b ∷ c ∷ d ∷ bytes) = omega (arith, length-sensor_states_in bytes)

pub length-effecter_states_in : (bytes : List ℕ) → length (effecter_states_in bytes) ≡ length bytes / 3
length-effecter_states_in [] = omega arith
length-effecter_states_in (a ∷ []) = omega arith
length-effecter_states_in (a ∷ b ∷ []) = omega arith
length-effecter_states_in (a ∷ b ∷ c ∷ bytes) = omega (arith, length-effecter_states_in bytes)

pub ruleset field_counts = (length-sets_in, length-sensor_states_in, length-effecter_states_in)

-- how many bytes fields have

pub length-sets_bytes : (fields : List SetStateField) → length (flat_map set_bytes fields) ≡ 2 * length fields
length-sets_bytes [] = refl
length-sets_bytes (field ∷ fields) = omega (arith, length-sets_bytes fields)

pub length-sensor_states_bytes : (fields : List SensorStateField) → length (flat_map sensor_bytes fields) ≡ 4 * length fields
length-sensor_states_bytes [] = refl
length-sensor_states_bytes (field ∷ fields) = omega (arith, length-sensor_states_bytes fields)

pub length-effecter_states_bytes : (fields : List EffecterStateField) → length (flat_map effecter_bytes fields) ≡ 3 * length fields
length-effecter_states_bytes [] = refl
length-effecter_states_bytes (field ∷ fields) = omega (arith, length-effecter_states_bytes fields)

-- a list of fields is read from its bytes

pub sets_read : (fields : List SetStateField) → sets_in (flat_map set_bytes fields) ≡ fields
sets_read [] = refl
sets_read (field ∷ fields) = ap (λ xs. field ∷ xs) (sets_read fields)

pub sensor_states_read : (fields : List SensorStateField) → sensor_states_in (flat_map sensor_bytes fields) ≡ fields
sensor_states_read [] = refl
sensor_states_read (field ∷ fields) = ap (λ xs. field ∷ xs) (sensor_states_read fields)

pub effecter_states_read : (fields : List EffecterStateField) → effecter_states_in (flat_map effecter_bytes fields) ≡ fields
effecter_states_read [] = refl
effecter_states_read (field ∷ fields) = ap (λ xs. field ∷ xs) (effecter_states_read fields)

-- bytes of whole fields are those of the fields that are read

pub sets_bytes : (n : ℕ) (bytes : List ℕ) → length bytes ≡ 2 * n → flat_map set_bytes (sets_in bytes) ≡ bytes
sets_bytes n [] h = refl
sets_bytes n (a ∷ []) h = absurd (omega arith)
sets_bytes n (a ∷ b ∷ bytes) h = let rest = sets_bytes (n - 1) bytes (omega arith) in rw rest refl

pub sensor_states_bytes : (n : ℕ) (bytes : List ℕ) → length bytes ≡ 4 * n → flat_map sensor_bytes (sensor_states_in bytes) ≡ bytes
sensor_states_bytes n [] h = refl
sensor_states_bytes n (a ∷ []) h = absurd (omega arith)
sensor_states_bytes n (a ∷ b ∷ []) h = absurd (omega arith)
sensor_states_bytes n (a ∷ b ∷ c ∷ []) h = absurd (omega arith)
sensor_states_bytes n (a ∷ b ∷ c ∷ d ∷ bytes) h = let rest = sensor_states_bytes (n - 1) bytes (omega arith) in rw rest refl

pub effecter_states_bytes : (n : ℕ) (bytes : List ℕ) → length bytes ≡ 3 * n → flat_map effecter_bytes (effecter_states_in bytes) ≡ bytes
effecter_states_bytes n [] h = refl
effecter_states_bytes n (a ∷ []) h = absurd (omega arith)
effecter_states_bytes n (a ∷ b ∷ []) h = absurd (omega arith)
effecter_states_bytes n (a ∷ b ∷ c ∷ bytes) h = let rest = effecter_states_bytes (n - 1) bytes (omega arith) in rw rest refl
