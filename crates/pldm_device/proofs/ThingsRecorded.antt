-- The records of each kind of thing describe the device.
use Rattle.std.proofs.Common.{◌≡◌, ℕ, List, Bool, nat_le, length, map, Option, Some, None, Result, Ok, refl, ap, subst}
use Rattle.std.specs.Option.{ok_or}
use Rattle.toml.specs.Data.{Members}
use Rattle.pldm_wire.specs.declared.limits.TheConstants.{MAX_STATES}
use Rattle.pldm_wire.specs.declared.state_fields.SensorStateField.{SensorStateField}
use Rattle.pldm_pdr.specs.declared.data.RecordData.{RecordData}
use Rattle.pldm_pdr.specs.declared.data.RecordData.TheVariants as records
use Rattle.pldm_pdr.specs.declared.entity.Entity.{Entity}
use Rattle.pldm_pdr.specs.declared.possible_states.PossibleStates.{PossibleStates}
use Rattle.pldm_records.specs.ById.{has_id, with_id}
use Rattle.simulated_device.specs.Devices.{Device}
use Rattle.simulated_device.specs.EffecterAnswers.{numeric_effecter_answered, state_effecter_answered}
use Rattle.pldm_device.specs.EffecterRecords.{effecter_named, few_fields, numeric_effecter_data, numeric_effecter_made, numeric_effecter_of, state_effecter_data, state_effecter_made, state_effecter_of}
use Rattle.pldm_device.specs.Entries.{id_at}
use Rattle.pldm_device.specs.KeyValues.{◌>>=◌}
use Rattle.pldm_device.specs.RecordKeys.{normal_range_at, state_set_at, thresholds_at, units_at}
use Rattle.pldm_device.specs.RecordLaws.{HaveStates, Describes}
use Rattle.simulated_device.specs.SensorAnswers.{numeric_sensor_answered, state_sensor_answered}
use Rattle.pldm_device.specs.SensorRecords.{numeric_sensor_data, numeric_sensor_made, numeric_sensor_of, possible, sensor_named, state_sensor_data, state_sensor_made, state_sensor_of, states_of_field, thing_made}
use Rattle.simulated_device.specs.StateEffecters.{FieldsOfStates}
use Rattle.pldm_device.specs.declared.description_fault.FileFault.{FileFault}
use Rattle.pldm_device.specs.declared.description_fault.FileFault.TheVariants.{MissingKey, OutOfRange}
use Rattle.pldm_device.specs.declared.made_records.MadeRecords.{MadeRecords}
use Rattle.simulated_device.specs.declared.numeric.NumericEffecter.{NumericEffecter}
use Rattle.simulated_device.specs.declared.numeric.NumericSensor.{NumericSensor}
use Rattle.pldm_device.proofs.RecordsMade.{IsMadeAfter, came, effecter_named_made, has_some, or_has_some, passed, same_done, sensor_named_made, sets_have_states, thing_step, twice_mapped}

-- a thing that was found is there
found_some : {X : Type 0} (found : Option X) (x : X) → ok_or found MissingKey ≡ Ok x → found ≡ Some x
found_some None x e = cc
found_some (Some y) x e = cc

-- what the record of a numeric sensor says
numeric_sensor_describes : (eid : ℕ) (device : Device) (id : ℕ) (sensor : NumericSensor) (entity : Entity) (has_name : Bool) (entry : Members) (contents : RecordData) → with_id id device.numeric_sensors ≡ Some sensor → numeric_sensor_data id sensor.reading.size entity has_name entry ≡ Ok contents → Describes eid device contents
numeric_sensor_describes eid device id sensor entity has_name entry contents found e =
    let size = sensor.reading.size in
    let a = came (units_at entry) (λ units. thresholds_at size entry >>= λ thresholds. normal_range_at size entry >>= λ normal. Ok (records.NumericSensor (numeric_sensor_of id size entity has_name units thresholds normal))) contents e in
    let b = came (thresholds_at size entry) (λ thresholds. normal_range_at size entry >>= λ normal. Ok (records.NumericSensor (numeric_sensor_of id size entity has_name a.value thresholds normal))) contents a.next in
    let c = came (normal_range_at size entry) (λ normal. Ok (records.NumericSensor (numeric_sensor_of id size entity has_name a.value b.value normal))) contents b.next in
    subst (λ (x : RecordData). Describes eid device x) (same_done (records.NumericSensor (numeric_sensor_of id size entity has_name a.value b.value c.value)) contents c.next)
    (record { sensor = sensor; answered = λ rearm. ap numeric_sensor_answered found; size = refl; range = λ number. (λ h. h, λ h. h) })

pub numeric_sensor_step : (eid : ℕ) (device : Device) (before : List (List ℕ)) (default : Entity) (entry : Members) (made after : MadeRecords) → IsMadeAfter eid device before made → numeric_sensor_made device.numeric_sensors default entry made ≡ Ok after → IsMadeAfter eid device before after
numeric_sensor_step eid device before default entry made after h e =
    let own : ℕ → NumericSensor → Entity → Bool → Result RecordData FileFault = λ id sensor entity has_name. numeric_sensor_data id sensor.reading.size entity has_name entry in
    let a = came (id_at entry) (λ id. ok_or (with_id id device.numeric_sensors) MissingKey >>= λ sensor. thing_made default entry (own id sensor) (sensor_named id 1) made) after e in
    let b = came (ok_or (with_id a.value device.numeric_sensors) MissingKey) (λ sensor. thing_made default entry (own a.value sensor) (sensor_named a.value 1) made) after a.next in
    let found = found_some (with_id a.value device.numeric_sensors) b.value b.first in
    thing_step eid device before default entry (own a.value b.value) (sensor_named a.value 1) made after
    (λ entity has_name contents. numeric_sensor_describes eid device a.value b.value entity has_name entry contents found)
    (λ name more last g. sensor_named_made eid device before a.value 1 name more last g (has_some (with_id a.value device.numeric_sensors) b.value (has_id a.value device.state_sensors) found))
    h b.next

-- what the record of a state sensor says
state_sensor_describes : (eid : ℕ) (device : Device) (id : ℕ) (fields : List SensorStateField) (entity : Entity) (has_name : Bool) (entry : Members) (contents : RecordData) → with_id id device.state_sensors ≡ Some fields → state_sensor_data id fields entity has_name entry ≡ Ok contents → Describes eid device contents
state_sensor_describes eid device id fields entity has_name entry contents found e =
    let a = came (state_set_at entry) (λ state_set. Ok (records.StateSensor (state_sensor_of id fields entity has_name state_set))) contents e in
    let lists = map states_of_field fields in
    let have = subst (λ (x : List PossibleStates). HaveStates lists x) (twice_mapped a.value fields) (sets_have_states a.value lists) in
    subst (λ (x : RecordData). Describes eid device x) (same_done (records.StateSensor (state_sensor_of id fields entity has_name a.value)) contents a.next)
    (record { fields = fields; answered = λ rearm. ap state_sensor_answered found; possible = have })

pub state_sensor_step : (eid : ℕ) (device : Device) (before : List (List ℕ)) (default : Entity) (entry : Members) (made after : MadeRecords) → IsMadeAfter eid device before made → state_sensor_made device.state_sensors default entry made ≡ Ok after → IsMadeAfter eid device before after
state_sensor_step eid device before default entry made after h e =
    let own : ℕ → List SensorStateField → Entity → Bool → Result RecordData FileFault = λ id fields entity has_name. state_sensor_data id fields entity has_name entry in
    let a = came (id_at entry) (λ id. ok_or (with_id id device.state_sensors) MissingKey >>= λ fields. thing_made default entry (own id fields) (sensor_named id (length fields)) made) after e in
    let b = came (ok_or (with_id a.value device.state_sensors) MissingKey) (λ fields. thing_made default entry (own a.value fields) (sensor_named a.value (length fields)) made) after a.next in
    let found = found_some (with_id a.value device.state_sensors) b.value b.first in
    thing_step eid device before default entry (own a.value b.value) (sensor_named a.value (length b.value)) made after
    (λ entity has_name contents. state_sensor_describes eid device a.value b.value entity has_name entry contents found)
    (λ name more last g. sensor_named_made eid device before a.value (length b.value) name more last g (or_has_some (with_id a.value device.state_sensors) b.value (has_id a.value device.numeric_sensors) found))
    h b.next

-- what the record of a numeric effecter says
numeric_effecter_describes : (eid : ℕ) (device : Device) (id : ℕ) (effecter : NumericEffecter) (entity : Entity) (has_name : Bool) (entry : Members) (contents : RecordData) → with_id id device.numeric_effecters ≡ Some effecter → numeric_effecter_data id effecter entity has_name entry ≡ Ok contents → Describes eid device contents
numeric_effecter_describes eid device id effecter entity has_name entry contents found e =
    let size = effecter.value.size in
    let a = came (units_at entry) (λ units. normal_range_at size entry >>= λ normal. Ok (records.NumericEffecter (numeric_effecter_of id effecter entity has_name units normal))) contents e in
    let b = came (normal_range_at size entry) (λ normal. Ok (records.NumericEffecter (numeric_effecter_of id effecter entity has_name a.value normal))) contents a.next in
    subst (λ (x : RecordData). Describes eid device x) (same_done (records.NumericEffecter (numeric_effecter_of id effecter entity has_name a.value b.value)) contents b.next)
    (record { effecter = effecter; found = found; answered = ap numeric_effecter_answered found; size = refl; min = refl; max = refl })

pub numeric_effecter_step : (eid : ℕ) (device : Device) (before : List (List ℕ)) (default : Entity) (entry : Members) (made after : MadeRecords) → IsMadeAfter eid device before made → numeric_effecter_made device.numeric_effecters default entry made ≡ Ok after → IsMadeAfter eid device before after
numeric_effecter_step eid device before default entry made after h e =
    let own : ℕ → NumericEffecter → Entity → Bool → Result RecordData FileFault = λ id effecter entity has_name. numeric_effecter_data id effecter entity has_name entry in
    let a = came (id_at entry) (λ id. ok_or (with_id id device.numeric_effecters) MissingKey >>= λ effecter. thing_made default entry (own id effecter) (effecter_named id 1) made) after e in
    let b = came (ok_or (with_id a.value device.numeric_effecters) MissingKey) (λ effecter. thing_made default entry (own a.value effecter) (effecter_named a.value 1) made) after a.next in
    let found = found_some (with_id a.value device.numeric_effecters) b.value b.first in
    thing_step eid device before default entry (own a.value b.value) (effecter_named a.value 1) made after
    (λ entity has_name contents. numeric_effecter_describes eid device a.value b.value entity has_name entry contents found)
    (λ name more last g. effecter_named_made eid device before a.value 1 name more last g (has_some (with_id a.value device.numeric_effecters) b.value (has_id a.value device.state_effecters) found))
    h b.next

-- what the record of a state effecter says
state_effecter_describes : (eid : ℕ) (device : Device) (id : ℕ) (effecter : FieldsOfStates) (entity : Entity) (has_name : Bool) (entry : Members) (contents : RecordData) → with_id id device.state_effecters ≡ Some effecter → state_effecter_data id effecter.allowed entity has_name entry ≡ Ok contents → Describes eid device contents
state_effecter_describes eid device id effecter entity has_name entry contents found e =
    let a = came (state_set_at entry) (λ state_set. few_fields effecter.allowed >>= λ fields. Ok (records.StateEffecter (state_effecter_of id fields entity has_name state_set))) contents e in
    let b = came (few_fields effecter.allowed) (λ fields. Ok (records.StateEffecter (state_effecter_of id fields entity has_name a.value))) contents a.next in
    let same = passed (nat_le (length effecter.allowed) MAX_STATES) effecter.allowed b.value OutOfRange b.first in
    let have = subst (λ (x : List (List ℕ)). HaveStates effecter.allowed (map (possible a.value) x)) same (sets_have_states a.value effecter.allowed) in
    subst (λ (x : RecordData). Describes eid device x) (same_done (records.StateEffecter (state_effecter_of id b.value entity has_name a.value)) contents b.next)
    (record { effecter = effecter; found = found; answered = ap state_effecter_answered found; possible = have })

pub state_effecter_step : (eid : ℕ) (device : Device) (before : List (List ℕ)) (default : Entity) (entry : Members) (made after : MadeRecords) → IsMadeAfter eid device before made → state_effecter_made device.state_effecters default entry made ≡ Ok after → IsMadeAfter eid device before after
state_effecter_step eid device before default entry made after h e =
    let own : ℕ → FieldsOfStates → Entity → Bool → Result RecordData FileFault = λ id effecter entity has_name. state_effecter_data id effecter.allowed entity has_name entry in
    let a = came (id_at entry) (λ id. ok_or (with_id id device.state_effecters) MissingKey >>= λ effecter. thing_made default entry (own id effecter) (effecter_named id (length effecter.states)) made) after e in
    let b = came (ok_or (with_id a.value device.state_effecters) MissingKey) (λ effecter. thing_made default entry (own a.value effecter) (effecter_named a.value (length effecter.states)) made) after a.next in
    let found = found_some (with_id a.value device.state_effecters) b.value b.first in
    thing_step eid device before default entry (own a.value b.value) (effecter_named a.value (length b.value.states)) made after
    (λ entity has_name contents. state_effecter_describes eid device a.value b.value entity has_name entry contents found)
    (λ name more last g. effecter_named_made eid device before a.value (length b.value.states) name more last g (or_has_some (with_id a.value device.state_effecters) b.value (has_id a.value device.numeric_effecters) found))
    h b.next
