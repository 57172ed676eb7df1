-- The record of a name that a struct of fields is (DSP0248, "Sensor auxiliary names PDR", "Effecter auxiliary names
-- PDR" and "Entity auxiliary names PDR"): one name, in English.
use Rattle.std.specs.Prelude.{ℕ, nat_le, List, [], ◌∷◌, take, Option, Some, None, option_map, if◌then◌else◌}
use Rattle.pldm_pdr.specs.Names.{Name, all_names_bytes, names_bytes}
use Rattle.pldm_pdr.specs.Records.{PlatformRecord}
use Rattle.pldm_pdr.specs.StateSets.{kept}
use Rattle.pldm_pdr.specs.declared.data.RecordData.TheVariants.{EffecterNames as EffecterNamesData}
use Rattle.pldm_pdr.specs.declared.data.RecordData.TheVariants.{EntityNames as EntityNamesData}
use Rattle.pldm_pdr.specs.declared.data.RecordData.TheVariants.{SensorNames as SensorNamesData}
use Rattle.pldm_pdr.specs.declared.names.EffecterNames.{EffecterNames}
use Rattle.pldm_pdr.specs.declared.names.EntityNames.{EntityNames}
use Rattle.pldm_pdr.specs.declared.names.SensorNames.{SensorNames}
use Rattle.needleoat_wire_c.specs.RecordForms.{entity_in, record_in}
use Rattle.needleoat_wire_c.specs.declared.record_forms.EffecterNameFields.{EffecterNameFields}
use Rattle.needleoat_wire_c.specs.declared.record_forms.EntityNameFields.{EntityNameFields}
use Rattle.needleoat_wire_c.specs.declared.record_forms.SensorNameFields.{SensorNameFields}
use Rattle.needleoat_wire_c.specs.declared.record_forms.TheConstants.{NAME_UNITS}

-- the language tag `en`
abbrev pub english : List ℕ
english = 101 ∷ 110 ∷ []

-- the name of the first code units, as many as the length says
abbrev pub name_in : ℕ → List ℕ → Option Name
name_in length text =
    if nat_le length NAME_UNITS then Some (record { tag = english; units = take length text }) else None

-- the one name of an entity, and of the one sensor or effecter that a record is about

abbrev pub one_name : Name → List ℕ
one_name name = names_bytes (name ∷ [])

abbrev pub name_of_one : Name → List ℕ
name_of_one name = all_names_bytes ((name ∷ []) ∷ [])

-- the name of a sensor

abbrev pub sensor_name_with : SensorNameFields → Name → SensorNames
sensor_name_with f name =
    record { terminus_handle = f.terminus_handle; sensor_id = f.sensor_id; names = kept (name_of_one name) }

abbrev pub sensor_name_in : SensorNameFields → Option SensorNames
sensor_name_in f = option_map (sensor_name_with f) (name_in f.length f.text)

abbrev pub sensor_name_record : SensorNameFields → Option PlatformRecord
sensor_name_record f =
    record_in f.record_handle f.change_number (option_map (λ r. SensorNamesData r) (sensor_name_in f))

-- the name of an effecter

abbrev pub effecter_name_with : EffecterNameFields → Name → EffecterNames
effecter_name_with f name =
    record { terminus_handle = f.terminus_handle; effecter_id = f.effecter_id; names = kept (name_of_one name) }

abbrev pub effecter_name_in : EffecterNameFields → Option EffecterNames
effecter_name_in f = option_map (effecter_name_with f) (name_in f.length f.text)

abbrev pub effecter_name_record : EffecterNameFields → Option PlatformRecord
effecter_name_record f =
    record_in f.record_handle f.change_number (option_map (λ r. EffecterNamesData r) (effecter_name_in f))

-- the name of an entity

abbrev pub entity_name_with : EntityNameFields → Name → EntityNames
entity_name_with f name = record { entity = entity_in f.entity; names = kept (one_name name) }

abbrev pub entity_name_in : EntityNameFields → Option EntityNames
entity_name_in f = option_map (entity_name_with f) (name_in f.length f.text)

abbrev pub entity_name_record : EntityNameFields → Option PlatformRecord
entity_name_record f =
    record_in f.record_handle f.change_number (option_map (λ r. EntityNamesData r) (entity_name_in f))
