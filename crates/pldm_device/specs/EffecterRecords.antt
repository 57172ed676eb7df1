-- The records of effecters: what is said of an effecter comes from the device and from the keys of its entry (DSP0248,
-- "Numeric effecter PDR" and "State effecter PDR").
use Rattle.std.specs.Prelude.{ℕ, pos, nat_le, Bool, List, length, map, Option, Some, None, Result, Ok, Err, if◌then◌else◌}
use Rattle.std.specs.Option.{ok_or}
use Rattle.toml.specs.Data.{Members}
use Rattle.pldm_wire.specs.declared.limits.TheConstants.{MAX_STATES}
use Rattle.pldm_wire.specs.declared.size.Size.{Size}
use Rattle.pldm_pdr.specs.StateSets.{kept}
use Rattle.pldm_pdr.specs.declared.data.RecordData.{RecordData}
use Rattle.pldm_pdr.specs.declared.data.RecordData.TheVariants as records
use Rattle.pldm_pdr.specs.declared.effecter_range.EffecterRange.{EffecterRange}
use Rattle.pldm_pdr.specs.declared.entity.Entity.{Entity}
use Rattle.pldm_pdr.specs.declared.numeric_effecter.NumericEffecter as pldm_pdr
use Rattle.pldm_pdr.specs.declared.range_format.RangeFormat.TheVariants.{Number}
use Rattle.pldm_pdr.specs.declared.state_effecter.StateEffecter.{StateEffecter}
use Rattle.pldm_pdr.specs.declared.units.Units.{Units}
use Rattle.pldm_records.specs.ById.{ById, with_id}
use Rattle.pldm_device.specs.Entries.{id_at}
use Rattle.pldm_device.specs.KeyValues.{◌>>=◌}
use Rattle.pldm_device.specs.MadeRecords.{with_made}
use Rattle.pldm_device.specs.RecordKeys.{normal_range_at, number_or, state_set_at, units_at}
use Rattle.pldm_device.specs.RecordNames.{name_of_first}
use Rattle.pldm_device.specs.SensorRecords.{conversion_of, normal_support, possible, thing_made}
use Rattle.simulated_device.specs.StateEffecters.{FieldsOfStates}
use Rattle.pldm_device.specs.declared.description_fault.FileFault.{FileFault}
use Rattle.pldm_device.specs.declared.description_fault.FileFault.TheVariants.{MissingKey, OutOfRange}
use Rattle.pldm_device.specs.declared.limits.TheConstants.{TERMINUS_HANDLE}
use Rattle.pldm_device.specs.declared.made_records.MadeRecords.{MadeRecords}
use Rattle.simulated_device.specs.declared.numeric.NumericEffecter.{NumericEffecter}
use Rattle.pldm_device.specs.declared.record_keys.NormalRange.{NormalRange}

-- the range in the data size; 0 where nothing is said. No range is rated: the effecter takes each number of its own
abbrev pub effecter_range : Size → NormalRange → EffecterRange
effecter_range size normal = record {
  format = Number size;
  support = normal_support normal;
  nominal = number_or (pos 0) normal.nominal;
  normal_max = number_or (pos 0) normal.normal_max;
  normal_min = number_or (pos 0) normal.normal_min;
  rated_max = pos 0;
  rated_min = pos 0;
}

-- the record of a numeric effecter with the ID: it can be set to each number that it takes
abbrev pub numeric_effecter_of : ℕ → NumericEffecter → Entity → Bool → Units → NormalRange → pldm_pdr.NumericEffecter
numeric_effecter_of id effecter entity has_name units normal = record {
  terminus_handle = TERMINUS_HANDLE;
  effecter_id = id;
  entity = entity;
  semantic_id = 0;
  init = 0;
  has_auxiliary_names = has_name;
  units = units;
  auxiliary_oem_unit_handle = 0;
  conversion = conversion_of effecter.value.size;
  state_transition_interval = 0;
  transition_interval = 0;
  max_settable = effecter.max;
  min_settable = effecter.min;
  range = effecter_range effecter.value.size normal;
}

abbrev pub numeric_effecter_data : ℕ → NumericEffecter → Entity → Bool → Members → Result RecordData FileFault
numeric_effecter_data id effecter entity has_name entry = do
  units ← units_at entry
  normal ← normal_range_at effecter.value.size entry
  Ok (records.NumericEffecter (numeric_effecter_of id effecter entity has_name units normal))

-- the record of an effecter's name, where it has one
abbrev pub effecter_named : ℕ → ℕ → Option (List ℕ) → MadeRecords → Result MadeRecords FileFault
effecter_named id count None made = Ok made
effecter_named id count (Some name) made =
    with_made (records.EffecterNames (record {
      terminus_handle = TERMINUS_HANDLE;
      effecter_id = id;
      names = kept (name_of_first count name);
    })) made

-- the records of an entry: of the effecter with its ID, and of its name
abbrev pub numeric_effecter_made : ById NumericEffecter → Entity → Members → MadeRecords → Result MadeRecords FileFault
numeric_effecter_made effecters default entry made = do
  id ← id_at entry
  effecter ← ok_or (with_id id effecters) MissingKey
  thing_made default entry (λ entity has_name. numeric_effecter_data id effecter entity has_name entry)
      (effecter_named id 1) made

-- no more fields than a record can hold
abbrev pub few_fields : List (List ℕ) → Result (List (List ℕ)) FileFault
few_fields allowed = if nat_le (length allowed) MAX_STATES then Ok allowed else Err OutOfRange

-- the record of a state effecter with the ID: its possible states are those that its fields can take
abbrev pub state_effecter_of : ℕ → List (List ℕ) → Entity → Bool → ℕ → StateEffecter
state_effecter_of id allowed entity has_name state_set = record {
  terminus_handle = TERMINUS_HANDLE;
  effecter_id = id;
  entity = entity;
  semantic_id = 0;
  init = 0;
  has_description = has_name;
  sets = kept (map (possible state_set) allowed);
}

abbrev pub state_effecter_data : ℕ → List (List ℕ) → Entity → Bool → Members → Result RecordData FileFault
state_effecter_data id allowed entity has_name entry = do
  state_set ← state_set_at entry
  fields ← few_fields allowed
  Ok (records.StateEffecter (state_effecter_of id fields entity has_name state_set))

abbrev pub state_effecter_made : ById FieldsOfStates → Entity → Members → MadeRecords → Result MadeRecords FileFault
state_effecter_made effecters default entry made = do
  id ← id_at entry
  effecter ← ok_or (with_id id effecters) MissingKey
  thing_made default entry (λ entity has_name. state_effecter_data id effecter.allowed entity has_name entry)
      (effecter_named id (length effecter.states)) made
