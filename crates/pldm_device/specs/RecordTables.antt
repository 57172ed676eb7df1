-- The table `records` of a description: where it is, the things of the device have records, made after those that the
-- description states.
use Rattle.std.specs.Prelude.{ℕ, true, codes, List, [], Option, Some, None, Result, Ok}
use Rattle.toml.specs.Data.{Data, Items, no_items, item, Members, get_member}
use Rattle.pldm_pdr.specs.StateSets.{kept}
use Rattle.pldm_pdr.specs.declared.data.RecordData.{RecordData}
use Rattle.pldm_pdr.specs.declared.data.RecordData.TheVariants as records
use Rattle.pldm_pdr.specs.declared.entity.Entity.{Entity}
use Rattle.simulated_device.specs.Devices.{Device, recorded}
use Rattle.pldm_device.specs.EffecterRecords.{numeric_effecter_made, state_effecter_made}
use Rattle.pldm_device.specs.Entries.{entries_at}
use Rattle.pldm_device.specs.KeyValues.{◌>>=◌, table_in}
use Rattle.pldm_device.specs.MadeRecords.{made_after, with_made}
use Rattle.pldm_device.specs.RecordKeys.{entity_at, name_at}
use Rattle.pldm_device.specs.RecordNames.{one_name}
use Rattle.pldm_device.specs.SensorRecords.{numeric_sensor_made, state_sensor_made}
use Rattle.pldm_device.specs.declared.description_fault.FileFault.{FileFault}
use Rattle.pldm_device.specs.declared.limits.TheConstants.{TERMINUS_HANDLE}
use Rattle.pldm_device.specs.declared.made_records.MadeRecords.{MadeRecords}
use Rattle.pldm_device.specs.declared.record_table.Kind.{Kind}
use Rattle.pldm_device.specs.declared.record_table.Kind.TheVariants.{NumericSensors, StateSensors, NumericEffecters, StateEffecters}

-- the list of a kind of things
abbrev pub key_of : Kind → List ℕ
key_of NumericSensors = codes "numeric_sensor"
key_of StateSensors = codes "state_sensor"
key_of NumericEffecters = codes "numeric_effecter"
key_of StateEffecters = codes "state_effecter"

-- the records of an entry of that list
abbrev pub entry_made : Kind → Device → Entity → Members → MadeRecords → Result MadeRecords FileFault
entry_made NumericSensors device default entry made = numeric_sensor_made device.numeric_sensors default entry made
entry_made StateSensors device default entry made = state_sensor_made device.state_sensors default entry made
entry_made NumericEffecters device default entry made =
    numeric_effecter_made device.numeric_effecters default entry made
entry_made StateEffecters device default entry made = state_effecter_made device.state_effecters default entry made

-- those of entries in turn
abbrev pub each_made : Kind → Device → Entity → MadeRecords → Items → Result MadeRecords FileFault
each_made kind device default made no_items = Ok made
each_made kind device default made (item entry rest) =
    table_in entry >>= λ table. entry_made kind device default table made >>= λ more.
    each_made kind device default more rest

unfoldable pub kind_made : Kind → Device → Entity → Members → MadeRecords → Result MadeRecords FileFault
kind_made kind device default document made = entries_at (key_of kind) document >>= each_made kind device default made

-- the record of the terminus with the ID, at the endpoint with the ID
abbrev pub terminus_located : ℕ → ℕ → Entity → RecordData
terminus_located eid tid entity = records.TerminusLocator (record {
  terminus_handle = TERMINUS_HANDLE;
  is_valid = true;
  tid = tid;
  container_id = entity.container_id;
  eid = eid;
})

-- the record of the terminus' name, where it has one: it is that of its entity
abbrev pub entity_named : Entity → Option (List ℕ) → MadeRecords → Result MadeRecords FileFault
entity_named entity None made = Ok made
entity_named entity (Some name) made =
    with_made (records.EntityNames (record { entity = entity; names = kept (one_name name) })) made

-- the entity of a table that has none
abbrev pub no_entity : Entity
no_entity = record { entity_type = 0; instance = 0; container_id = 0 }

-- the records of the terminus, after those before: where it is, and its name
unfoldable pub terminus_made : ℕ → ℕ → Entity → Option (List ℕ) → List (List ℕ) → Result MadeRecords FileFault
terminus_made eid tid entity name before = with_made (terminus_located eid tid entity) (made_after before) >>= entity_named entity name

-- the records of each thing
unfoldable pub things_made : Device → Entity → Members → MadeRecords → Result MadeRecords FileFault
things_made device default document made = do
  numeric_sensors ← kind_made NumericSensors device default document made
  state_sensors ← kind_made StateSensors device default document numeric_sensors
  numeric_effecters ← kind_made NumericEffecters device default document state_sensors
  kind_made StateEffecters device default document numeric_effecters

-- these and those, where the table has this name and this entity
unfoldable pub all_made :
    ℕ → Members → Device → Entity → Option (List ℕ) → List (List ℕ) → Result (List (List ℕ)) FileFault
all_made eid document device entity name before = do
  located ← terminus_made eid device.tid entity name before
  made ← things_made device entity document located
  Ok made.records

-- the records that the table has made, after those before
unfoldable pub table_made : ℕ → Members → Device → List (List ℕ) → Members → Result (List (List ℕ)) FileFault
table_made eid document device before table = do
  name ← name_at table
  entity ← entity_at no_entity table
  all_made eid document device entity name before

-- records are made of what else the device has
abbrev pub records_if_there : ℕ → Members → Device → Option Data → Result Device FileFault
records_if_there eid document device None = Ok device
records_if_there eid document device (Some value) =
    table_in value >>= λ table. table_made eid document (recorded device []) device.records table >>= λ records.
    Ok (recorded device records)

-- the device with the records that the document has made
abbrev pub with_records : ℕ → Members → Device → Result Device FileFault
with_records eid document device = records_if_there eid document device (get_member (codes "records") document)
