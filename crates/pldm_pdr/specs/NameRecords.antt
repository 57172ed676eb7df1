-- The records of auxiliary names (DSP0248, "Sensor auxiliary names PDR", "Effecter auxiliary names PDR" and "Entity
-- auxiliary names PDR").
use Rattle.std.specs.Prelude.{ℕ, ◌<◌, IsTrue, List, ◌++◌, slice_index, Ok}
use Rattle.byteorder.specs.Endian.{little_bytes}
use Rattle.pldm_wire.specs.Numbers.{IsU16}
use Rattle.pldm_pdr.specs.declared.limits.TheConstants.{NO_SHARED_NAMES}
use Rattle.pldm_pdr.specs.declared.fault.RecordFault.TheVariants.{Shared}
use Rattle.pldm_pdr.specs.declared.names.SensorNames.{SensorNames}
use Rattle.pldm_pdr.specs.declared.names.EffecterNames.{EffecterNames}
use Rattle.pldm_pdr.specs.declared.names.EntityNames.{EntityNames}
use Rattle.pldm_pdr.specs.Fields.{◌>>=◌, Field, byte, constant_at, number_at}
use Rattle.pldm_pdr.specs.Entities.{entity_bytes, IsEntity, entity_at}
use Rattle.pldm_pdr.specs.StateSets.{kept}
use Rattle.pldm_pdr.specs.Names.{all_names_end, are_all_names, are_names, names_end, text_to}

abbrev pub AreBytes : List ℕ → Type 0
AreBytes text = (i : ℕ) → slice_index text i < 256

abbrev pub sensor_names_bytes : SensorNames → List ℕ
sensor_names_bytes names =
    little_bytes 2 names.terminus_handle ++ little_bytes 2 names.sensor_id ++ names.names.items

abbrev pub IsSensorNames : SensorNames → Type 0
IsSensorNames names =
    IsU16 names.terminus_handle × IsU16 names.sensor_id × AreBytes names.names.items
    × IsTrue (are_all_names names.names.items)

unfoldable pub sensor_names_at : List ℕ → Field SensorNames
sensor_names_at bytes = do
  handle ← number_at 2 bytes
  id ← number_at 2 handle.1
  names ← text_to id.1 (all_names_end id.1)
  Ok (record { terminus_handle = handle.0; sensor_id = id.0; names = kept names.0 }, names.1)

abbrev pub effecter_names_bytes : EffecterNames → List ℕ
effecter_names_bytes names =
    little_bytes 2 names.terminus_handle ++ little_bytes 2 names.effecter_id ++ names.names.items

abbrev pub IsEffecterNames : EffecterNames → Type 0
IsEffecterNames names =
    IsU16 names.terminus_handle × IsU16 names.effecter_id × AreBytes names.names.items
    × IsTrue (are_all_names names.names.items)

unfoldable pub effecter_names_at : List ℕ → Field EffecterNames
effecter_names_at bytes = do
  handle ← number_at 2 bytes
  id ← number_at 2 handle.1
  names ← text_to id.1 (all_names_end id.1)
  Ok (record { terminus_handle = handle.0; effecter_id = id.0; names = kept names.0 }, names.1)

abbrev pub entity_names_bytes : EntityNames → List ℕ
entity_names_bytes names = entity_bytes names.entity ++ byte NO_SHARED_NAMES ++ names.names.items

abbrev pub IsEntityNames : EntityNames → Type 0
IsEntityNames names = IsEntity names.entity × AreBytes names.names.items × IsTrue (are_names names.names.items)

unfoldable pub entity_names_at : List ℕ → Field EntityNames
entity_names_at bytes = do
  entity ← entity_at bytes
  shared ← constant_at Shared NO_SHARED_NAMES entity.1
  names ← text_to shared (names_end shared)
  Ok (record { entity = entity.0; names = kept names.0 }, names.1)
