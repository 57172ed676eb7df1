-- The state sensor record (DSP0248, "State sensor PDR").
use Rattle.std.specs.Prelude.{ℕ, List, ◌++◌, Ok}
use Rattle.byteorder.specs.Endian.{little_bytes}
use Rattle.pldm_wire.specs.Numbers.{IsU8, IsU16}
use Rattle.pldm_pdr.specs.declared.state_sensor.StateSensor.{StateSensor}
use Rattle.pldm_pdr.specs.Fields.{◌>>=◌, Field, byte, byte_at, flag, flag_at, number_at}
use Rattle.pldm_pdr.specs.Entities.{entity_bytes, IsEntity, entity_at}
use Rattle.pldm_pdr.specs.StateSets.{composite_bytes, IsComposite, composite_at, kept}

abbrev pub state_sensor_bytes : StateSensor → List ℕ
state_sensor_bytes sensor =
    little_bytes 2 sensor.terminus_handle ++ little_bytes 2 sensor.sensor_id ++ entity_bytes sensor.entity
    ++ byte sensor.init ++ flag sensor.has_auxiliary_names ++ composite_bytes sensor.sets.items

abbrev pub IsStateSensor : StateSensor → Type 0
IsStateSensor sensor =
    IsU16 sensor.terminus_handle × IsU16 sensor.sensor_id × IsEntity sensor.entity × IsU8 sensor.init
    × IsComposite sensor.sets.items

unfoldable pub state_sensor_at : List ℕ → Field StateSensor
state_sensor_at bytes = do
  handle ← number_at 2 bytes
  id ← number_at 2 handle.1
  entity ← entity_at id.1
  init ← byte_at entity.1
  names ← flag_at init.1
  sets ← composite_at names.1
  Ok (
    record {
      terminus_handle = handle.0;
      sensor_id = id.0;
      entity = entity.0;
      init = init.0;
      has_auxiliary_names = names.0;
      sets = kept sets.0;
    },
    sets.1,
  )
