-- The state effecter record (DSP0248, "State effecter PDR").
use Rattle.std.specs.Prelude.{ℕ, List, ◌++◌, Ok}
use Rattle.byteorder.specs.Endian.{little_bytes}
use Rattle.pldm_wire.specs.Numbers.{IsU8, IsU16}
use Rattle.pldm_pdr.specs.declared.state_effecter.StateEffecter.{StateEffecter}
use Rattle.pldm_pdr.specs.Fields.{◌>>=◌, Field, byte, byte_at, flag, flag_at, number_at}
use Rattle.pldm_pdr.specs.Entities.{entity_bytes, IsEntity, entity_at}
use Rattle.pldm_pdr.specs.StateSets.{composite_bytes, IsComposite, composite_at, kept}

abbrev pub state_effecter_bytes : StateEffecter → List ℕ
state_effecter_bytes effecter =
    little_bytes 2 effecter.terminus_handle ++ little_bytes 2 effecter.effecter_id ++ entity_bytes effecter.entity
    ++ little_bytes 2 effecter.semantic_id ++ byte effecter.init ++ flag effecter.has_description
    ++ composite_bytes effecter.sets.items

abbrev pub IsStateEffecter : StateEffecter → Type 0
IsStateEffecter effecter =
    IsU16 effecter.terminus_handle × IsU16 effecter.effecter_id × IsEntity effecter.entity
    × IsU16 effecter.semantic_id × IsU8 effecter.init × IsComposite effecter.sets.items

unfoldable pub state_effecter_at : List ℕ → Field StateEffecter
state_effecter_at bytes = do
  handle ← number_at 2 bytes
  id ← number_at 2 handle.1
  entity ← entity_at id.1
  semantic ← number_at 2 entity.1
  init ← byte_at semantic.1
  description ← flag_at init.1
  sets ← composite_at description.1
  Ok (
    record {
      terminus_handle = handle.0;
      effecter_id = id.0;
      entity = entity.0;
      semantic_id = semantic.0;
      init = init.0;
      has_description = description.0;
      sets = kept sets.0;
    },
    sets.1,
  )
