-- The entity of a record (DSP0248, "Entity identification information").
use Rattle.std.specs.Prelude.{ℕ, List, ◌++◌, Ok}
use Rattle.byteorder.specs.Endian.{little_bytes}
use Rattle.pldm_wire.specs.Numbers.{IsU16}
use Rattle.pldm_pdr.specs.declared.entity.Entity.{Entity}
use Rattle.pldm_pdr.specs.Fields.{◌>>=◌, Field, number_at}

abbrev pub entity_bytes : Entity → List ℕ
entity_bytes entity =
    little_bytes 2 entity.entity_type ++ little_bytes 2 entity.instance ++ little_bytes 2 entity.container_id

abbrev pub IsEntity : Entity → Type 0
IsEntity entity = IsU16 entity.entity_type × IsU16 entity.instance × IsU16 entity.container_id

unfoldable pub entity_at : List ℕ → Field Entity
entity_at bytes = do
  entity_type ← number_at 2 bytes
  instance ← number_at 2 entity_type.1
  container ← number_at 2 instance.1
  Ok (record { entity_type = entity_type.0; instance = instance.0; container_id = container.0 }, container.1)
