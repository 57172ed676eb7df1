-- A table `records` whose entity is refused makes no records.
use Rattle.std.proofs.Common.{◌≡◌, ℕ, List, Option, Ok, Err, refl}
use Rattle.toml.specs.Data.{Members}
use Rattle.simulated_device.specs.Devices.{Device}
use Rattle.pldm_device.specs.RecordKeys.{entity_at, name_at}
use Rattle.pldm_device.specs.RecordTables.{no_entity, table_made}
use Rattle.pldm_device.specs.declared.description_fault.FileFault.{FileFault}

pub entity_refused : (eid : ℕ) (document : Members) (device : Device) (before : List (List ℕ)) (table : Members) (name : Option (List ℕ)) (fault : FileFault) → name_at table ≡ Ok name → entity_at no_entity table ≡ Err fault → table_made eid document device before table ≡ Err fault
unfolding table_made
entity_refused eid document device before table name fault named refused = rw (named, refused) refl
