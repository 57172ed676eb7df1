-- What the keys of an entry say of its record. Each may be missing.
use Rattle.std.specs.Prelude.{ℕ, ℤ, pos, codes, List, Option, Some, None, Result, Ok, Err, if◌then◌else◌}
use Rattle.std.specs.Option.{ok_or}
use Rattle.toml.specs.Data.{Data, Items, no_items, item, Members, get_member, as_str}
use Rattle.pldm_wire.specs.declared.size.Size.{Size}
use Rattle.pldm_wire.specs.declared.size.Size.TheVariants.{Sint8}
use Rattle.pldm_pdr.specs.declared.entity.Entity.{Entity}
use Rattle.pldm_pdr.specs.declared.units.Units.{Units}
use Rattle.pldm_device.specs.KeyValues.{◌>>=◌, map_ok, number_in, text_in}
use Rattle.pldm_device.specs.NumberLists.{integers_in}
use Rattle.pldm_device.specs.RecordNames.{is_name}
use Rattle.pldm_device.specs.SizeNames.{sized_in}
use Rattle.pldm_device.specs.UnitNames.{unit_named}
use Rattle.pldm_device.specs.declared.record_keys.NormalRange.{NormalRange}
use Rattle.pldm_device.specs.declared.record_keys.Thresholds.{Thresholds}
use Rattle.pldm_device.specs.declared.description_fault.FileFault.{FileFault}
use Rattle.pldm_device.specs.declared.description_fault.FileFault.TheVariants.{OutOfRange}

-- a name
abbrev pub name_in : Data → Result (List ℕ) FileFault
name_in value = text_in value >>= λ text. if is_name text then Ok text else Err OutOfRange

abbrev pub name_if_there : Option Data → Result (Option (List ℕ)) FileFault
name_if_there None = Ok None
name_if_there (Some value) = map_ok Some (name_in value)

unfoldable pub name_at : Members → Result (Option (List ℕ)) FileFault
name_at entry = name_if_there (get_member (codes "name") entry)

-- an entity: its type, which of its type it is, and the entity that contains it
abbrev pub entity_of : Items → Result Entity FileFault
entity_of (item first (item second (item third no_items))) = do
  entity_type ← number_in 0 65535 first
  instance ← number_in 0 65535 second
  container_id ← number_in 0 65535 third
  Ok (record { entity_type = entity_type; instance = instance; container_id = container_id })
entity_of _ = Err OutOfRange

abbrev pub entity_in : Data → Result Entity FileFault
entity_in value = integers_in value >>= entity_of

-- the default where the key is missing
abbrev pub entity_if_there : Entity → Option Data → Result Entity FileFault
entity_if_there default None = Ok default
entity_if_there default (Some value) = entity_in value

unfoldable pub entity_at : Entity → Members → Result Entity FileFault
entity_at default entry = entity_if_there default (get_member (codes "entity") entry)

-- a unit: its name or its number
abbrev pub unit_of : Option (List ℕ) → Data → Result ℕ FileFault
unit_of (Some name) value = ok_or (unit_named name) OutOfRange
unit_of None value = number_in 0 255 value

abbrev pub unit_in : Data → Result ℕ FileFault
unit_in value = unit_of (as_str value) value

abbrev pub unit_if_there : Option Data → Result ℕ FileFault
unit_if_there None = Ok 0
unit_if_there (Some value) = unit_in value

-- a number of the size
abbrev pub sized_if_there : Size → Option Data → Result (Option ℤ) FileFault
sized_if_there size None = Ok None
sized_if_there size (Some value) = map_ok (λ number. Some number.value) (sized_in size value)

abbrev pub sized_if_any : List ℕ → Size → Members → Result (Option ℤ) FileFault
sized_if_any key size entry = sized_if_there size (get_member key entry)

-- the number, or that where there is none
abbrev pub number_or : ℤ → Option ℤ → ℤ
number_or other None = other
number_or other (Some number) = number

-- the unit, and the power of ten that numbers are multiplied by; there is no other unit
abbrev pub units_of : ℕ → ℤ → Units
units_of unit modifier = record {
  base_unit = unit;
  unit_modifier = modifier;
  rate_unit = 0;
  base_oem_unit_handle = 0;
  auxiliary_unit = 0;
  auxiliary_unit_modifier = pos 0;
  auxiliary_rate_unit = 0;
}

unfoldable pub units_at : Members → Result Units FileFault
units_at entry = do
  unit ← unit_if_there (get_member (codes "unit") entry)
  modifier ← sized_if_any (codes "modifier") Sint8 entry
  Ok (units_of unit (number_or (pos 0) modifier))

-- the thresholds of a sensor whose numbers are of the size
unfoldable pub thresholds_at : Size → Members → Result Thresholds FileFault
thresholds_at size entry = do
  warning_high ← sized_if_any (codes "warning_high") size entry
  critical_high ← sized_if_any (codes "critical_high") size entry
  fatal_high ← sized_if_any (codes "fatal_high") size entry
  warning_low ← sized_if_any (codes "warning_low") size entry
  critical_low ← sized_if_any (codes "critical_low") size entry
  fatal_low ← sized_if_any (codes "fatal_low") size entry
  Ok (record {
    warning_high = warning_high;
    critical_high = critical_high;
    fatal_high = fatal_high;
    warning_low = warning_low;
    critical_low = critical_low;
    fatal_low = fatal_low;
  })

-- the normal range of a thing whose numbers are of the size
unfoldable pub normal_range_at : Size → Members → Result NormalRange FileFault
normal_range_at size entry = do
  normal_max ← sized_if_any (codes "normal_max") size entry
  normal_min ← sized_if_any (codes "normal_min") size entry
  nominal ← sized_if_any (codes "nominal") size entry
  Ok (record { normal_max = normal_max; normal_min = normal_min; nominal = nominal })

-- the state set of a thing of states
abbrev pub state_set_if_there : Option Data → Result ℕ FileFault
state_set_if_there None = Ok 0
state_set_if_there (Some value) = number_in 0 65535 value

unfoldable pub state_set_at : Members → Result ℕ FileFault
state_set_at entry = state_set_if_there (get_member (codes "state_set") entry)
