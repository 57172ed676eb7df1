-- The lists of sensors, effecters and records in a description.
use Rattle.std.specs.Prelude.{ℕ, nat_le, Bool, ◌||◌, codes, List, Option, Some, None, Result, Ok, Err, if◌then◌else◌}
use Rattle.toml.specs.Data.{Data, Items, no_items, item, Members, get_member}
use Rattle.pldm_records.specs.ById.{ById, has_id, add}
use Rattle.pldm_device.specs.KeyValues.{◌>>=◌, array_in, number_at}
use Rattle.pldm_device.specs.NumberLists.{count}
use Rattle.pldm_device.specs.declared.limits.TheConstants.{MAX_ENTRIES, MAX_ID}
use Rattle.pldm_device.specs.declared.description_fault.FileFault.{FileFault}
use Rattle.pldm_device.specs.declared.description_fault.FileFault.TheVariants.{OutOfRange, Duplicate}

abbrev pub not_too_many : Items → Result Items FileFault
not_too_many items = if nat_le (count items) MAX_ENTRIES then Ok items else Err OutOfRange

abbrev pub entries_of : Option Data → Result Items FileFault
entries_of None = Ok no_items
entries_of (Some value) = array_in value >>= not_too_many

-- the entries of the list at a key; a missing list has none
abbrev pub entries_at : List ℕ → Members → Result Items FileFault
entries_at key document = entries_of (get_member key document)

abbrev pub id_at : Members → Result ℕ FileFault
id_at entry = number_at (codes "id") 0 MAX_ID entry

-- the things before, and those of the entries after them in turn: each with an ID that no earlier one has
abbrev pub things_after :
    {X : Type 0} → (Data → Result (ℕ × X) FileFault) → (ℕ → Bool) → ById X → Items → Result (ById X) FileFault
things_after read is_taken before no_items = Ok before
things_after read is_taken before (item entry rest) =
    read entry >>= λ thing.
    if is_taken thing.0 || has_id thing.0 before then Err Duplicate
    else things_after read is_taken (add thing.0 thing.1 before) rest
