-- The records of a description, in the order of its text.
use Rattle.std.specs.Prelude.{ℕ, codes, List, [], ◌∷◌, ◌++◌, Result, Ok, Err, is_some, if◌then◌else◌}
use Rattle.toml.specs.Data.{Data, Items, no_items, item, Members}
use Rattle.pldm_device.specs.Entries.{entries_at}
use Rattle.pldm_device.specs.HexValues.{bytes_in}
use Rattle.pldm_device.specs.KeyValues.{◌>>=◌, value_at, table_in}
use Rattle.pldm_records.specs.Records.{handle_of, is_record, position_of}
use Rattle.pldm_device.specs.declared.description_fault.FileFault.{FileFault}
use Rattle.pldm_device.specs.declared.description_fault.FileFault.TheVariants.{BadRecord, Duplicate}

-- the bytes, which have to be a record
abbrev pub checked : List ℕ → Result (List ℕ) FileFault
checked bytes = if is_record bytes then Ok bytes else Err BadRecord

abbrev pub record_in : Members → Result (List ℕ) FileFault
record_in entry = value_at (codes "hex") entry >>= bytes_in >>= checked

abbrev pub record_of : Data → Result (List ℕ) FileFault
record_of value = table_in value >>= record_in

-- the records before, and the one after them: its handle is none of theirs
abbrev pub with_record : List (List ℕ) → List ℕ → Result (List (List ℕ)) FileFault
with_record before pdr =
    if is_some (position_of (handle_of pdr) before) then Err Duplicate else Ok (before ++ pdr ∷ [])

-- the records before, and those of the entries after them in turn
abbrev pub records_after : List (List ℕ) → Items → Result (List (List ℕ)) FileFault
records_after before no_items = Ok before
records_after before (item entry rest) =
    record_of entry >>= with_record before >>= λ records. records_after records rest

abbrev pub records_in : Members → Result (List (List ℕ)) FileFault
records_in document = entries_at (codes "pdr") document >>= records_after []
