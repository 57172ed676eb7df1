-- Records that are made, each after those before it, with the next handle.
use Rattle.std.specs.Prelude.{ℕ, ◌+◌, ◌-◌, ◌^◌, ◌==◌, nat_lt, max, List, [], ◌∷◌, length}
use Rattle.std.specs.Prelude.{Result, Ok, Err, if◌then◌else◌}
use Rattle.pldm_pdr.specs.Records.{bytes_of, data_fits, platform_record}
use Rattle.pldm_pdr.specs.declared.data.RecordData.{RecordData}
use Rattle.pldm_records.specs.Records.{handle_of}
use Rattle.pldm_records.specs.declared.limits.TheConstants.{MAX_RECORDS}
use Rattle.pldm_device.specs.KeyValues.{◌>>=◌}
use Rattle.pldm_device.specs.RecordEntries.{checked, with_record}
use Rattle.pldm_device.specs.declared.description_fault.FileFault.{FileFault}
use Rattle.pldm_device.specs.declared.description_fault.FileFault.TheVariants.{OutOfRange}
use Rattle.pldm_device.specs.declared.made_records.MadeRecords.{MadeRecords}

-- the largest handle of records, 0 where there are none
abbrev pub largest_handle : List (List ℕ) → ℕ
largest_handle [] = 0
largest_handle (pdr ∷ records) = max (handle_of pdr) (largest_handle records)

-- the records before those that are made
abbrev pub made_after : List (List ℕ) → MadeRecords
made_after records = record { records = records; last_handle = largest_handle records }

-- the handle after the last one, where there is one
abbrev pub next_handle : ℕ → Result ℕ FileFault
next_handle last = if last == 2 ^ 32 - 1 then Err OutOfRange else Ok (last + 1)

-- the bytes of a record with the handle, where its data fits
abbrev pub record_bytes : RecordData → ℕ → Result (List ℕ) FileFault
record_bytes contents handle = if data_fits contents then Ok (bytes_of (platform_record handle 0 contents)) else Err OutOfRange

-- these, which are a record as a repository has them
abbrev pub record_made : RecordData → ℕ → Result (List ℕ) FileFault
record_made contents handle = record_bytes contents handle >>= checked

-- where a repository has room for one more
abbrev pub with_room : List (List ℕ) → Result (List (List ℕ)) FileFault
with_room records = if nat_lt (length records) MAX_RECORDS then Ok records else Err OutOfRange

-- the records, and one more of this data with the next handle
unfoldable pub with_made : RecordData → MadeRecords → Result MadeRecords FileFault
with_made contents made = do
  handle ← next_handle made.last_handle
  pdr ← record_made contents handle
  before ← with_room made.records
  records ← with_record before pdr
  Ok (record { records = records; last_handle = handle })
