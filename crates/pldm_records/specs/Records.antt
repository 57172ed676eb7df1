-- The records of a PDR repository, and the parts in which GetPDR returns one (DSP0248, "PDR
-- Repository", "Common PDR format" and "GetPDR command").
use Rattle.std.specs.Prelude.{ℕ, ◌+◌, ◌==◌, nat_le, min, max, Bool, true, false, ◌&&◌, not, List, [], ◌∷◌}
use Rattle.std.specs.Prelude.{length, take, drop, slice_get, slice_index, Option, Some, None, if◌then◌else◌}
use Rattle.std.specs.List.{position, sum_by}
use Rattle.pldm_wire.specs.Crc.{crc}
use Rattle.pldm_wire.specs.Places.{u16_at, u32_at}
use Rattle.pldm_wire.specs.RecordParts.{Part, part}
use Rattle.pldm_wire.specs.TransferFlags.{is_end}
use Rattle.pldm_wire.specs.declared.limits.TheConstants.{MAX_PART_BYTES}
use Rattle.pldm_wire.specs.declared.transfer_flag.TransferFlag.{TransferFlag}
use Rattle.pldm_wire.specs.declared.transfer_flag.TransferFlag.TheVariants.{Start, Middle, End, StartAndEnd}
use Rattle.pldm_records.specs.declared.limits.TheConstants.{FIRST_RECORD, HEADER_VERSION}
use Rattle.pldm_records.specs.declared.limits.TheConstants.{MAX_RECORD_BYTES, NO_RECORD, RECORD_HEADER}

-- A record begins with its handle, the version of its header, its type, its change number, and how
-- many bytes of data follow these ten.

abbrev pub handle_of : List ℕ → ℕ
handle_of pdr = u32_at 0 pdr

abbrev pub header_version_of : List ℕ → ℕ
header_version_of pdr = slice_index pdr 4

abbrev pub data_length_of : List ℕ → ℕ
data_length_of pdr = u16_at 8 pdr

abbrev pub change_number_of : List ℕ → ℕ
change_number_of pdr = u16_at 6 pdr

-- whether the bytes are a record: a whole header that counts the bytes after it
abbrev pub is_record : List ℕ → Bool
is_record bytes =
    nat_le RECORD_HEADER (length bytes) && nat_le (length bytes) MAX_RECORD_BYTES && not (handle_of bytes == NO_RECORD)
    && (header_version_of bytes == HEADER_VERSION) && (length bytes == RECORD_HEADER + data_length_of bytes)

-- The repository is the list of its records.

-- where the record with the handle is, if there is one
abbrev pub position_of : ℕ → List (List ℕ) → Option ℕ
position_of handle records = position (λ pdr. handle_of pdr == handle) records

-- where the record is that a command asks for by its handle
abbrev pub position_asked : ℕ → List (List ℕ) → Option ℕ
position_asked handle records = if handle == FIRST_RECORD then Some 0 else position_of handle records

abbrev pub handle_if_any : Option (List ℕ) → ℕ
handle_if_any None = NO_RECORD
handle_if_any (Some pdr) = handle_of pdr

-- the handle of the record at a place, or that of no record
abbrev pub handle_at : ℕ → List (List ℕ) → ℕ
handle_at place records = handle_if_any (slice_get records place)

-- the bytes of all records
abbrev pub repository_size : List (List ℕ) → ℕ
repository_size records = sum_by length records

-- the bytes of the largest record
abbrev pub largest_record_size : List (List ℕ) → ℕ
largest_record_size [] = 0
largest_record_size (pdr ∷ records) = max (length pdr) (largest_record_size records)

-- A part of a record, from an offset on, for a request of so many bytes.

abbrev pub part_bytes : List ℕ → ℕ → ℕ → List ℕ
part_bytes pdr offset count = take (min count MAX_PART_BYTES) (drop offset pdr)

-- the offset after the part
abbrev pub offset_after : List ℕ → ℕ → ℕ → ℕ
offset_after pdr offset count = offset + length (part_bytes pdr offset count)

-- whether the part has the record's last byte
abbrev pub is_last_part : List ℕ → ℕ → ℕ → Bool
is_last_part pdr offset count = nat_le (length pdr) (offset_after pdr offset count)

-- the flag of the first or a later part, with more to come or not
abbrev pub flag_of_part : Bool → Bool → TransferFlag
flag_of_part true false = Start
flag_of_part true true = StartAndEnd
flag_of_part false false = Middle
flag_of_part false true = End

abbrev pub part_flag : List ℕ → ℕ → ℕ → TransferFlag
part_flag pdr offset count = flag_of_part (offset == 0) (is_last_part pdr offset count)

-- the whole record's checksum comes with the last of several parts alone
abbrev pub checksum_with : TransferFlag → List ℕ → Option ℕ
checksum_with flag pdr = if is_end flag then Some (crc pdr) else None

abbrev pub part_of : List ℕ → ℕ → ℕ → Part
part_of pdr offset count =
    let flag = part_flag pdr offset count in part flag (part_bytes pdr offset count) (checksum_with flag pdr)

-- the transfer handle of the next part is its offset; there is none after the last
abbrev pub next_data_transfer_handle : List ℕ → ℕ → ℕ → ℕ
next_data_transfer_handle pdr offset count =
    if is_last_part pdr offset count then 0 else offset_after pdr offset count
