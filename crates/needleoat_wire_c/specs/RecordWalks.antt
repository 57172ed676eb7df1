-- An array walked from record to record: those in front, and what is left after them.
use Rattle.std.specs.Prelude.{ℕ, zero, suc, ◌+◌, ◌-◌, ◌==◌, nat_le, Bool, ◌&&◌, List, [], ◌∷◌, length, take, drop}
use Rattle.std.specs.Prelude.{Option, Some, None, if◌then◌else◌}
use Rattle.pldm_wire.specs.declared.answer.Answer.{Answer}
use Rattle.pldm_wire.specs.declared.answer.Answer.TheVariants.{Refused}
use Rattle.pldm_platform.specs.declared.refusals.TheConstants.{INVALID_RECORD_HANDLE}
use Rattle.pldm_records.specs.RecordAnswers.{record_answered}
use Rattle.pldm_records.specs.Records.{data_length_of, handle_at, handle_of, is_record, largest_record_size}
use Rattle.pldm_records.specs.Records.{repository_size}
use Rattle.pldm_records.specs.declared.limits.TheConstants.{FIRST_RECORD, MAX_RECORDS, RECORD_HEADER}
use Rattle.needleoat_wire_c.specs.RecordArrays.{have_own_handles}
use Rattle.needleoat_wire_c.specs.declared.record_array.Summary.{Summary}

-- how many bytes the record in front has, by its header
abbrev pub first_size : List ℕ → ℕ
first_size bytes = RECORD_HEADER + data_length_of bytes

-- so many bytes, or all where there are fewer
abbrev pub first_bytes : List ℕ → List ℕ
first_bytes bytes = take (first_size bytes) bytes

-- the record in front and what comes after it, where there is one
unfoldable pub first_record : List ℕ → Option (List ℕ × List ℕ)
first_record bytes =
    if is_record (first_bytes bytes) then Some (first_bytes bytes, drop (first_size bytes) bytes) else None

-- the records after so many bytes
unfoldable pub records_after : ℕ → List ℕ → List (List ℕ)
records_after skip [] = []
records_after zero (b ∷ bytes) =
    if is_record (first_bytes (b ∷ bytes)) then
    first_bytes (b ∷ bytes) ∷ records_after (first_size (b ∷ bytes) - 1) bytes
    else []
records_after (suc skip) (b ∷ bytes) = records_after skip bytes

-- the records in front
unfoldable pub records_in : List ℕ → List (List ℕ)
records_in bytes = records_after 0 bytes

-- what is left of the bytes after so many, where the records that then come are taken away
unfoldable pub left_after : ℕ → List ℕ → List ℕ
left_after skip [] = []
left_after zero (b ∷ bytes) =
    if is_record (first_bytes (b ∷ bytes)) then left_after (first_size (b ∷ bytes) - 1) bytes else b ∷ bytes
left_after (suc skip) (b ∷ bytes) = left_after skip bytes

-- what is left after the records in front
unfoldable pub left_in : List ℕ → List ℕ
left_in bytes = left_after 0 bytes

-- whether the bytes are records that a repository may have, and nothing else
abbrev pub are_records : List ℕ → Bool
are_records bytes =
    (length (left_in bytes) == 0) && have_own_handles (records_in bytes)
    && nat_le (length (records_in bytes)) MAX_RECORDS

-- the number of records, their bytes, and those of the largest
abbrev pub summary : List (List ℕ) → Summary
summary records =
    record { count = length records; size = repository_size records; largest = largest_record_size records }

abbrev pub summary_in : List ℕ → Option Summary
summary_in bytes = if are_records bytes then Some (summary (records_in bytes)) else None

-- the records from the one with this handle on
abbrev pub from_handle : ℕ → List (List ℕ) → List (List ℕ)
from_handle handle [] = []
from_handle handle (pdr ∷ records) = if handle_of pdr == handle then pdr ∷ records else from_handle handle records

-- those from the one on that a command asks for by its handle
abbrev pub from_asked : ℕ → List (List ℕ) → List (List ℕ)
from_asked handle records = if handle == FIRST_RECORD then records else from_handle handle records

-- the part that is asked for of the first of them
abbrev pub first_answer : ℕ → ℕ → ℕ → List (List ℕ) → Answer
first_answer data_transfer_handle transfer_operation_flag request_count [] = Refused INVALID_RECORD_HANDLE
first_answer data_transfer_handle transfer_operation_flag request_count (pdr ∷ records) =
    record_answered (handle_at 0 records) data_transfer_handle transfer_operation_flag request_count (Some pdr)
