-- The commands of the PDR repository (DSP0248).
use Rattle.std.specs.Prelude.{ℕ, ◌+◌, ◌==◌, nat_le, nat_lt, List, length, slice_get, ◌||◌}
use Rattle.std.specs.Prelude.{Option, Some, None, if◌then◌else◌}
use Rattle.pldm_wire.specs.declared.answer.Answer.{Answer}
use Rattle.pldm_wire.specs.declared.answer.Answer.TheVariants.{Refused, GetPdr, GetPdrRepositoryInfo}
use Rattle.pldm_wire.specs.declared.assigned.TheConstants.{ERROR_INVALID_DATA}
use Rattle.pldm_records.specs.Records.{handle_at, largest_record_size, next_data_transfer_handle}
use Rattle.pldm_records.specs.Records.{part_of, position_asked, repository_size}
use Rattle.pldm_platform.specs.declared.refusals.TheConstants.{INVALID_DATA_TRANSFER_HANDLE, INVALID_RECORD_HANDLE, INVALID_TRANSFER_OPERATION}
use Rattle.pldm_records.specs.declared.limits.TheConstants.{NO_TRANSFER_TIMEOUT, REPOSITORY_AVAILABLE}
use Rattle.pldm_wire.specs.declared.limits.TheConstants.{GET_FIRST_PART}

-- the answer to GetPDRRepositoryInfo of records with these two times of their last change
abbrev pub repository_info : List ℕ → List ℕ → List (List ℕ) → Answer
repository_info update_time oem_update_time records =
    GetPdrRepositoryInfo REPOSITORY_AVAILABLE update_time oem_update_time (length records) (repository_size records)
    (largest_record_size records) NO_TRANSFER_TIMEOUT

-- the offset of the part that is asked for: the first part's, whatever the transfer handle, or the
-- transfer handle where a later part begins there
abbrev pub offset_asked : ℕ → ℕ → List ℕ → Option ℕ
offset_asked transfer_operation_flag data_transfer_handle pdr =
    if transfer_operation_flag == GET_FIRST_PART then Some 0
    else if (data_transfer_handle == 0) || nat_le (length pdr) data_transfer_handle then None
    else Some data_transfer_handle

-- the part of the record from the offset on, and the handle of the record after it
abbrev pub part_answered : ℕ → ℕ → List ℕ → Option ℕ → Answer
part_answered next_record_handle request_count pdr None = Refused INVALID_DATA_TRANSFER_HANDLE
part_answered next_record_handle request_count pdr (Some offset) =
    GetPdr next_record_handle (next_data_transfer_handle pdr offset request_count) (part_of pdr offset request_count)

abbrev pub record_answered : ℕ → ℕ → ℕ → ℕ → Option (List ℕ) → Answer
record_answered next_record_handle data_transfer_handle transfer_operation_flag request_count None =
    Refused INVALID_RECORD_HANDLE
record_answered next_record_handle data_transfer_handle transfer_operation_flag request_count (Some pdr) =
    part_answered next_record_handle request_count pdr (offset_asked transfer_operation_flag data_transfer_handle pdr)

-- the record at a place, if there is one
abbrev pub record_answer_at : ℕ → ℕ → ℕ → List (List ℕ) → Option ℕ → Answer
record_answer_at data_transfer_handle transfer_operation_flag request_count records None = Refused INVALID_RECORD_HANDLE
record_answer_at data_transfer_handle transfer_operation_flag request_count records (Some place) =
    record_answered (handle_at (place + 1) records) data_transfer_handle transfer_operation_flag request_count
    (slice_get records place)

-- the answer to GetPDR; the change number isn't looked at
abbrev pub record_answer : ℕ → ℕ → ℕ → ℕ → List (List ℕ) → Answer
record_answer record_handle data_transfer_handle transfer_operation_flag request_count records =
    if request_count == 0 then Refused ERROR_INVALID_DATA
    else if nat_lt GET_FIRST_PART transfer_operation_flag then Refused INVALID_TRANSFER_OPERATION
    else record_answer_at data_transfer_handle transfer_operation_flag request_count records
    (position_asked record_handle records)
