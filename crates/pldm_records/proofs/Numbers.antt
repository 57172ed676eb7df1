-- Every constant of the source, written a second time.
use Rattle.std.proofs.Common.{◌≡◌, refl}
use Rattle.pldm_records.specs.declared.limits.TheConstants.{MAX_RECORDS, RECORD_HEADER}
use Rattle.pldm_records.specs.declared.limits.TheConstants.{MAX_RECORD_BYTES, CHANGE_NUMBER_END}
use Rattle.pldm_records.specs.declared.limits.TheConstants.{HEADER_VERSION, NO_RECORD, FIRST_RECORD}
use Rattle.pldm_records.specs.declared.limits.TheConstants.{REPOSITORY_AVAILABLE, NO_TRANSFER_TIMEOUT}

most_records : MAX_RECORDS ≡ 1000
most_records = refl

record_header : RECORD_HEADER ≡ 10
record_header = refl

most_record_bytes : MAX_RECORD_BYTES ≡ 65545
most_record_bytes = refl

change_number_end : CHANGE_NUMBER_END ≡ 8
change_number_end = refl

header_version : HEADER_VERSION ≡ 1
header_version = refl

no_record : NO_RECORD ≡ 0
no_record = refl

first_record : FIRST_RECORD ≡ 0
first_record = refl

repository_available : REPOSITORY_AVAILABLE ≡ 0
repository_available = refl

no_transfer_timeout : NO_TRANSFER_TIMEOUT ≡ 0
no_transfer_timeout = refl
