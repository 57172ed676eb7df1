-- A law of records over the definitions alone.
use Rattle.std.specs.Prelude.{◌≢◌, IsTrue}
use Rattle.pldm_pdr.specs.Records.{IsRecord, PlatformRecord, bytes_of}
use Rattle.pldm_records.specs.Records.{is_record}
use Rattle.needleoat_wire_c.specs.declared.record_writing.TheConstants.{NO_RECORD}

-- what a record is written as, is a record of an array
abbrev pub WrittenIsRecord : Type 0
WrittenIsRecord = (r : PlatformRecord) → IsRecord r → r.handle ≢ NO_RECORD → IsTrue (is_record (bytes_of r))
