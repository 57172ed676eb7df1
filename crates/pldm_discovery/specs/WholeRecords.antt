-- What a fetch holds that is done.
use Rattle.std.specs.Prelude.{◌≡◌, ◌≤◌, length}
use Rattle.pldm_records.specs.Fetches.{Fetching}
use Rattle.pldm_records.specs.declared.fetch.Stage.TheVariants.{Finished}
use Rattle.pldm_records.specs.declared.limits.TheConstants.{RECORD_HEADER}

-- its bytes are a record
abbrev pub IsFetched : Fetching → Type 0
IsFetched f = (f.stage ≡ Finished) × (RECORD_HEADER ≤ length f.bytes)
