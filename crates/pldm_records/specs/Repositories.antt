-- How a repository keeps its records.
use Rattle.std.specs.Prelude.{◌≡◌, ℕ, ◌*◌, ◌≤◌, List, length}
use Rattle.pldm_records.specs.ById.{ById, with_id}
use Rattle.pldm_records.specs.Records.{largest_record_size, position_of, repository_size}
use Rattle.pldm_records.specs.declared.limits.TheConstants.{MAX_RECORDS}
use Rattle.pldm_records.specs.declared.limits.TheConstants.{MAX_RECORD_BYTES}

-- the positions are those of the records by their handle; the sizes are those of the records, which
-- are few enough that they fit
pub record IsIndexed (records : List (List ℕ)) (positions : ById ℕ) (size largest : ℕ) : Type 0 where
  pub by_handle : (handle : ℕ) → with_id handle positions ≡ position_of handle records
  pub size_is : size ≡ repository_size records
  pub largest_is : largest ≡ largest_record_size records
  pub count : length records ≤ MAX_RECORDS
  pub small : size ≤ length records * MAX_RECORD_BYTES
