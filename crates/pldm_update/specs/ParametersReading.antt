-- The firmware that a device has, read from the data of an answer, or the first fault.
use Rattle.std.specs.Prelude.{ℕ, ◌==◌, nat_lt, not, List, [], length, Result, Ok, Err}
use Rattle.pldm_update.specs.PackageFields.{◌>>=◌, Field, byte_at, list_at, many_at, number_at, refused}
use Rattle.pldm_update.specs.Parameters.{ComponentVersion, ComponentParameters, FirmwareParameters}
use Rattle.pldm_update.specs.VersionTexts.{version_text}
use Rattle.pldm_update.specs.declared.limits.TheConstants.{MAX_UPDATE_DATA, RELEASE_BYTES}
use Rattle.pldm_update.specs.declared.package_fault.PackageFault.{PackageFault}
use Rattle.pldm_update.specs.declared.package_fault.PackageFault.TheVariants.{Length}

-- a version whose string, of so many bytes, comes later
pub record VersionHead : Type 0 where
  pub comparison_stamp : ℕ
  pub string_type : ℕ
  pub count : ℕ
  pub release : List ℕ

unfoldable pub version_at : List ℕ → Field VersionHead
version_at bytes = do
  comparison_stamp ← number_at 4 bytes
  string_type ← byte_at comparison_stamp.1
  count ← byte_at string_type.1
  release ← list_at RELEASE_BYTES count.1
  Ok (
    record {
      comparison_stamp = comparison_stamp.0;
      string_type = string_type.0;
      count = count.0;
      release = release.0;
    },
    release.1,
  )

abbrev pub with_text : VersionHead → List ℕ → ComponentVersion
with_text head text = record {
  comparison_stamp = head.comparison_stamp;
  version = version_text head.string_type text;
  release = head.release;
}

unfoldable pub component_at : List ℕ → Field ComponentParameters
component_at bytes = do
  classification ← number_at 2 bytes
  identifier ← number_at 2 classification.1
  index ← byte_at identifier.1
  active ← version_at index.1
  pending ← version_at active.1
  activation_methods ← number_at 2 pending.1
  capabilities ← number_at 4 activation_methods.1
  active_text ← list_at active.0.count capabilities.1
  pending_text ← list_at pending.0.count active_text.1
  Ok (
    record {
      component = record { classification = classification.0; identifier = identifier.0; index = index.0 };
      active = with_text active.0 active_text.0;
      pending = with_text pending.0 pending_text.0;
      activation_methods = activation_methods.0;
      capabilities = capabilities.0;
    },
    pending_text.1,
  )

-- the fields one after another, of data that fits one answer; nothing is left after the last component
unfoldable pub parameters_at : List ℕ → Result FirmwareParameters PackageFault
parameters_at bytes =
    refused (nat_lt MAX_UPDATE_DATA (length bytes)) Length (do
      capabilities ← number_at 4 bytes
      count ← number_at 2 capabilities.1
      active_type ← byte_at count.1
      active_count ← byte_at active_type.1
      pending_type ← byte_at active_count.1
      pending_count ← byte_at pending_type.1
      active ← list_at active_count.0 pending_count.1
      pending ← list_at pending_count.0 active.1
      components ← many_at component_at count.0 pending.1
      refused (not (length components.1 == 0)) Length (Ok (record {
        capabilities = capabilities.0;
        active = version_text active_type.0 active.0;
        pending = version_text pending_type.0 pending.0;
        components = components.0;
      })))

-- the parameters that were read
unfoldable pub parameters_read : Result FirmwareParameters PackageFault → FirmwareParameters
parameters_read (Ok parameters) = parameters
parameters_read (Err fault) = record {
  capabilities = 0;
  active = version_text 0 [];
  pending = version_text 0 [];
  components = [];
}
