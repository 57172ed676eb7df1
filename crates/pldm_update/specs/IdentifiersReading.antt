-- Descriptors of a firmware device read from the data of an answer, or the first fault.
use Rattle.std.specs.Prelude.{ℕ, ◌==◌, nat_lt, not, List, [], length, Result, Ok, Err}
use Rattle.pldm_update.specs.PackageFields.{◌>>=◌, byte_at, many_at, number_at, refused}
use Rattle.pldm_update.specs.PackageReading.{descriptor_at}
use Rattle.pldm_update.specs.Packages.{Descriptor}
use Rattle.pldm_update.specs.declared.fault.UpdateFault.{UpdateFault}
use Rattle.pldm_update.specs.declared.fault.UpdateFault.TheVariants as update
use Rattle.pldm_update.specs.declared.limits.TheConstants.{MAX_UPDATE_DATA}
use Rattle.pldm_update.specs.declared.package_fault.PackageFault.{PackageFault}
use Rattle.pldm_update.specs.declared.package_fault.PackageFault.TheVariants.{Length, Value}

-- The stated length is that of what follows the count, which fits one answer; there is a descriptor; nothing is left
-- after the last.
unfoldable pub identifiers_at : List ℕ → Result (List Descriptor) PackageFault
identifiers_at bytes = do
  size ← number_at 4 bytes
  count ← byte_at size.1
  refused (not (size.0 == length count.1)) Length (refused (nat_lt MAX_UPDATE_DATA (length bytes)) Length
      (refused (count.0 == 0) Value (do
        descriptors ← many_at descriptor_at count.0 count.1
        refused (not (length descriptors.1 == 0)) Length (Ok descriptors.0))))

-- the descriptors that were read
unfoldable pub descriptors_read : Result (List Descriptor) PackageFault → List Descriptor
descriptors_read (Ok descriptors) = descriptors
descriptors_read (Err fault) = []

-- a fault of a field as one of an answer
abbrev pub fault_of_field : PackageFault → UpdateFault
fault_of_field Value = update.Value
fault_of_field _ = update.Length

abbrev pub or_field_fault : {A : Type 0} → Result A PackageFault → Result A UpdateFault
or_field_fault (Ok value) = Ok value
or_field_fault (Err fault) = Err (fault_of_field fault)
