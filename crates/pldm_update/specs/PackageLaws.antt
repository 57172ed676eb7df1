-- Laws of firmware update packages over the definitions alone.
use Rattle.std.specs.Prelude.{◌≡◌, ℕ, List, Ok}
use Rattle.std.specs.Bool.{Decides}
use Rattle.pldm_update.specs.Applying.{applies_to, Applies}
use Rattle.pldm_update.specs.Packages.{Descriptor, Device, Package, HasPackage}
use Rattle.pldm_update.specs.PackageReading.{package_of}

-- the package that a file has is read from it
abbrev pub PackageReadBack : Type 0
PackageReadBack = (file : List ℕ) (p : Package) → HasPackage file p → package_of file ≡ Ok p

-- no file has two packages
abbrev pub OnePackage : Type 0
OnePackage = (file : List ℕ) (p other : Package) → HasPackage file p → HasPackage file other → p ≡ other

-- the test of a record says that each of its descriptors is one of the device's
abbrev pub RecordsApply : Type 0
RecordsApply =
    (identifiers : List Descriptor) (device : Device) → Decides (applies_to identifiers device) (Applies identifiers device)
