-- What a file brings: a firmware update package, or the image of a component.
use Rattle.std.specs.Prelude.{ℕ, nat_lt, Bool, ◌&&◌, List, length, Result, Ok, Err, if◌then◌else◌}
use Rattle.pldm_update.specs.PackageReading.{package_of}
use Rattle.pldm_update.specs.Packages.{Package}
use Rattle.pldm_update.specs.declared.package_fault.PackageFault.{PackageFault}
use Rattle.pldm_update.specs.declared.package_fault.PackageFault.TheVariants.{Identifier, Length}
use Rattle.mctpctl_update.specs.declared.brought.Brought.{Brought}
use Rattle.mctpctl_update.specs.declared.brought.Brought.TheVariants as variants
use Rattle.mctpctl_update.specs.declared.brought.TheConstants.{IDENTIFIER_BYTES}

pub data Contents : Type 0 where
  APackage : Package → Contents
  AnImage : List ℕ → Contents

-- fewer bytes than an identifier has, but one at least
abbrev pub is_short : List ℕ → Bool
is_short file = nat_lt 0 (length file) && nat_lt (length file) IDENTIFIER_BYTES

-- a file that does not begin with the identifier of a package is an image, also one that is too short for it
abbrev pub contents_by : List ℕ → Result Package PackageFault → Result Contents PackageFault
contents_by file (Ok p) = Ok (APackage p)
contents_by file (Err Identifier) = Ok (AnImage file)
contents_by file (Err Length) = if is_short file then Ok (AnImage file) else Err Length
contents_by file (Err fault) = Err fault

abbrev pub contents_of : List ℕ → Result Contents PackageFault
contents_of file = contents_by file (package_of file)

-- what a value of the program stands for
abbrev pub contents : Brought → Contents
contents (variants.Package p) = APackage p
contents (variants.Image bytes) = AnImage bytes.now

abbrev pub read_contents : Result Brought PackageFault → Result Contents PackageFault
read_contents (Ok brought) = Ok (contents brought)
read_contents (Err fault) = Err fault
