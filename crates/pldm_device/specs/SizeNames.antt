-- The names of the data sizes, and the numbers of a size.
use Rattle.std.specs.Prelude.{ℕ, List, Option, Some, None, Result, Ok, Err, if◌then◌else◌}
use Rattle.toml.specs.Data.{Data, integer}
use Rattle.pldm_wire.specs.Sizes.{fits}
use Rattle.pldm_wire.specs.Numbers.{SizedNumber, sized}
use Rattle.pldm_wire.specs.declared.size.Size.{Size}
use Rattle.pldm_wire.specs.SizeNames.{size_named}
use Rattle.pldm_device.specs.declared.description_fault.FileFault.{FileFault}
use Rattle.pldm_device.specs.declared.description_fault.FileFault.TheVariants.{WrongKind, OutOfRange}
use Rattle.pldm_device.specs.KeyValues.{◌>>=◌, text_in}

-- a size, where the text named one
abbrev pub size_or_fault : Option Size → Result Size FileFault
size_or_fault (Some size) = Ok size
size_or_fault None = Err OutOfRange

abbrev pub size_of_name : List ℕ → Result Size FileFault
size_of_name name = size_or_fault (size_named name)

abbrev pub size_in : Data → Result Size FileFault
size_in value = text_in value >>= size_of_name

-- an integer that fits the size
abbrev pub sized_in : Size → Data → Result SizedNumber FileFault
sized_in size (integer number) = if fits size number then Ok (sized size number) else Err OutOfRange
sized_in size _ = Err WrongKind
