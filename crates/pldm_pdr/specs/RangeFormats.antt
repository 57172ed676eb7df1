-- The formats of range fields (DSP0248, "rangeFieldFormat").
use Rattle.std.specs.Prelude.{ℕ, ◌==◌, List, [], ◌∷◌, Option, Some, None, Ok, Err, if◌then◌else◌}
use Rattle.pldm_wire.specs.Sizes.{size_code, size_of}
use Rattle.pldm_wire.specs.declared.size.Size.{Size}
use Rattle.pldm_wire.specs.declared.size.Size.TheVariants.{Uint32}
use Rattle.pldm_pdr.specs.declared.fault.RecordFault.TheVariants.{Short, Format}
use Rattle.pldm_pdr.specs.declared.range_format.RangeFormat.{RangeFormat}
use Rattle.pldm_pdr.specs.declared.range_format.RangeFormat.TheVariants.{Number, Real32}
use Rattle.pldm_pdr.specs.Fields.{Field}

-- the data size in which a field is kept: its own, or that of the bits of a real32
abbrev pub bits_size : RangeFormat → Size
bits_size (Number size) = size
bits_size Real32 = Uint32

abbrev pub format_code : RangeFormat → ℕ
format_code (Number size) = size_code size
format_code Real32 = 6

abbrev pub format_or : Option Size → List ℕ → Field RangeFormat
format_or None rest = Err Format
format_or (Some size) rest = Ok (Number size, rest)

unfoldable pub format_at : List ℕ → Field RangeFormat
format_at [] = Err Short
format_at (b ∷ rest) = if b == 6 then Ok (Real32, rest) else format_or (size_of b) rest
