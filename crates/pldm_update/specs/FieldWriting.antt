-- The bytes that the fields of data are written as.
use Rattle.std.specs.Prelude.{ℕ, List, [], ◌∷◌}
use Rattle.byteorder.specs.Endian.{little_bytes}
use Rattle.pldm_update.specs.declared.field.Field.{Field}
use Rattle.pldm_update.specs.declared.field.Field.TheVariants.{U8, U16, U32, U64, Bytes}

abbrev pub written_bytes : Field → List ℕ
written_bytes (U8 number) = number ∷ []
written_bytes (U16 number) = little_bytes 2 number
written_bytes (U32 number) = little_bytes 4 number
written_bytes (U64 number) = little_bytes 8 number
written_bytes (Bytes bytes) = bytes.now
