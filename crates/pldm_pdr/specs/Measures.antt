-- The units of a numeric sensor or effecter, and how its numbers become values (DSP0248, "Numeric sensor PDR" and
-- "Numeric effecter PDR").
use Rattle.std.specs.Prelude.{ℕ, List, ◌++◌, Ok}
use Rattle.std.specs.Prelude.{FitsSigned}
use Rattle.std.specs.Int.{w8}
use Rattle.byteorder.specs.Endian.{little_bytes}
use Rattle.pldm_wire.specs.Numbers.{IsU8, IsU16, IsU32}
use Rattle.pldm_wire.specs.Sizes.{size_code}
use Rattle.pldm_pdr.specs.declared.units.Units.{Units}
use Rattle.pldm_pdr.specs.declared.conversion.Conversion.{Conversion}
use Rattle.pldm_pdr.specs.Fields.{◌>>=◌, Field, byte, byte_at, flag, flag_at, number_at, signed_byte, signed_byte_at, size_at}

abbrev pub units_bytes : Units → List ℕ
units_bytes units =
    byte units.base_unit ++ signed_byte units.unit_modifier ++ byte units.rate_unit ++ byte units.base_oem_unit_handle
    ++ byte units.auxiliary_unit ++ signed_byte units.auxiliary_unit_modifier ++ byte units.auxiliary_rate_unit

abbrev pub IsUnits : Units → Type 0
IsUnits units =
    IsU8 units.base_unit × FitsSigned w8 units.unit_modifier × IsU8 units.rate_unit × IsU8 units.base_oem_unit_handle
    × IsU8 units.auxiliary_unit × FitsSigned w8 units.auxiliary_unit_modifier × IsU8 units.auxiliary_rate_unit

unfoldable pub units_at : List ℕ → Field Units
units_at bytes = do
  base ← byte_at bytes
  modifier ← signed_byte_at base.1
  rate ← byte_at modifier.1
  oem ← byte_at rate.1
  auxiliary ← byte_at oem.1
  auxiliary_modifier ← signed_byte_at auxiliary.1
  auxiliary_rate ← byte_at auxiliary_modifier.1
  Ok (
    record {
      base_unit = base.0;
      unit_modifier = modifier.0;
      rate_unit = rate.0;
      base_oem_unit_handle = oem.0;
      auxiliary_unit = auxiliary.0;
      auxiliary_unit_modifier = auxiliary_modifier.0;
      auxiliary_rate_unit = auxiliary_rate.0;
    },
    auxiliary_rate.1,
  )

abbrev pub conversion_bytes : Conversion → List ℕ
conversion_bytes conversion =
    flag conversion.is_linear ++ byte (size_code conversion.size) ++ little_bytes 4 conversion.resolution
    ++ little_bytes 4 conversion.offset ++ little_bytes 2 conversion.accuracy ++ byte conversion.plus_tolerance
    ++ byte conversion.minus_tolerance

abbrev pub IsConversion : Conversion → Type 0
IsConversion conversion =
    IsU32 conversion.resolution × IsU32 conversion.offset × IsU16 conversion.accuracy × IsU8 conversion.plus_tolerance
    × IsU8 conversion.minus_tolerance

unfoldable pub conversion_at : List ℕ → Field Conversion
conversion_at bytes = do
  is_linear ← flag_at bytes
  size ← size_at is_linear.1
  resolution ← number_at 4 size.1
  offset ← number_at 4 resolution.1
  accuracy ← number_at 2 offset.1
  plus ← byte_at accuracy.1
  minus ← byte_at plus.1
  Ok (
    record {
      is_linear = is_linear.0;
      size = size.0;
      resolution = resolution.0;
      offset = offset.0;
      accuracy = accuracy.0;
      plus_tolerance = plus.0;
      minus_tolerance = minus.0;
    },
    minus.1,
  )
